-- The loop that applies the rules: its set E is what the rounds make, and where nothing changes that is asked for the next one agrees.
use mathlib.Core.Path.{◌≡◌, sym, ap, ◌∙◌, fun_ext}
use mathlib.Core.Bool.{Bool, true, ◌||◌, or_comm}
use mathlib.Core.List.{List}
use Prim.Native.Nat.{ℕ, suc, ◌+◌, ◌<◌, ◌≤◌}
use native.Mathlib.Omega.{arith}
use native.Mathlib.Decide.{dec_lt}
use lib.Dec.{eqb}
use Rattle.number.specs.declared.HaltNo.{HaltNo}
use Rattle.number.specs.declared.SignalNo.{SignalNo}
use Rattle.number.specs.Counts.{signal_no}
use Rattle.bits.specs.Bits.{has, signal_bit, signals_in, width, whole}
use Rattle.bits.specs.Code.{SameAt}
use Rattle.bits.proofs.Laws.{ext}
use Rattle.sheet.specs.Stmt.{Stmt}
use Rattle.sheet.specs.Read.{only}
use Rattle.sheet.specs.Rows.{Holds}
use Rattle.rules.specs.declared.Yield.{Yield}
use Rattle.rules.specs.Rules.{Signals, Outcome}
use Rattle.rules.specs.States.{tick, react}
use Rattle.rules.specs.Words.{Reacted, root}
use Rattle.rules.proofs.Walks.{holds_one}
use Rattle.agreement.specs.Rounds.{renewed, rounds}
use Rattle.interpreter.specs.Settle.{Settling, Agreed, AgreedAt}
use Rattle.interpreter.specs.Tested.{Tested}
use Rattle.interpreter.proofs.Asking.{alike_sets, same_react}
use Rattle.sheet.specs.declared.Row.{Row}

-- the set e is what so many rounds make, at most as many as it takes
pub record Reached {rows : List Row} {state event : ℕ} (p : Settling rows state event) (e round : ℕ) : Type 0 where
  pub within : round ≤ p.limit
  pub is : (s : SignalNo) → signals_in e s ≡ rounds (signals_in event) (has state) p.run.stmt round s

-- the sets of a round: tick was added to the event, and the emissions were joined to that
pub record Given (event given : ℕ) : Type 0 where
  pub adds : (j : ℕ) → has given j ≡ (has event j || eqb j 0)

pub record Joined (given emits next : ℕ) : Type 0 where
  pub joins : (j : ℕ) → has next j ≡ (has given j || has emits j)

module _ {event given : ℕ} (g : Given event given) where
  -- "tick, the event's inputs"
  given_is : (s : SignalNo) → signals_in given s ≡ (only tick s || signals_in event s)
  given_is s = g.adds (signal_bit s) ∙ or_comm (signals_in event s) (eqb (signal_bit s) 0)

  pub reached_first : {rows : List Row} {state : ℕ} (p : Settling rows state event) → Reached p given 0
  unfolding rounds
  reached_first p = record { within = omega arith; is = given_is }

  module _ {rows : List Row} {state e next : ℕ} {r : Yield} (reacts : Reacted rows e state r)
      (j : Joined given (whole r.emits) next) where
    -- one round: "and the emissions"
    renewed_is : (a : HaltNo) (t : Stmt) → Holds rows root a t → (s : SignalNo)
        → signals_in next s ≡ renewed (signals_in event) (has state) t (signals_in e) s
    renewed_is a t h s = rw (j.joins (signal_bit s), given_is s, (reacts.means a t h).emits s)

    -- nothing that the program asks for has changed: the renewed E agrees
    pub agrees_here : {w : ℕ} {b : Bool} → Tested rows root w → SameAt width w next e b → b ≡ true → AgreedAt rows state event r
    agrees_here c k same = record { agreed = agreed }
      where
        agreed : (a : HaltNo) (t : Stmt) → Holds rows root a t → Agreed t state event r
        agreed a t h =
            let alike = alike_sets k same t (c.tested a t h) in
            let reaction : react (signals_in next) (has state) t ≡ react (signals_in e) (has state) t =
            same_react (signals_in next) (signals_in e) (has state) t alike in
            record {
              present = signals_in next;
              agrees = λ s. renewed_is a t h s ∙ ap (λ (o : Outcome). (only tick s || signals_in event s) || o.emits s) (sym reaction);
              means = rw reaction (reacts.means a t h);
            }

    module _ (p : Settling rows state event) {round : ℕ} (here : Reached p e round) where
      next_is : (s : SignalNo) → signals_in next s ≡ rounds (signals_in event) (has state) p.run.stmt (suc round) s
      unfolding rounds
      next_is s =
          renewed_is p.run.first p.run.stmt p.run.holds s
          ∙ ap (λ (E : Signals). renewed (signals_in event) (has state) p.run.stmt E s) (fun_ext here.is)

      -- E has changed, so the rounds do not repeat yet
      before_limit : (next ≡ e → ⊥) → round < p.limit
      before_limit changed = go (dec_lt round p.limit)
        where
          go : Dec (round < p.limit) → round < p.limit
          go (yes h) = h
          go (no h) =
              let last : round ≡ p.limit = omega (arith, here.within) in
              let E : ℕ → Signals = rounds (signals_in event) (has state) p.run.stmt in
              let repeats : (s : SignalNo) → E (suc round) s ≡ E round s =
              rw last p.repeats in
              absurd (changed (ext next e (λ k. next_is (signal_no k) ∙ repeats (signal_no k) ∙ sym (here.is (signal_no k)))))

      pub reached_next : (next ≡ e → ⊥) → Reached p next (round + 1)
      reached_next changed =
          let more : round + 1 ≡ suc round = omega arith in
          record { within = omega (arith, before_limit changed); is = rw more next_is }

-- After so many rounds as it can take E is made of itself.
pub agrees_last : {rows : List Row} {state event e round : ℕ} {r : Yield} (p : Settling rows state event) → Reached p e round → p.limit ≤ round
    → Reacted rows e state r → AgreedAt rows state event r
unfolding rounds
agrees_last {rows} {state} {event} {e} {round} {r} p here past reacts = record { agreed = agreed }
  where
    E : ℕ → Signals
    E = rounds (signals_in event) (has state) p.run.stmt

    last : round ≡ p.limit
    last = omega (arith, here.within)

    same : signals_in e ≡ E p.limit
    same = fun_ext (λ s. rw last at (here.is s))

    agreed : (a : HaltNo) (t : Stmt) → Holds rows root a t → Agreed t state event r
    agreed a t h =
        let own : p.run.stmt ≡ t = holds_one rows root p.run.first a p.run.stmt t p.run.holds h in
        let made : (s : SignalNo) → signals_in e s ≡ renewed (signals_in event) (has state) p.run.stmt (signals_in e) s =
        λ s. ap (λ (F : Signals). F s) same ∙ sym (p.repeats s) ∙ ap (λ (F : Signals). renewed (signals_in event) (has state) p.run.stmt F s) (sym same) in
        record { present = signals_in e; agrees = rw own at made; means = reacts.means a t h }
