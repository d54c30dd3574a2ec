-- A run of the paper's rules from any state that fits is a chain of 004's transitions, with the same outputs.
use mathlib.Core.Path.{◌≡◌, sym, ◌∙◌, ap, subst, fun_ext}
use mathlib.Core.Bool.{Bool, true, false, ◌&&◌, ◌||◌}
use mathlib.Core.List.{List, ◌∷◌, map}
use Prim.Native.Nat.{ℕ, ◌+◌, ◌<◌}
use native.Mathlib.Omega.{arith}
use native.Mathlib.Decide.{dec_lt}
use borrow.Author.Tests.{lt-ltb, le-ltb, le-leb, lt-leb, ne_eqb}
use Rattle.number.specs.declared.SignalNo.{SignalNo}
use Rattle.number.specs.Counts.{of_signal}
use Rattle.number.proofs.Bools.{taut, and_left, and_right}
use Rattle.bits.specs.Bits.{has, signals_in}
use Rattle.sheet.specs.Stmt.{Stmt}
use Rattle.sheet.specs.Read.{Sheet, only}
use Rattle.rules.specs.Rules.{Signals, Outcome}
use Rattle.rules.specs.States.{State, tick, react, next_state, Event, fits}
use Rattle.rules.proofs.Again.{fits_again}
use Rattle.run.specs.Words.{is_output, event_ok}
use Rattle.run.specs.Many.{Steps, ended as no_event, goes as one_event, each}
use Rattle.run.proofs.Words.{event_no_tick, event_own}
use Rattle.compiler.specs.Check.{Accepted}
use Rattle.agreement.specs.Words.{RuleClock}
use Rattle.agreement.proofs.Admitted.{admitted}
use Rattle.agreement.proofs.Made.{not_emitted}
use Rattle.berry.specs.Modules.{body_in, Chain, ended, goes, outputs_of, move_on, Faithful}
use Rattle.berry.proofs.Promise.{faithful}

module _ {bytes : List ℕ} {w : Sheet} (ok : Accepted bytes w) where
  abbrev I : ℕ
  I = w.inputs

  abbrev O : ℕ
  O = w.outputs

  abbrev t : Stmt
  t = w.root

  -- the signals below 1+I+O that are emitted are the outputs that are present: neither tick nor an input is emitted, and an output is
  -- nothing else
  module _ (J E : Signals) (S : State) (event : Event I J) (s : SignalNo) where
    abbrev e : Bool
    e = (react E S t).emits s

    abbrev present : Bool
    present = (only tick s || J s) || e

    past_inputs : I < of_signal s → present ≡ e
    past_inputs l = rw (ne_eqb (of_signal s) 0 (λ z. omega arith), event.own s l)

    swapped : (a b : Bool) → (a && b) ≡ (true && b && a)
    swapped = taut 2 0 _ _ _ tt

    past : I < of_signal s → Dec (of_signal s < 1 + I + O) → outputs_of w (react E S t).emits s ≡ (is_output I O s && present)
    past l (yes m) =
        rw (past_inputs l, lt-ltb I (of_signal s) l, lt-ltb (of_signal s) (1 + I + O) m, le-leb (of_signal s) (I + O) (omega arith))
        (swapped e true)
    past l (no m) =
        let beyond = le-ltb (of_signal s) (1 + I + O) (omega arith) in
        rw (past_inputs l, lt-ltb I (of_signal s) l, beyond, lt-leb (of_signal s) (I + O) (omega arith)) (swapped e false)

    emitted_outputs : outputs_of w (react E S t).emits s ≡ (is_output I O s && present)
    emitted_outputs = go (dec_lt I (of_signal s))
      where
        go : Dec (I < of_signal s) → outputs_of w (react E S t).emits s ≡ (is_output I O s && present)
        go (yes l) = past l (dec_lt (of_signal s) (1 + I + O))
        go (no l) = rw (not_emitted (admitted ok).proper E S s (λ a b. omega arith), le-ltb I (of_signal s) (omega arith))

  pub chained : {state : ℕ} {events shown states : List ℕ} → each (event_ok I) events ≡ true → fits (has state) t ≡ true
      → Steps (RuleClock w) state events shown states → Chain (body_in (has state) t) (map signals_in events) (map signals_in shown)
  unfolding each
  chained own fit no_event = ended
  chained {state} own fit (one_event {event = e} {signals = out} {next = n} {events = es} {shown = os} clock rest) =
      let S : State = has state in
      let J : Signals = signals_in e in
      let E : Signals = signals_in clock.present in
      let o : Outcome = react E S t in
      let is_own = and_left (event_ok I e) (each (event_ok I) es) own in
      let event : Event I J = record { no_tick = event_no_tick I e is_own; own = event_own I e is_own } in
      let f : Faithful w S J o = faithful ok S fit J event E clock.agrees in
      let outputs : outputs_of w o.emits ≡ signals_in out =
      fun_ext λ s. emitted_outputs J E S event s ∙ sym (ap (λ (b : Bool). is_output I O s && b) (clock.agrees s)) ∙ sym (clock.shows s) in
      let next : has n ≡ next_state o = fun_ext clock.keeps in
      let fit_next : fits (has n) t ≡ true = rw next (fits_again (admitted ok).proper (admitted ok).no_instant E S fit) in
      let later : Chain (body_in (next_state o) t) (map signals_in es) (map signals_in os) =
      subst (λ (S' : State). Chain (body_in S' t) (map signals_in es) (map signals_in os)) next
      (chained (and_right (event_ok I e) (each (event_ok I) es) own) fit_next rest) in
      subst (λ (X : Signals). Chain (body_in S t) (map signals_in (e ∷ es)) (X ∷ map signals_in os)) outputs
      (goes {m = move_on w o} f.sole_with_halt later)
