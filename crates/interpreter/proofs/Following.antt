-- The loop over many events: the moments so far are a run, and the state after them fits, so that the next event has its moment.
use mathlib.Core.Path.{◌≡◌, sym, ap, ◌∙◌}
use mathlib.Core.Bool.{true}
use mathlib.Core.List.{List}
use Prim.Native.Nat.{ℕ, ◌+◌, ◌*◌, ◌/◌, ◌<◌, ◌≤◌}
use native.Mathlib.Omega.{arith}
use lib.ListN.{length, get_or}
use lib.Seq.{sets}
use Rattle.number.specs.declared.HaltNo.{HaltNo}
use Rattle.number.specs.Counts.{halt_no}
use Rattle.bits.specs.Bits.{has, words, whole, words_of, sets_in}
use Rattle.bits.proofs.Columns.{sets_length}
use Rattle.sheet.specs.Stmt.{Stmt}
use Rattle.sheet.specs.Rows.{Holds}
use Rattle.rules.specs.declared.Yield.{Yield}
use Rattle.rules.specs.States.{fits}
use Rattle.rules.specs.Words.{Next, root}
use Rattle.rules.proofs.Walks.{holds_one}
use Rattle.run.specs.Words.{event_ok}
use Rattle.run.proofs.Going.{Upto, upto_none, signals_length, states_length, upto_next, upto_all, each_at}
use Rattle.interpreter.specs.Interpret.{Moment}
use Rattle.interpreter.specs.Settle.{Settling, AgreedAt}
use Rattle.interpreter.specs.Program.{MayRun, RanRows}
use Rattle.interpreter.proofs.Interpreting.{moment_at}
use Rattle.interpreter.proofs.Settling.{settling_rows}
use Rattle.interpreter.proofs.Alone.{fits_again}
use Rattle.sheet.specs.declared.Row.{Row}

module _ (rows : List Row) (asked start : ℕ) (events emissions states : List ℕ) where
  abbrev Pre : Type 0
  Pre = MayRun rows asked start events emissions states

  -- the loop has come to event j
  pub record Followed (emissions' states' : List ℕ) (state j : ℕ) : Type 0 where
    pub upto : (a : HaltNo) (t : Stmt) → Holds rows root a t → Upto (Moment t) start events emissions states emissions' states' state j
    pub fit : (p : MayRun rows asked start events emissions states) → fits (has state) p.read.root ≡ true

  pub followed_none : Followed emissions states start 0
  followed_none = record { upto = λ a t h. upto_none (Moment t) start events emissions states; fit = λ p. p.fit }

  module _ {emissions' states' : List ℕ} {state j : ℕ} (here : Followed emissions' states' state j) where
    pub followed_all : Pre → length events / words ≤ j → RanRows rows start events emissions emissions' states states' state
    followed_all p end =
        record {
          ran = λ a t h. upto_all (Moment t) start events emissions states (here.upto a t h) end;
          fit = record { answer = λ t h. sym (here.fit p) ∙ ap (fits (has state)) (one_held t h) };
        }
      where
        one_held : (t : Stmt) → Holds rows root (halt_no 0) t → p.read.root ≡ t
        one_held t h = holds_one rows root (halt_no 0) (halt_no 0) p.read.root t p.holds h

    module _ (p : Pre) where
      own_upto : Upto (Moment p.read.root) start events emissions states emissions' states' state j
      own_upto = here.upto (halt_no 0) p.read.root p.holds

      pub emissions_long : length emissions' ≡ length emissions
      emissions_long = signals_length (Moment p.read.root) start events emissions states own_upto

      pub states_long : length states' ≡ length states
      states_long = states_length (Moment p.read.root) start events emissions states own_upto

    module _ (h : j < length events / words) {event : ℕ} (is : get_or (sets_in events) j 0 ≡ event) where
      event_ok_lem : (p : Pre) → event_ok p.read.inputs event ≡ true
      event_ok_lem p = rw is at (each_at (event_ok p.read.inputs) (sets_in events) j (omega (arith, sets_length events)) p.own)

      pub followed_settling : Pre → Settling rows state event
      followed_settling p = settling_rows p.accepts p.holds (here.fit p) (event_ok_lem p)

      pub followed_next : {r : Yield} {next : ℕ} → AgreedAt rows state event r → Next r next
          → let emissions'' : List ℕ = sets emissions' (j * words) (words_of words (whole r.emits)) in
          let states'' : List ℕ = sets states' (j * words) (words_of words next) in
          Followed emissions'' states'' next (j + 1)
      followed_next {r} {next} agreed after =
          let moment : (a : HaltNo) (t : Stmt) → Holds rows root a t → Moment t state event (whole r.emits) next =
          λ a t holds. moment_at a t agreed after holds in
          record {
            upto =
                λ a t holds. upto_next (Moment t) start events emissions states (here.upto a t holds) (whole r.emits) next h is
                (moment a t holds);
            fit = λ p. fits_again p.accepts (event_ok_lem p) (here.fit p) (moment (halt_no 0) p.read.root p.holds);
          }
