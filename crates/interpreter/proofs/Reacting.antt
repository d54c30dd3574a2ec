-- The reactions of a program in columns are those of the sheet that it stands for.
use mathlib.Core.Path.{◌≡◌, sym, ap, ◌∙◌}
use mathlib.Core.Bool.{Bool, true, ◌&&◌}
use mathlib.Core.List.{List}
use Prim.Native.Nat.{ℕ, ◌<◌}
use native.Mathlib.Omega.{arith}
use lib.Dec.{leb}
use lib.ListN.{length}
use Rattle.number.specs.declared.Fault.{Fault}
use Rattle.number.specs.declared.HaltNo.{HaltNo}
use Rattle.number.specs.Counts.{halt_no}
use Rattle.number.proofs.Bools.{and_right}
use Rattle.limits.specs.Limits.{max_signals}
use Rattle.bits.specs.Bits.{has, whole, is_whole, sets_in}
use Rattle.bits.specs.declared.Bits.{Bits}
use Rattle.bits.proofs.Whole.{Proper, bits_whole}
use Rattle.sheet.specs.declared.Counts.{Counts}
use Rattle.sheet.specs.Stmt.{Stmt}
use Rattle.sheet.specs.Read.{Sheet}
use Rattle.sheet.specs.Rows.{Holds}
use Rattle.rules.specs.States.{fits}
use Rattle.rules.specs.Words.{root, Fitted, KnownRoot}
use Rattle.rules.proofs.Walks.{holds_one}
use Rattle.rules.proofs.Fitting.{known_proper}
use Rattle.run.specs.Words.{event_ok}
use Rattle.run.specs.Many.{each, events_ok}
use Rattle.verdicts.specs.declared.Answer.{Answer}
use Rattle.verdicts.specs.declared.Course.{Course}
use Rattle.verdicts.specs.declared.Reaction.{Reaction}
use Rattle.verdicts.specs.Answers.{passes, verdict, refusal, acceptance, with_state, stop_of}
use Rattle.verdicts.specs.Runs.{Asked, Told, needed, has_room, Once}
use Rattle.verdicts.proofs.Running.{AllPass, stop_by, stop_none, all_pass, room_is, ran_stopped, ran_on}
use Rattle.interpreter.specs.declared.Program.{Program}
use Rattle.interpreter.specs.Tested.{asks, Covers, Tested}
use Rattle.interpreter.specs.Program.{PreparedAs, Prepared, MayRun, RanRows, AcceptedRuns, ProgramRuns, ProgramReacts}
use Rattle.interpreter.proofs.Interpreting.{accepted_proper}
use Rattle.std.specs.Prelude.{Result, Ok, Err}
use Rattle.sets.specs.declared.Entry.{Entry}
use Rattle.sheet.specs.declared.Row.{Row}

module _ {p : Program} {rows : List Row} {statics : List Entry} {w : Sheet} (is : PreparedAs p rows statics w) where
  pub inputs_few : p.counts.inputs < max_signals
  inputs_few = rw is.counts (omega (arith, (accepted_proper is.accepts).header))

  pub prepared_known : KnownRoot rows statics
  prepared_known = known_proper (accepted_proper is.accepts) is.holds is.kept

-- what the code asked: the events by the program's inputs, the state by its columns, and the slices' lengths
pub record Judged (p : Program) (rows : List Row) (ask : Asked) (n : ℕ) (own fit room : Bool) (r : Result (Unit {0}) Fault) : Type 0 where
  pub events_asked : own ≡ events_ok p.counts.inputs ask.events
  pub state_asked : Fitted rows ask.state fit
  pub length_asked : n ≡ needed ask
  pub room_asked : room ≡ (leb n (length ask.signals) && leb n (length ask.states))
  pub stop : r ≡ stop_of (verdict passes own fit room n)

module _ {p : Program} {rows : List Row} {ask : Asked} {n : ℕ} {own fit room : Bool} {r : Result (Unit {0}) Fault} (q : Judged p rows ask n own fit room r) where
  module _ {statics : List Entry} {w : Sheet} (is : PreparedAs p rows statics w) where
    own_events : own ≡ events_ok w.inputs ask.events
    own_events = q.events_asked ∙ ap (λ (c : Counts). events_ok c.inputs ask.events) is.counts

    fitting : fit ≡ fits (has ask.state) w.root
    fitting = q.state_asked.answer w.root is.holds

    -- it is what the order of faults asks
    asked_verdict : verdict passes (events_ok w.inputs ask.events) (fits (has ask.state) w.root) (has_room ask) (needed ask)
        ≡ verdict passes own fit room n
    asked_verdict = rw (own_events, fitting, q.room_asked, q.length_asked)

  pub program_stopped : {statics : List Entry} {f : Fault} → r ≡ Err f
      → ProgramRuns p rows statics ask
      (record { course = with_state (refusal f) ask.state; signals = ask.signals; states = ask.states })
  program_stopped is_by = record { runs = λ w is. ran_stopped (asked_verdict is ∙ stop_by _ (sym is_by ∙ q.stop)) }

  module _ (none : r ≡ Ok tt) where
    still : verdict passes own fit room n ≡ passes
    still = stop_none _ (sym none ∙ q.stop)

    passed : AllPass own fit room
    passed = all_pass own fit room n still

    pub may_run : {statics : List Entry} → Prepared p rows statics
        → MayRun rows (whole p.asks) ask.state ask.events ask.signals ask.states
    may_run k =
        let is = k.is in
        let events = ask.events in
        record {
          bytes = is.bytes;
          read = k.read;
          accepts = is.accepts;
          holds = is.holds;
          covers = is.covers;
          fit = sym (fitting is) ∙ passed.state_passes;
          own = and_right (is_whole events) (each (event_ok k.read.inputs) (sets_in events)) (sym (own_events is) ∙ passed.events_pass);
          room = room_is ask (rw q.length_asked at (sym q.room_asked ∙ passed.room_passes));
        }

    pub program_ran : {statics : List Entry} {last : ℕ} {signals' states' : List ℕ}
        → RanRows rows ask.state ask.events ask.signals signals' ask.states states' last
        → ProgramRuns p rows statics ask
        (record { course = with_state (acceptance p.counts.statements p.cells) last; signals = signals'; states = states' })
    program_ran did =
        record {
          runs = λ w is. rw (is.counts, is.count) (ran_on (asked_verdict is ∙ still) (did.ran (halt_no 0) w.root is.holds));
        }

-- a state that is handed back fits as it did
pub fitted_back : {rows : List Row} {a : Answer} {b : Bits} {r : Course} {fit : Bool} → Proper b.words → r ≡ with_state a (whole b)
    → Fitted rows (whole b) fit → fit ≡ true → Fitted rows (whole r.state) true
fitted_back p is f so = rw (is, ap whole (bits_whole p)) (rw so at f)

-- what covers the sheet that the rows hold covers whatever they hold
pub may_tested : {rows : List Row} {asked state : ℕ} {events emissions states : List ℕ} → MayRun rows asked state events emissions states
    → Tested rows root asked
may_tested {rows} {asked} p = record { tested = tested }
  where
    tested : (a : HaltNo) (t : Stmt) → Holds rows root a t → Covers asked (asks t)
    tested a t h = rw (holds_one rows root a (halt_no 0) t p.read.root h p.holds) p.covers

-- What is said of the reactions of the accepted sheet for which a program stands is so of the program's reaction: that the sheet's bytes are answered so, for one.
pub reacts_as : {p : Program} {rows : List Row} {statics : List Entry} {w : Sheet} {state event : ℕ} {r : Reaction} (many : Asked → Told → Type 0)
    → ((ask : Asked) (told : Told) → AcceptedRuns w ask told → many ask told) → PreparedAs p rows statics w
    → ProgramReacts p rows statics state event r → Once many state event r
reacts_as {w = w} many so is did = let once = did.reacts w is in record { told = once.told; ran = so _ _ once.ran; is = once.is }
