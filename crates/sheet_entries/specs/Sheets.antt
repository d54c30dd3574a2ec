-- The entries that take a sheet.
use Rattle.std.specs.Prelude.{◌≡◌, Bool, true, List, ℕ, length}
use Rattle.number.specs.Refusals.{refusal_no}
use Rattle.bits.specs.Bits.{has}
use Rattle.sheet.specs.Stmt.{size}
use Rattle.sheet.specs.Read.{SheetOutcome, sheet, faulty}
use Rattle.sheet.specs.Answer.{counts_of}
use Rattle.rules.specs.States.{fits}
use Rattle.builder.specs.Netlist.{netlist, sheet_netlist}
use Rattle.run.specs.Many.{Step, events_ok}
use Rattle.compiler.specs.Check.{Checks}
use Rattle.interpreter.specs.Interpret.{Moment}
use Rattle.verdicts.specs.declared.Answer.{Answer}
use Rattle.verdicts.specs.declared.Reading.{Reading}
use Rattle.verdicts.specs.Answers.{Verdict, passes, stops, verdict, answer_of, refusal, acceptance}
use Rattle.verdicts.specs.Runs.{Asked, Told, needed, has_room, Runs}

-- what reading alone answers: statements, halts, and signals with tick
unfoldable pub reading_of : SheetOutcome → Reading
reading_of (faulty f) = record { number = refusal_no f.refusal; place = f.place; statements = 0; halts = 0; signals = 0 }
reading_of (sheet w) =
    record { number = 0; place = 0; statements = (counts_of w).statements; halts = (counts_of w).halts; signals = (counts_of w).signals }

-- a sheet's own fault
unfoldable pub sheet_verdict : SheetOutcome → Verdict
sheet_verdict (faulty f) = stops f
sheet_verdict (sheet w) = passes

-- the answer of a sheet that nothing stops
unfoldable pub sheet_accepted : SheetOutcome → Answer
unfolding size netlist
sheet_accepted (faulty f) = refusal f
sheet_accepted (sheet w) = acceptance (size w.root) (length (sheet_netlist w))

-- Check a sheet: "number, place, statements, cells".
pub record Checked (s : List ℕ) (r : Answer) : Type 0 where
  pub outcome : SheetOutcome
  pub checks : Checks s outcome
  pub answer : r ≡ answer_of (sheet_verdict outcome) (sheet_accepted outcome)

-- whether a state fits the sheet; of a sheet that is refused nothing is asked
unfoldable pub sheet_fits : SheetOutcome → ℕ → Bool
unfolding fits
sheet_fits (faulty f) state = true
sheet_fits (sheet w) state = fits (has state) w.root

-- Fits: 0 with the counts, the sheet's fault, or STATE.
pub record Fitting (s : List ℕ) (state : ℕ) (r : Answer) : Type 0 where
  pub outcome : SheetOutcome
  pub checks : Checks s outcome
  pub answer : r ≡ answer_of (verdict (sheet_verdict outcome) true (sheet_fits outcome state) true 0) (sheet_accepted outcome)

-- whether the events are of the sheet's own inputs
unfoldable pub sheet_events : SheetOutcome → List ℕ → Bool
sheet_events (faulty f) events = true
sheet_events (sheet w) events = events_ok w.inputs events

-- one reaction of a sheet: a moment of the rules
unfoldable pub sheet_step : SheetOutcome → Step
sheet_step (faulty f) state event emissions next = ⊥
sheet_step (sheet w) state event emissions next = Moment w.root state event emissions next

-- The order of faults: the sheet's own; EVENT where any event is bad; STATE; BUFFER, at the length needed.
abbrev pub SheetRuns : SheetOutcome → Asked → Told → Type 0
SheetRuns o ask told =
    Runs (sheet_step o) (sheet_accepted o)
    (verdict (sheet_verdict o) (sheet_events o ask.events) (sheet_fits o ask.state) (has_room ask) (needed ask)) ask told

-- React by interpreter, to many events; a reaction is this `Once`.
pub record ReactedMany (s : List ℕ) (ask : Asked) (told : Told) : Type 0 where
  pub outcome : SheetOutcome
  pub checks : Checks s outcome
  pub answer : SheetRuns outcome ask told
