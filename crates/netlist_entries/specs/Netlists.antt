-- The entries that take a netlist.
use Rattle.std.specs.Prelude.{◌≡◌, Bool, true, List, ℕ, length}
use Rattle.cells.specs.Values.{registers}
use Rattle.run.specs.Words.{state_ok}
use Rattle.run.specs.Many.{Step, events_ok}
use Rattle.run.specs.React.{Clock}
use Rattle.files.specs.Read.{FileOutcome, netlist, faulty}
use Rattle.netlists.specs.Check.{NetChecks}
use Rattle.verdicts.specs.declared.Answer.{Answer}
use Rattle.verdicts.specs.Answers.{Verdict, passes, stops, verdict, answer_of, refusal, acceptance}
use Rattle.verdicts.specs.Runs.{Asked, Told, needed, has_room, Runs}

-- a netlist's own fault
unfoldable pub net_verdict : FileOutcome → Verdict
net_verdict (faulty f) = stops f
net_verdict (netlist w) = passes

-- "(statements 0 for a file)"
unfoldable pub net_accepted : FileOutcome → Answer
net_accepted (faulty f) = refusal f
net_accepted (netlist w) = acceptance 0 (length w.cells)

-- Check a netlist: `found` is what reading its bytes, or judging its words, finds.
pub record NetChecked (found : FileOutcome) (r : Answer) : Type 0 where
  pub outcome : FileOutcome
  pub checks : NetChecks found outcome
  pub answer : r ≡ answer_of (net_verdict outcome) (net_accepted outcome)

-- "EVENT: a bit outside 1..I"; "STATE: .. for a netlist, bits past its registers"
unfoldable pub net_events : FileOutcome → List ℕ → Bool
net_events (faulty f) events = true
net_events (netlist w) events = events_ok w.inputs events

unfoldable pub net_state : FileOutcome → ℕ → Bool
unfolding registers
net_state (faulty f) state = true
net_state (netlist w) state = state_ok (registers w.cells) state

-- one reaction of a netlist: a clock
unfoldable pub net_step : FileOutcome → Step
net_step (faulty f) state event outputs next = ⊥
net_step (netlist w) state event outputs next = Clock w.inputs w.outputs w.cells state event outputs next

-- The order of faults: the netlist's own; EVENT where any event is bad; STATE; BUFFER, at the length needed.
abbrev pub NetRuns : FileOutcome → Asked → Told → Type 0
NetRuns o ask told =
    Runs (net_step o) (net_accepted o)
    (verdict (net_verdict o) (net_events o ask.events) (net_state o ask.state) (has_room ask) (needed ask)) ask told

-- React by netlist, to many events: `found` is what reading its bytes, or judging its words, finds. A reaction is this `Once`.
pub record NetReactedMany (found : FileOutcome) (ask : Asked) (told : Told) : Type 0 where
  pub outcome : FileOutcome
  pub checks : NetChecks found outcome
  pub answer : NetRuns outcome ask told
