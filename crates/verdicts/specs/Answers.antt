-- "Numbers returned": the answers of the public entries.
use Rattle.std.specs.Prelude.{Bool, List, ℕ, Result, Ok, Err}
use Rattle.std.proofs.lemmas.List.Edits.{sets}
use Rattle.number.specs.declared.Fault.{Fault}
use Rattle.number.specs.declared.Refusal.TheVariants.{Event, State, Buffer}
use Rattle.number.specs.Number.{pick}
use Rattle.number.specs.Refusals.{refusal_no, fault}
use Rattle.bits.specs.Bits.{bits_of}
use Rattle.verdicts.specs.declared.Answer.{Answer}
use Rattle.verdicts.specs.declared.Course.{Course}
use Rattle.verdicts.specs.declared.Listing.{Listing}
use Rattle.verdicts.specs.declared.Reaction.{Reaction}

-- a fault that answers, or none
pub data Verdict : Type 0 where
  passes : Verdict
  stops : Fault → Verdict

-- The order of 13 to 15, after the form's own: 1 to 12 of a sheet (`Checks`, compiler), 1 to 4, 8, 16 and 12 of a netlist (`NetChecks`, netlists). "A
-- reaction, or the file writer, that is handed a faulty sheet or netlist, in any form, answers that fault before 13 or 15", "13 comes before 14": then EVENT
-- and STATE, place 0, and BUFFER, whose place is the "length needed".
unfoldable pub verdict : Verdict → Bool → Bool → Bool → ℕ → Verdict
unfolding pick
verdict (stops f) events state room needed = stops f
verdict passes events state room needed =
    pick events (pick state (pick room passes (stops (fault Buffer needed))) (stops (fault State 0))) (stops (fault Event 0))

-- "a refusal's counts and outputs are 0"
abbrev pub refusal : Fault → Answer
refusal f = record { number = refusal_no f.refusal; place = f.place; statements = 0; cells = 0 }

-- "0 is acceptance, place 0, with statement and cell counts"
abbrev pub acceptance : ℕ → ℕ → Answer
acceptance statements cells = record { number = 0; place = 0; statements = statements; cells = cells }

-- the refusal where something stops, and otherwise the acceptance
unfoldable pub answer_of : Verdict → Answer → Answer
answer_of (stops f) a = refusal f
answer_of passes a = a

-- "A lent buffer is written only on acceptance, and only as far as the file reaches."
unfoldable pub buffer_after : Verdict → List ℕ → List ℕ → List ℕ
buffer_after (stops f) file buffer = buffer
buffer_after passes file buffer = sets buffer 0 file

-- an answer with the numbers of inputs and outputs of a netlist whose cells are handed out
abbrev pub with_signals : Answer → ℕ → ℕ → Listing
with_signals a inputs outputs =
    record { number = a.number; place = a.place; statements = a.statements; cells = a.cells; inputs = inputs; outputs = outputs }

-- an answer with the state after the last event; "any refusal returns the state handed in"
abbrev pub with_state : Answer → ℕ → Course
with_state a state = record { number = a.number; place = a.place; statements = a.statements; cells = a.cells; state = bits_of state }

-- the answer to a run over one event, with the signals that it gave
abbrev pub reaction_of : Course → ℕ → Reaction
reaction_of c signals =
    record {
      number = c.number;
      place = c.place;
      statements = c.statements;
      cells = c.cells;
      signals = bits_of signals;
      state = c.state;
    }

-- the fault that stops a run, or none
unfoldable pub stop_of : Verdict → Result (Unit {0}) Fault
stop_of passes = Ok tt
stop_of (stops f) = Err f
