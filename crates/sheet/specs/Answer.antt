-- What is answered of a sheet that was read.
use Rattle.std.specs.Prelude.{◌+◌, Result, Ok, Err}
use Rattle.sheet.specs.declared.Counts.{Counts}
use Rattle.sheet.specs.Stmt.{size, halt_count, local_count}
use Rattle.sheet.specs.Read.{Sheet, SheetOutcome, sheet, faulty}
use Rattle.number.specs.declared.Fault.{Fault}

-- how many of each a sheet has; signals with tick
abbrev pub counts_of : Sheet → Counts
counts_of w =
    record {
      inputs = w.inputs;
      outputs = w.outputs;
      statements = size w.root;
      halts = halt_count w.root;
      signals = 1 + w.inputs + w.outputs + local_count w.root;
    }

unfoldable pub sheet_answer : SheetOutcome → Result Counts Fault
sheet_answer (sheet w) = Ok (counts_of w)
sheet_answer (faulty f) = Err f
