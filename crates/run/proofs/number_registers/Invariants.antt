use mathlib.Core.Path.{◌≡◌}
use lib.ListN.{length}
use Rattle.cells.specs.Words.{cells_of}
use Rattle.run.proofs.Numbering.{Numbering}
use Rattle.run.proofs.number_registers.Given as goal

abbrev pub invariant-loop-i : goal.invariant-loop-i
invariant-loop-i l =
    Numbering (cells_of l.cells) l.places l.operands l.k l.i × (length l.places ≡ length l.initial.places) × (length l.operands ≡ length l.initial.operands)
