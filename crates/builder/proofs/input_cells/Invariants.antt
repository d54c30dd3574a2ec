use Prim.Native.Nat.{◌<◌}
use Rattle.limits.specs.Limits.{max_signals}
use Rattle.builder.proofs.Ends.{InputLoop}
use Rattle.builder.proofs.input_cells.Given as goal

abbrev pub invariant-loop-s : goal.invariant-loop-s
invariant-loop-s l = InputLoop l.initial.cells l.cells l.inputs l.s × (l.inputs < max_signals)
