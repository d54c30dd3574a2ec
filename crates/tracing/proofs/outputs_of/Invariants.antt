-- The loop's invariant: the outputs below s are in the set.
use Prim.Native.Nat.{◌<◌}
use Rattle.bits.specs.Bits.{whole}
use Rattle.tracing.proofs.Outputs.{Added}
use Rattle.tracing.proofs.outputs_of.Given as goal

abbrev pub invariant-loop-s : goal.invariant-loop-s
invariant-loop-s l = (l.inputs < l.s) × Added l.inputs l.s (whole l.set)
