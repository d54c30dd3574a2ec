use native.Mathlib.Omega.{arith}
use Rattle.tracing.proofs.Outputs.{none_added, one_added, outputs_added}
use Rattle.tracing.proofs.outputs_of.Goals as goal

pub loop-s-init : goal.loop-s-init
loop-s-init c = (omega arith, rw c.from-first.ensures (none_added c.empty-set.ensures))

pub loop-s-preserved : goal.loop-s-preserved
loop-s-preserved c = (omega arith, one_added c.loop-s.invariant.0 c.loop-s.invariant.1 c.add-set.ensures)

pub returns : goal.returns
returns c = outputs_added (omega arith) (omega arith) c.loop-s.invariant.1
