use Rattle.bits.specs.Bits.{whole}
use Rattle.run.specs.React.{nets_in}
use Rattle.run.proofs.Numbering.{Feeding}
use Rattle.run.proofs.Ready.next_state.Given as goal

abbrev pub invariant-loop-k : goal.invariant-loop-k
invariant-loop-k l = Feeding l.self.operands.now (nets_in l.values) (whole l.w) l.k
