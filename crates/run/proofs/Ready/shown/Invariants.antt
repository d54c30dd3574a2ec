use Rattle.bits.specs.Bits.{whole}
use Rattle.run.specs.React.{nets_in}
use Rattle.run.proofs.Showing.{Shown}
use Rattle.run.proofs.Ready.shown.Given as goal

abbrev pub invariant-loop-s : goal.invariant-loop-s
invariant-loop-s l = Shown l.self.inputs l.self.outputs (nets_in l.values) (whole l.w) l.s
