-- `meet` meets its contract: its two ways are the definition's cases.
use Rattle.cuts.specs.Cutting.{new, known}
use Rattle.cuts.proofs.Cutter.meet.Goals as goal

pub returns-then-self-n-clause-met : goal.returns-then-self-n-clause-met
returns-then-self-n-clause-met c = new (rw c.number-n.ensures at c.if-self-n.true)

pub returns-clause-met : goal.returns-clause-met
returns-clause-met c = rw c.number-n.ensures (known (rw c.number-n.ensures at c.if-self-n.false))
