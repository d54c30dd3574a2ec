-- `set_pin` meets its contract: its two ways are the definition's cases.
use Rattle.cuts.specs.Cutting.{again, first}
use Rattle.cuts.proofs.Words.{ones}
use Rattle.cuts.proofs.Cutter.set_pin.Goals as goal

pub returns-then-self-n-clause-set : goal.returns-then-self-n-clause-set
returns-then-self-n-clause-set c = again (rw c.number-n.ensures at c.if-self-n.true) (rw c.number-n.ensures at c.alike.ensures)

pub returns-clause-set : goal.returns-clause-set
returns-clause-set c = rw c.number-n.ensures (first (rw c.number-n.ensures at c.if-self-n.false) ones)
