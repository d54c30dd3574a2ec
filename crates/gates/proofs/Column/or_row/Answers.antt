-- `or_row` meets its contract: what is made before code j and what is left to make are the whole.
use borrow.Author.Rules.{rules}
use Rattle.gates.proofs.OrRow.{rowing_start, rowing_step, rowing_end}
use Rattle.gates.proofs.Column.or_row.Goals as goal

pub loop-j-init : goal.loop-j-init
loop-j-init c = rowing_start _ _ _ (search rules) (search rules)

pub loop-j-preserved : goal.loop-j-preserved
loop-j-preserved c = rowing_step _ c.loop-j.invariant c.loop-j-test.true c.gate-net.ensures

pub returns : goal.returns
returns c = rowing_end c.loop-j.invariant c.loop-j-test.false
