-- `parallel_row` meets its contract: the loop has made the codes from j on, and behind it come codes 1 and 0.
use borrow.Author.Rules.{rules}
use Rattle.gates.proofs.ParallelRow.{looping_start, looping_step, looping_end}
use Rattle.gates.proofs.Column.parallel_row.Goals as goal

pub loop-j-init : goal.loop-j-init
loop-j-init c = rw c.low-x.ensures (looping_start _ _ _ _ _ (search rules) (search rules) (search rules))

pub loop-j-preserved : goal.loop-j-preserved
loop-j-preserved c =
    looping_step _ _ c.loop-j.invariant c.loop-j-test.true (rw c.member.ensures at c.one_code-v.ensures)

pub returns : goal.returns
returns c =
    let code_1 = rw c.member-2.ensures at c.one_code-v-2.ensures in
    let code_0 = rw c.member-3.ensures at c.code_zero-last.ensures in
    looping_end _ _ c.loop-j.invariant c.loop-j-test.false code_1 code_0
