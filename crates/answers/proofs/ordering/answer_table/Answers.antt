-- No table, another number of tables, or one.
use mathlib.Core.Path.{sym}
use lib.Seq.{length-take-le}
use Rattle.answers.proofs.Saying.{said, said_bad}
use Rattle.answers.specs.Questions.{of_tables, order}
use Rattle.answers.proofs.Tabling.{has_table, not_one, is_one}
use Rattle.answers.specs.Answering.{is_ordered}
use Rattle.answers.proofs.ordering.answer_table.Goals as goal

pub returns-in_default : goal.returns-in_default
unfolding of_tables
returns-in_default c =
    let none = rw c.in_default.is at c.read.ensures in
    rw none (said_bad c.bad_line.ensures)

pub returns-then-n-ne-SIZE : goal.returns-then-n-ne-SIZE
returns-then-n-ne-SIZE c =
    let read = rw c.in-Some.is at c.read.ensures in
    rw (not_one _ _ read (order c.args.order) c.if-n-ne-SIZE.true) (said_bad c.bad_line-then-n-ne-SIZE.ensures)

pub slice_bounds-table_at-end : goal.slice_bounds-table_at-end
slice_bounds-table_at-end c =
    let read = rw c.in-Some.is at c.read.ensures in
    sym (length-take-le _ _ read.0)

pub table_at-table-requires : goal.table_at-table-requires
table_at-table-requires c =
    let read = rw c.in-Some.is at c.read.ensures in
    has_table c.args.text.now _ read c.if-n-ne-SIZE.false

pub returns : goal.returns
returns c =
    let read = rw c.in-Some.is at c.read.ensures in
    rw (is_one _ _ read (order c.args.order) c.if-n-ne-SIZE.false) (said (is_ordered (rw c.table_at-table.ensures at c.reorder.ensures)) c.reordered.ensures)
