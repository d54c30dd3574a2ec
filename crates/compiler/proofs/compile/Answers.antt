-- The sheet is read, judged and ordered, and the first fault answers.
use native.Mathlib.Omega.{arith}
use Rattle.files.proofs.Judging.{handed_on}
use Rattle.compiler.proofs.Whole.{sheet_was_read, sheet_refused, some_read, judge_refused, n_long, prefix_long, prefix_few, cells_closed, did_finish}
use Rattle.compiler.proofs.compile.Goals as goal

pub returns-in_err-c : goal.returns-in_err-c
returns-in_err-c c = rw (handed_on c.from_residual.ensures.1) (sheet_refused c.read_sheet.ensures c.in_err-c.was)

pub judge-requires : goal.judge-requires
judge-requires c =
    let lent = c.requires in
    let was = sheet_was_read lent.rows_long c.read_sheet.ensures c.in_ok-c.was in
    (some_read was, omega (arith, lent.statics_long, c.read_sheet.auto), omega (arith, lent.rows_long, lent.statics_long))

pub returns-in_err-n : goal.returns-in_err-n
returns-in_err-n c =
    let was = sheet_was_read c.requires.rows_long c.read_sheet.ensures c.in_ok-c.was in
    rw (handed_on c.from_residual-in_err-n.ensures.1) (judge_refused was c.judge.ensures c.in_err-n.was)

pub slice_bounds-ordered-end : goal.slice_bounds-ordered-end
slice_bounds-ordered-end c =
    let lent = c.requires in
    let was = sheet_was_read lent.rows_long c.read_sheet.ensures c.in_ok-c.was in
    n_long was c.judge.ensures c.in_ok-n.was lent.cells_long c.judge.auto.cells

pub slice_bounds-ordered-end-2 : goal.slice_bounds-ordered-end-2
slice_bounds-ordered-end-2 c =
    let lent = c.requires in
    let was = sheet_was_read lent.rows_long c.read_sheet.ensures c.in_ok-c.was in
    prefix_long was c.judge.ensures c.in_ok-n.was lent.cells_long c.judge.auto.cells

pub ordered-requires : goal.ordered-requires
ordered-requires c =
    let lent = c.requires in
    let was = sheet_was_read lent.rows_long c.read_sheet.ensures c.in_ok-c.was in
    let built = c.judge.ensures in
    let count = c.in_ok-n.was in
    (cells_closed was built count lent.cells_long, prefix_few was built count lent.cells_long c.judge.auto.cells)

pub returns : goal.returns
returns c =
    let lent = c.requires in
    let was = sheet_was_read lent.rows_long c.read_sheet.ensures c.in_ok-c.was in
    did_finish was c.judge.ensures c.in_ok-n.was lent.cells_long c.ordered.ensures
