-- The root is read with tick, the inputs and the outputs in scope, by what `below` ensures; each way out answers what its law in
-- `Answers` says.
use Rattle.sheet.proofs.Reading.{handed_on, at_root}
use Rattle.sheet.proofs.Answers as answers
use Rattle.sheet.proofs.read_root.Goals as goal

pub returns-then-last-s : goal.returns-then-last-s
returns-then-last-s c =
    let scope = at_root c.args.i c.args.o c.below.result c.below.ensures in
    let root = rw (scope, c.new.ensures, c.new-2.ensures, c.new-3.ensures) at c.read_stmt.ensures in
    rw c.at.ensures (answers.root_extra _ _ _ _ root c.in_ok-end.was c.if-last-s.true)

pub returns-in_err-end : goal.returns-in_err-end
returns-in_err-end c =
    let scope = at_root c.args.i c.args.o c.below.result c.below.ensures in
    let root = rw (scope, c.new.ensures, c.new-2.ensures, c.new-3.ensures) at c.read_stmt.ensures in
    rw (handed_on c.from_residual.ensures.1) (answers.root_stop _ _ _ _ root c.in_err-end.was)

pub returns : goal.returns
returns c =
    let scope = at_root c.args.i c.args.o c.below.result c.below.ensures in
    let root = rw (scope, c.new.ensures, c.new-2.ensures, c.new-3.ensures) at c.read_stmt.ensures in
    let a = c.args in
    let read = answers.root_read_lem a.s.now a.i a.o a.at root c.in_ok-end.was c.if-last-s.false in
    rw (c.number.ensures, c.number-2.ensures, c.number-3.ensures) read
