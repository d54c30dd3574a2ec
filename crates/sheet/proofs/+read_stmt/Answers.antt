-- Each way out answers what its law in `Answers` says. The measure is the number of levels that are left.
use Prim.Native.Nat.{◌<◌}
use native.Mathlib.Omega.{arith}
use mathlib.Core.Path.{◌≡◌, sym, ap, ◌∙◌}
use borrow.Author.Tests.{leb-true, leb-false}
use Rattle.std.proofs.Common.{Bool, false, leb, Ok}
use Rattle.number.specs.declared.StmtNo.{StmtNo}
use Rattle.number.specs.Counts.{of_stmt}
use Rattle.limits.specs.Limits.{max_statements}
use Rattle.sheet.proofs.Reading.{handed_on, local_fits}
use Rattle.sheet.proofs.Answers as answers
use Rattle.sheet.proofs.+read_stmt.Goals as goal

-- the number is one that a statement may have, once that was asked
few : (n : StmtNo) {r : Bool} → r ≡ leb max_statements (of_stmt n) → r ≡ false → of_stmt n < max_statements
few n is below = leb-false max_statements (of_stmt n) (sym is ∙ below)

-- no level is left
pub returns-then-left-eq0 : goal.returns-then-left-eq0
returns-then-left-eq0 t c = rw c.at.ensures (answers.level_stop _ _ _ _ _ c.if-left-eq0.true)

-- it is past the last statement
pub returns-then-statements_full : goal.returns-then-statements_full
returns-then-statements_full t c =
    let many = leb-true max_statements (of_stmt c.args.n) (sym c.statements_full.ensures ∙ c.if-statements_full.true) in
    rw c.at-then-statements_full.ensures (answers.number_stop _ _ _ _ _ many)

-- a local that was read has a number that a scope can hold
pub inner-requires : goal.inner-requires
inner-requires t c =
    let one = sym c.read_head.ensures ∙ c.in_ok-head.was ∙ ap (λ x. Ok (x, c.in_ok-head.m1)) c.in-One.is in
    (omega (arith, c.requires, c.if-left-eq0.false), local_fits _ _ _ one)

-- the head is refused
pub returns-in_err-head : goal.returns-in_err-head
returns-in_err-head t c =
    let small = few c.args.n c.statements_full.ensures c.if-statements_full.false in
    rw (handed_on c.from_residual.ensures.1)
    (answers.head_stop _ _ _ _ _ c.if-left-eq0.false small (sym c.read_head.ensures ∙ c.in_err-head.was))

-- no parts
pub returns-in-Zero : goal.returns-in-Zero
returns-in-Zero t c =
    let small = few c.args.n c.statements_full.ensures c.if-statements_full.false in
    let row = rw c.first_part-next.ensures at c.noted.ensures in
    answers.leaf_did _ _ _ _ _ c.if-left-eq0.false small (sym c.read_head.ensures ∙ c.in_ok-head.was) c.in-Zero.is row

-- one part, refused
pub returns-in_err-end-in-One : goal.returns-in_err-end-in-One
returns-in_err-end-in-One t c =
    let small = few c.args.n c.statements_full.ensures c.if-statements_full.false in
    let head = sym c.read_head.ensures ∙ c.in_ok-head.was in
    let part = rw (c.first_part-next.ensures, c.inner.ensures.0) at c.read_stmt.ensures in
    rw (handed_on c.from_residual-in_err-end-in-One.ensures.1)
    (answers.one_stop _ _ _ _ _ c.if-left-eq0.false small head c.in-One.is part c.in_err-end-in-One.was)

-- one part, read
pub returns-in_ok-end-in-One : goal.returns-in_ok-end-in-One
returns-in_ok-end-in-One t c =
    let small = few c.args.n c.statements_full.ensures c.if-statements_full.false in
    let head = sym c.read_head.ensures ∙ c.in_ok-head.was in
    let part = rw (c.first_part-next.ensures, c.inner.ensures.0) at c.read_stmt.ensures in
    answers.one_did _ _ _ _ _ c.if-left-eq0.false small head c.in-One.is part c.in_ok-end-in-One.was c.noted-in-One.ensures

-- two parts, the first refused
pub returns-in_err-middle-in-Two : goal.returns-in_err-middle-in-Two
returns-in_err-middle-in-Two t c =
    let small = few c.args.n c.statements_full.ensures c.if-statements_full.false in
    let head = sym c.read_head.ensures ∙ c.in_ok-head.was in
    let first = rw c.first_part-next.ensures at c.read_stmt-in-Two.ensures in
    rw (handed_on c.from_residual-in_err-middle-in-Two.ensures.1)
    (answers.first_stop _ _ _ _ _ c.if-left-eq0.false small head c.in-Two.is first c.in_err-middle-in-Two.was)

-- two parts, the second refused
pub returns-in_err-end-in-Two : goal.returns-in_err-end-in-Two
returns-in_err-end-in-Two t c =
    let small = few c.args.n c.statements_full.ensures c.if-statements_full.false in
    let head = sym c.read_head.ensures ∙ c.in_ok-head.was in
    let first = rw c.first_part-next.ensures at c.read_stmt-in-Two.ensures in
    rw (handed_on c.from_residual-in_err-end-in-Two.ensures.1)
    (answers.second_stop _ _ _ _ _ c.if-left-eq0.false small head c.in-Two.is first c.in_ok-middle-in-Two.was
    c.read_stmt-in-Two-2.ensures c.in_err-end-in-Two.was)

-- two parts, both read
pub returns-in_ok-end-in-Two : goal.returns-in_ok-end-in-Two
returns-in_ok-end-in-Two t c =
    let small = few c.args.n c.statements_full.ensures c.if-statements_full.false in
    let head = sym c.read_head.ensures ∙ c.in_ok-head.was in
    let first = rw c.first_part-next.ensures at c.read_stmt-in-Two.ensures in
    answers.two_did _ _ _ _ _ c.if-left-eq0.false small head c.in-Two.is first c.in_ok-middle-in-Two.was
    c.read_stmt-in-Two-2.ensures c.in_ok-end-in-Two.was c.noted-in-Two.ensures
