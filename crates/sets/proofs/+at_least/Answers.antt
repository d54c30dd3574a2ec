-- `at_least` meets its contract, by the halves of both words; b falls.
use native.Mathlib.Omega.{arith}
use borrow.Author.Rules.{rules}
use Rattle.sets.proofs.Words.{least_none, least_all, least_rest}
use Rattle.sets.proofs.+at_least.Goals as goal

pub returns-then-b-eq0 : goal.returns-then-b-eq0
returns-then-b-eq0 t c = (rw c.if-b-eq0.true (least_none c.args.a), search rules)

pub returns-then-b-eq1 : goal.returns-then-b-eq1
returns-then-b-eq1 t c =
    (least_all c.args.a c.args.b c.if-b-eq1.true, search rules)

pub overflow_mul-result : goal.overflow_mul-result
overflow_mul-result t c = omega (arith, c.at_least.ensures.1)

pub returns : goal.returns
returns t c =
    let half = c.at_least.ensures in
    (least_rest c.args.a c.args.b c.at_least.result c.if-b-eq1.false half.0, omega (arith, half.1))
