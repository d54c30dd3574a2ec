-- `up_to_common` meets its contract, by the halves of both words; a falls.
use native.Mathlib.Omega.{arith}
use Rattle.sets.proofs.Words.{upto_empty, upto_low, upto_rest}
use Rattle.sets.proofs.+up_to_common.Goals as goal

pub returns-then-a-eq0 : goal.returns-then-a-eq0
returns-then-a-eq0 t c = λ n h. rw c.if-a-eq0.true (upto_empty c.args.b n)

pub overflow_mul-result : goal.overflow_mul-result
overflow_mul-result t c = omega (arith, (c.up_to_common-rest.ensures 63 (omega arith)).small)

pub overflow_add-result : goal.overflow_add-result
overflow_add-result t c = omega (arith, (c.up_to_common-rest.ensures 63 (omega arith)).small)

pub returns-then-a-b-eq2 : goal.returns-then-a-b-eq2
returns-then-a-b-eq2 t c =
    upto_low c.args.a c.args.b c.up_to_common-rest.result c.if-a-eq0.false c.if-a-b-eq2.true
    c.up_to_common-rest.ensures

pub overflow_mul-result-2 : goal.overflow_mul-result-2
overflow_mul-result-2 t c = omega (arith, (c.up_to_common-rest.ensures 63 (omega arith)).small)

pub overflow_add-result-2 : goal.overflow_add-result-2
overflow_add-result-2 t c = omega (arith, (c.up_to_common-rest.ensures 63 (omega arith)).small)

pub returns : goal.returns
returns t c =
    upto_rest c.args.a c.args.b c.up_to_common-rest.result c.if-a-eq0.false c.if-a-b-eq2.false
    c.up_to_common-rest.ensures
