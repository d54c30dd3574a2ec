-- No number, one below the largest, or one that is told by its spelling.
use mathlib.Core.Path.{sym, ◌∙◌}
use borrow.Author.Tests.{eq-eqb, ne_eqb}
use Rattle.answers.specs.Questions.{or_spelled}
use Rattle.answers.proofs.ordering.order_value.Goals as goal

pub returns-in_err-n : goal.returns-in_err-n
unfolding or_spelled
returns-in_err-n c = rw (sym c.decimal_value.ensures ∙ c.in_err-n.was) c.from_residual.ensures

pub returns-then-n : goal.returns-then-n
unfolding or_spelled
returns-then-n c =
    let value = sym c.decimal_value.ensures ∙ c.in_ok-n.was in
    rw (value, ne_eqb _ _ c.if-n.true)

pub returns-then-eq : goal.returns-then-eq
unfolding or_spelled
returns-then-eq c =
    let value = sym c.decimal_value.ensures ∙ c.in_ok-n.was in
    rw (value, eq-eqb _ _ c.if-n.false, sym c.eq.ensures ∙ c.if-eq.true)

pub returns-else-eq : goal.returns-else-eq
unfolding or_spelled
returns-else-eq c =
    let value = sym c.decimal_value.ensures ∙ c.in_ok-n.was in
    rw (value, eq-eqb _ _ c.if-n.false, sym c.eq.ensures ∙ c.if-eq.false)
