-- By whether it is the last of its table.
use mathlib.Core.Path.{sym, ap, ◌∙◌}
use Rattle.answers.specs.Tables.{short, number_in}
use Rattle.answers.proofs.numbers.number_in.Goals as goal

pub returns-then-is_truth : goal.returns-then-is_truth
unfolding number_in
returns-then-is_truth c =
    rw (sym c.is_truth.ensures ∙ c.if-is_truth.true) (c.short.ensures ∙ ap short c.value_of.ensures)

pub returns : goal.returns
unfolding number_in
returns c =
    rw (sym c.is_truth.ensures ∙ c.if-is_truth.false) (c.short-2.ensures ∙ ap short c.value_of-2.ensures)
