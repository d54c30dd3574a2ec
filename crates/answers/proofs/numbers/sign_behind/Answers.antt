-- By whether it is the last of its table.
use mathlib.Core.Path.{sym, ◌∙◌}
use Rattle.answers.proofs.numbers.sign_behind.Goals as goal

pub returns-then-is_truth : goal.returns-then-is_truth
returns-then-is_truth c = rw (sym c.is_truth.ensures ∙ c.if-is_truth.true)

pub returns-else-is_truth : goal.returns-else-is_truth
returns-else-is_truth c = rw (sym c.is_truth.ensures ∙ c.if-is_truth.false)
