-- `gate` meets its contract: either operand folds where it is low, and else a cell is pushed.
use mathlib.Core.Path.{sym, ◌∙◌}
use Rattle.gates.proofs.Laws.{first_folds, second_folds, none_folds}
use Rattle.gates.proofs.Column.gate.Goals as goal

pub returns-then-is_low : goal.returns-then-is_low
returns-then-is_low c = rw c.first_low.ensures (first_folds _ _ _ _ (sym c.is_low.ensures ∙ c.if-is_low.true))

pub returns-then-is_low-2 : goal.returns-then-is_low-2
returns-then-is_low-2 c =
    rw c.second_low.ensures
    (second_folds _ _ _ _ (sym c.is_low.ensures ∙ c.if-is_low.false) (sym c.is_low-2.ensures ∙ c.if-is_low-2.true))

pub returns : goal.returns
returns c =
    none_folds _ _ _ _ (sym c.is_low.ensures ∙ c.if-is_low.false) (sym c.is_low-2.ensures ∙ c.if-is_low-2.false)
    c.push.ensures
