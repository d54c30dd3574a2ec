-- The kind, the operands and the unused fields decide, in this order.
use Rattle.netlists.proofs.Words.{kind_wrong, operands_wrong, field_wrong, word_right}
use Rattle.files.proofs.Judging.{handed_on}
use mathlib.Core.Path.{sym, ◌∙◌}
use Rattle.netlists.proofs.judge_word.Goals as goal
use Rattle.netlists.proofs.judge_word.Goals.{else-operands_fit-via-then-operands_fit+else-word_of-w, else-operands_fit-via-else-operands_fit}

pub returns-in_err-judge_kind : goal.returns-in_err-judge_kind
returns-in_err-judge_kind c = handed_on c.from_residual.ensures.1 ∙ sym (kind_wrong _ _ _ _ _ (sym c.in_err-judge_kind.ensures))

pub returns-then-word_of-w : goal.returns-then-word_of-w
returns-then-word_of-w c =
    let fit = rw c.cell_in-c.ensures at (sym c.if-operands_fit.ensures) in
    let same = rw (c.word_of.ensures, c.cell_in-c.ensures) at c.if-word_of-w.true in
    sym (word_right _ _ _ _ _ (sym c.in_ok-judge_kind.ensures) fit same)

pub returns : goal.returns
returns c =
    let kind = sym c.in_ok-judge_kind.ensures in
    elim c.else-operands_fit.branch [
      | else-operands_fit-via-then-operands_fit+else-word_of-w w ↦
          let fit = rw c.cell_in-c.ensures at (sym w.if-operands_fit.ensures) in
          let differs = rw (w.word_of.ensures, c.cell_in-c.ensures) at w.if-word_of-w.false in
          sym (field_wrong _ _ _ _ _ kind fit differs)
      | else-operands_fit-via-else-operands_fit w ↦
          sym (operands_wrong _ _ _ _ _ kind (rw c.cell_in-c.ensures at (sym w.if-operands_fit.ensures)))
    ]
