-- A length, or none.
use mathlib.Core.Path.{sym, ◌∙◌}
use native.Mathlib.Omega.{arith}
use lib.Seq.{length-take-le}
use Rattle.answers.proofs.Filing.{lent_part}
use Rattle.answers.proofs.Saying.{said_bad}
use Rattle.answers.specs.Questions.{of}
use borrow.Author.Rules.{rules}
use Rattle.answers.proofs.questions.answer_write.Goals as goal

pub returns-in_default : goal.returns-in_default
unfolding of
returns-in_default c =
    rw (sym c.decimal_value.ensures ∙ c.in_default.is) (said_bad c.bad_line.ensures)

pub slice_bounds-write_file-end : goal.slice_bounds-write_file-end
slice_bounds-write_file-end c = sym (length-take-le c.lent-end.result _ (omega (arith, c.lent-end.ensures)))

pub returns : goal.returns
unfolding of
returns c =
    rw (sym c.decimal_value.ensures ∙ c.in-Some.is)
    (c.write_file.ensures _ (lent_part _ _ (search rules) c.lent-end.ensures))
