-- No table, no tables, or some.
use mathlib.Core.Path.{sym, ◌∙◌}
use lib.Seq.{length-take-le}
use Rattle.answers.proofs.Saying.{said, said_bad}
use Rattle.answers.specs.Questions.{of_tables, tables_in}
use Rattle.answers.specs.Answering.{is_covered}
use Rattle.answers.proofs.questions.answer_cover.Goals as goal

pub returns-then-eq : goal.returns-then-eq
unfolding of_tables tables_in
returns-then-eq c =
    rw (sym c.eq.ensures ∙ c.if-eq.true)
    (said (is_covered c.cover_file.ensures) c.answer.ensures)

pub returns-in_default : goal.returns-in_default
unfolding of_tables tables_in
returns-in_default c =
    let some = sym c.eq.ensures ∙ c.if-eq.false in
    let none = rw c.in_default.is at c.read.ensures in
    rw (some, none) (said_bad c.bad_line.ensures)

pub slice_bounds-cover_file-end-2 : goal.slice_bounds-cover_file-end-2
slice_bounds-cover_file-end-2 c =
    let read = rw c.in-Some.is at c.read.ensures in
    sym (length-take-le _ _ read.0)

pub returns : goal.returns
unfolding of_tables tables_in
returns c =
    let some = sym c.eq.ensures ∙ c.if-eq.false in
    let read = rw c.in-Some.is at c.read.ensures in
    rw (some, read.1) (said (is_covered c.cover_file-2.ensures) c.answer-2.ensures)
