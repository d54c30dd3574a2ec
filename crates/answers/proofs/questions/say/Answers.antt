-- A line that is too long, one word, or a question.
use mathlib.Core.Path.{◌≡◌}
use mathlib.Core.Bool.{true}
use borrow.Author.Tests.{le-leb, lt-leb}
use Rattle.answers.proofs.Asking.{question_is}
use Rattle.answers.proofs.Saying.{said_bad}
use Rattle.answers.specs.Questions.{one_word, question}
use Rattle.answers.proofs.questions.say.Goals as goal

pub returns-then-line-gt-LONGEST : goal.returns-then-line-gt-LONGEST
unfolding question
returns-then-line-gt-LONGEST c =
    rw (lt-leb _ _ c.if-line-gt-LONGEST.true) (said_bad c.bad_line.ensures)

pub returns-then-line-end : goal.returns-then-line-end
unfolding question
returns-then-line-end c =
    let one : one_word c.args.line.now ≡ true = rw (← c.word_end-end.ensures.value) (le-leb _ _ c.if-line-end.true) in
    rw (le-leb _ _ c.if-line-gt-LONGEST.false, one) (said_bad c.bad_line-then-line-end.ensures)

pub returns : goal.returns
returns c =
    let ends = c.word_end-end.ensures.value in
    let asks = question_is c.args.line.now c.word_end-end.result ends c.if-line-gt-LONGEST.false c.if-line-end.false in
    rw asks c.answer_question.ensures
