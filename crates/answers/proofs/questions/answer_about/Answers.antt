-- Bytes, or none; and what follows them.
use Rattle.answers.proofs.Asking.{about_bytes_lem, with_one, with_more}
use Rattle.answers.proofs.Saying.{said_bad}
use Rattle.answers.specs.Questions.{of_bytes, with_bytes}
use Rattle.answers.proofs.questions.answer_about.Goals as goal

pub returns-in_default : goal.returns-in_default
unfolding of_bytes with_bytes
returns-in_default c =
    let none = rw c.in_default.is at c.hex_bytes.ensures.decodes in
    rw (← c.word_end-end.ensures.value, none) (said_bad c.bad_line.ensures)

pub returns-then-text-end : goal.returns-then-text-end
returns-then-text-end c =
    let args = c.args in
    let ends = c.word_end-end.ensures.value in
    let these = about_bytes_lem args.text.now c.word_end-end.result ends args.word.now _ (rw c.in-Some.is at c.hex_bytes.ensures.decodes) in
    rw (these, with_one args.text.now c.word_end-end.result ends args.word.now _ c.if-text-end.true) c.answer_bytes.ensures

pub returns : goal.returns
returns c =
    let args = c.args in
    let ends = c.word_end-end.ensures.value in
    let these = about_bytes_lem args.text.now c.word_end-end.result ends args.word.now _ (rw c.in-Some.is at c.hex_bytes.ensures.decodes) in
    rw (these, with_more args.text.now c.word_end-end.result ends args.word.now _ c.if-text-end.false) c.answer_behind.ensures
