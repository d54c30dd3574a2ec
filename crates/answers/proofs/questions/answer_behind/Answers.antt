-- One word, or two that are sets.
use borrow.Author.Tests.{le-leb, lt-leb}
use mathlib.Core.Path.{◌≡◌}
use mathlib.Core.Bool.{true, false}
use Rattle.texts.proofs.Sets.{was_set, was_no_set}
use Rattle.answers.proofs.Asking.{behind_two}
use Rattle.answers.proofs.Saying.{said_bad}
use Rattle.answers.specs.Questions.{of, one_word, behind_bytes}
use Rattle.answers.proofs.questions.answer_behind.Goals as goal

pub returns-then-text-end : goal.returns-then-text-end
unfolding of behind_bytes
returns-then-text-end c =
    let one : one_word c.args.text.now ≡ true = rw (← c.word_end-end.ensures.value) (le-leb _ _ c.if-text-end.true) in
    rw one c.answer_more.ensures

pub returns-in_default : goal.returns-in_default
unfolding of behind_bytes
returns-in_default c =
    let more : one_word c.args.text.now ≡ false = rw (← c.word_end-end.ensures.value) (lt-leb _ _ c.if-text-end.false) in
    let state = was_no_set (rw c.in_default.is at c.set_value.ensures) in
    rw (more, ← c.word_end-end.ensures.value, state) (said_bad c.bad_line.ensures)

pub returns-in_default-set_value : goal.returns-in_default-set_value
unfolding of
returns-in_default-set_value c =
    let args = c.args in
    let two = behind_two args.text.now c.word_end-end.result c.word_end-end.ensures.value args.word.now
    args.bytes.now c.if-text-end.false
    (was_set (rw c.in-Some.is at c.set_value.ensures))
    (was_no_set (rw c.in_default-set_value.is at c.set_value-2.ensures)) in
    rw two (said_bad c.bad_line-in_default-set_value.ensures)

pub returns : goal.returns
unfolding of
returns c =
    let args = c.args in
    let two = behind_two args.text.now c.word_end-end.result c.word_end-end.ensures.value args.word.now
    args.bytes.now c.if-text-end.false
    (was_set (rw c.in-Some.is at c.set_value.ensures))
    (was_set (rw c.in-Some-set_value.is at c.set_value-2.ensures)) in
    rw two c.answer_reaction.ensures
