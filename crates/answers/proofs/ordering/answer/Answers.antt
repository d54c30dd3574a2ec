-- No table behind the order, no order, or both.
use mathlib.Core.Path.{sym, ◌∙◌}
use Rattle.answers.proofs.Asking.{one_word_lem, order_then}
use Rattle.answers.proofs.Saying.{said_bad}
use Rattle.answers.specs.Questions.{of, about_order}
use Rattle.answers.proofs.ordering.answer.Goals as goal

pub returns-then-text-end : goal.returns-then-text-end
unfolding about_order
returns-then-text-end c =
    let text = c.args.text.now in
    rw (one_word_lem text c.word_end-end.result c.word_end-end.ensures.value c.if-text-end.true)
    (said_bad c.bad_line.ensures)

pub returns-in_default : goal.returns-in_default
unfolding of
returns-in_default c =
    let text = c.args.text.now in
    let then = order_then text c.word_end-end.result c.word_end-end.ensures.value c.if-text-end.false
    (sym c.order_value.ensures ∙ c.in_default.is) in
    rw then (said_bad c.bad_line-in_default.ensures)

pub returns : goal.returns
unfolding of
returns c =
    let text = c.args.text.now in
    let then = order_then text c.word_end-end.result c.word_end-end.ensures.value c.if-text-end.false
    (sym c.order_value.ensures ∙ c.in-Some.is) in
    rw then c.answer_table.ensures
