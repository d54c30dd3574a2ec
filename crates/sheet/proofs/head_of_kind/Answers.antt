-- Each arm is the case of `of_kind` with its kind, and the last one is what is left: over 10.
use mathlib.Core.Path.{sym, ap, ◌∙◌}
use Rattle.std.specs.Prelude.{Err}
use borrow.Author.Rules.{rules}
use Rattle.number.specs.Number.{pick}
use Rattle.sheet.specs.Read.{of_kind}
use Rattle.sheet.proofs.Reading.{over_ten}
use Rattle.sheet.proofs.head_of_kind.Goals as goal

pub returns-in-0 : goal.returns-in-0
unfolding of_kind pick
returns-in-0 c = simp c.in-0.is

pub returns-in-1 : goal.returns-in-1
unfolding of_kind pick
returns-in-1 c = c.halt_head.ensures ∙ simp c.in-1.is

pub returns-in-2 : goal.returns-in-2
unfolding of_kind pick
returns-in-2 c = c.emit_head.ensures ∙ simp c.in-2.is

pub returns-in-3 : goal.returns-in-3
unfolding of_kind pick
returns-in-3 c = simp c.in-3.is

pub returns-in-4 : goal.returns-in-4
unfolding of_kind pick
returns-in-4 c = simp c.in-4.is

pub returns-in-5 : goal.returns-in-5
unfolding of_kind pick
returns-in-5 c = c.present_head.ensures ∙ simp c.in-5.is

pub returns-in-6 : goal.returns-in-6
unfolding of_kind pick
returns-in-6 c = c.watching_head.ensures ∙ simp c.in-6.is

pub returns-in-7 : goal.returns-in-7
unfolding of_kind pick
returns-in-7 c = simp c.in-7.is

pub returns-in-8 : goal.returns-in-8
unfolding of_kind pick
returns-in-8 c = c.trap_head.ensures ∙ simp c.in-8.is

pub returns-in-9 : goal.returns-in-9
unfolding of_kind pick
returns-in-9 c = c.exit_head.ensures ∙ simp c.in-9.is

pub returns-in-10 : goal.returns-in-10
unfolding of_kind pick
returns-in-10 c = c.local_head.ensures ∙ simp c.in-10.is

pub returns-in_default : goal.returns-in_default
returns-in_default c =
    ap Err c.at.ensures ∙ sym (over_ten _ _ _ _ _ (search rules))
