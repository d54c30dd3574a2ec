-- COUNT past the last signal; before that the local takes the next number.
use mathlib.Core.Path.{sym, ap, ◌∙◌}
use Rattle.std.specs.Prelude.{Err}
use native.Mathlib.Omega.{arith}
use borrow.Author.Tests.{leb-false}
use Rattle.number.specs.Counts.{of_signal}
use Rattle.number.specs.Number.{pick}
use Rattle.limits.specs.Limits.{max_signals}
use Rattle.sheet.specs.Read.{local_at}
use Rattle.sheet.proofs.local_head.Goals as goal

pub returns-then-signals_full : goal.returns-then-signals_full
unfolding local_at pick
returns-then-signals_full c = ap Err c.at.ensures ∙ simp (sym c.signals_full.ensures ∙ c.if-signals_full.true)

pub overflow_add-number : goal.overflow_add-number
overflow_add-number c =
    let taken = of_signal c.args.m.signals in
    let few = leb-false max_signals taken (sym c.signals_full.ensures ∙ c.if-signals_full.false) in
    rw c.number.ensures (omega (arith, few))

pub returns : goal.returns
unfolding local_at pick
returns c =
    simp (sym c.signals_full.ensures ∙ c.if-signals_full.false, c.new-signals.ensures, c.number.ensures)
