-- COUNT past the last halt; before that the halt takes the next number.
use mathlib.Core.Path.{sym, ap, ◌∙◌}
use Rattle.std.specs.Prelude.{Err}
use native.Mathlib.Omega.{arith}
use borrow.Author.Tests.{leb-false}
use Rattle.number.specs.Counts.{of_halt}
use Rattle.number.specs.Number.{pick}
use Rattle.limits.specs.Limits.{max_halts}
use Rattle.sheet.specs.Read.{halt_at}
use Rattle.sheet.proofs.halt_head.Goals as goal

pub returns-then-halts_full : goal.returns-then-halts_full
unfolding halt_at pick
returns-then-halts_full c = ap Err c.at.ensures ∙ simp (sym c.halts_full.ensures ∙ c.if-halts_full.true)

pub overflow_add-number : goal.overflow_add-number
overflow_add-number c =
    let taken = of_halt c.args.m.halts in
    let few = leb-false max_halts taken (sym c.halts_full.ensures ∙ c.if-halts_full.false) in
    rw c.number.ensures (omega (arith, few))

pub returns : goal.returns
unfolding halt_at pick
returns c =
    simp (sym c.halts_full.ensures ∙ c.if-halts_full.false, c.new-halts.ensures, c.number.ensures)
