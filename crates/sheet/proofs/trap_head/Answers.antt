-- COUNT past the last trap.
use mathlib.Core.Path.{sym, ap, ◌∙◌}
use Rattle.std.specs.Prelude.{Err}
use Rattle.number.specs.Number.{pick}
use Rattle.sheet.specs.Read.{trap_at}
use Rattle.sheet.proofs.trap_head.Goals as goal

pub returns-then-traps_full : goal.returns-then-traps_full
unfolding trap_at pick
returns-then-traps_full c = ap Err c.at.ensures ∙ simp (sym c.traps_full.ensures ∙ c.if-traps_full.true)

pub returns : goal.returns
unfolding trap_at pick
returns c = simp (sym c.traps_full.ensures ∙ c.if-traps_full.false)
