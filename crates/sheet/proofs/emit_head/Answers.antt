-- The signal that was read decides: none, then its fault; tick or an input, then EMIT; else the emit.
use mathlib.Core.Path.{sym, ap, ◌∙◌}
use Rattle.std.specs.Prelude.{Err}
use Rattle.number.specs.Number.{pick}
use Rattle.sheet.specs.Read.{emitting}
use Rattle.sheet.proofs.Reading.{handed_on}
use Rattle.sheet.proofs.emit_head.Goals as goal

pub returns-in_err-x : goal.returns-in_err-x
unfolding emitting
returns-in_err-x c = rw (handed_on c.from_residual.ensures.1, ← c.in_err-x.ensures)

pub returns-then-tick_or_input : goal.returns-then-tick_or_input
unfolding emitting pick
returns-then-tick_or_input c = ap Err c.at.ensures ∙ rw (← c.in_ok-x.ensures) (simp (sym c.tick_or_input.ensures ∙ c.if-tick_or_input.true))

pub returns : goal.returns
unfolding emitting pick
returns c = rw (← c.in_ok-x.ensures) (simp (sym c.tick_or_input.ensures ∙ c.if-tick_or_input.false))
