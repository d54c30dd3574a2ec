-- `is_led` meets its contract: R is below 2 ^ max_codes.
use mathlib.Core.Path.{sym, ◌∙◌}
use Rattle.limits.specs.Limits.{max_codes}
use Rattle.sets.proofs.is_led.Goals as goal

pub returns-then-is_x : goal.returns-then-is_x
returns-then-is_x c = λ small. rw (sym c.is_x.ensures ∙ c.if-is_x.true) (c.meets.ensures max_codes small)
