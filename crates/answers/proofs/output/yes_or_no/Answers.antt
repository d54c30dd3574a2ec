-- The number of a flag.
use mathlib.Core.Path.{◌≡◌, refl, ◌∙◌}
use mathlib.Core.Bool.{Bool, true, false}
use mir.Val.{bool_byte}
use Rattle.answers.specs.Texts.{bit}
use Rattle.answers.proofs.output.yes_or_no.Goals as goal

bit_is : (b : Bool) → bool_byte b ≡ bit b
bit_is true = refl
bit_is false = refl

pub returns : goal.returns
returns c = rw (c.from.ensures ∙ bit_is c.args.b) at c.numbers.ensures
