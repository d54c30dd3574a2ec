-- Each arm is its case of `go_of`.
use mathlib.Core.Path.{refl}
use Rattle.parts.proofs.go_of.Goals as goal

pub returns-in-Sequence : goal.returns-in-Sequence
returns-in-Sequence c = rw c.in-Sequence.is refl
