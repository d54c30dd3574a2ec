-- The loop's invariant: the numbers passed are written, and the sign is what stands before the next.
use mathlib.Core.Path.{◌≡◌}
use lib.ListN.{take}
use Rattle.texts.specs.Written.{row}
use Rattle.texts.specs.Puts.{Writes}
use Rattle.texts.proofs.Putting.{sign_before}
use Rattle.texts.proofs.Page.row.Given as goal

abbrev pub invariant-loop-n : goal.invariant-loop-n
invariant-loop-n l = (l.sign ≡ sign_before l.n-index) × Writes (row (take l.n-index l.numbers)) l.initial.self l.self
