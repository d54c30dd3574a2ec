-- The loop's invariant: the pieces of the entries passed are written.
use lib.ListN.{take}
use Rattle.texts.specs.Puts.{Writes}
use Rattle.texts.proofs.Putting.{itself}
use Rattle.texts.proofs.Page.bytes.Given as goal

abbrev pub invariant-loop-b : goal.invariant-loop-b
invariant-loop-b l = Writes (itself (take l.b-index l.text)) l.initial.self l.self
