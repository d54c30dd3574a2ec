-- The loop's invariant: the pieces of the entries passed are written.
use lib.ListN.{take}
use Rattle.texts.specs.Puts.{Writes}
use Rattle.texts.specs.Written.{in_hex}
use Rattle.texts.proofs.Page.hex_bytes.Given as goal

abbrev pub invariant-loop-b : goal.invariant-loop-b
invariant-loop-b l = Writes (in_hex (take l.b-index l.bytes)) l.initial.self l.self
