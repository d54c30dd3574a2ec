use Rattle.bits.specs.Bits.{width, whole}
use Rattle.bits.proofs.Making.{Off}
use Rattle.bits.proofs.Bits.none_from.Given as goal

abbrev pub invariant-loop-i : goal.invariant-loop-i
invariant-loop-i l = Off (whole (record { words = l.word-items })) l.k width l.i
