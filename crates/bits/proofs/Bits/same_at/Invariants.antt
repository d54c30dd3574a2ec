use Rattle.bits.proofs.Making.{Alike}
use Rattle.bits.proofs.Bits.same_at.Given as goal

abbrev pub invariant-loop-i : goal.invariant-loop-i
invariant-loop-i l = Alike l.word-items l.first l.second l.i
