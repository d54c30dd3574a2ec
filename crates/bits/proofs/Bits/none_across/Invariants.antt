use Prim.Native.Nat.{◌+◌}
use Rattle.bits.specs.Bits.{whole}
use Rattle.bits.proofs.Making.{Off}
use Rattle.bits.proofs.Bits.none_across.Given as goal

abbrev pub invariant-loop-i : goal.invariant-loop-i
invariant-loop-i l = Off (whole (record { words = l.word-items })) l.from (l.from + l.count) l.i
