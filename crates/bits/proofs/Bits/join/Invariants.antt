use mathlib.Core.Path.{◌≡◌}
use lib.ListN.{get_or}
use lib.Bits.{bit_or}
use Rattle.bits.proofs.Making.{Made}
use Rattle.bits.proofs.Bits.join.Given as goal

abbrev pub invariant-loop-i : goal.invariant-loop-i
invariant-loop-i l = Made (λ p w. w ≡ bit_or (get_or l.mine p 0) (get_or l.others p 0)) l.word-items l.i
