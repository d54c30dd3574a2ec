use mathlib.Core.Path.{◌≡◌}
use lib.ListN.{get_or}
use lib.Bits.{bit_and}
use Rattle.bits.proofs.Making.{Made}
use Rattle.bits.proofs.Bits.meet.Given as goal

abbrev pub invariant-loop-i : goal.invariant-loop-i
invariant-loop-i l = Made (λ p w. w ≡ bit_and (get_or l.mine p 0) (get_or l.others p 0)) l.word-items l.i
