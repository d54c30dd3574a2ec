-- All words but the lowest are 0.
use native.Mathlib.Omega.{arith}
use Rattle.bits.specs.Bits.{whole_in, whole}
use Rattle.bits.proofs.Bits.of_word.Goals as goal

pub returns : goal.returns
unfolding whole whole_in
returns c = omega arith
