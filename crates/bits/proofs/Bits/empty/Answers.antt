-- Words that are all 0 are the number 0.
use mathlib.Core.Path.{refl}
use Rattle.bits.specs.Bits.{whole_in, whole}
use Rattle.bits.proofs.Bits.empty.Goals as goal

pub returns : goal.returns
unfolding whole whole_in
returns c = refl
