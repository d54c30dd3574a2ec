-- The bits from `from` on are off for as long as there are zeros.
use Rattle.bits.proofs.NoBits.{no_bits_zeros}
use Rattle.bits.proofs.none_in.Goals as goal

pub returns : goal.returns
returns c = let a = c.args in no_bits_zeros a.count a.from a.w c.requires
