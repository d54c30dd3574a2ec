-- The words copied are those at the set's place.
use mathlib.Core.Path.{◌≡◌, ap}
use Prim.Native.Nat.{◌+◌, ◌*◌, ◌-◌}
use native.Mathlib.Omega.{arith}
use Rattle.bits.specs.Bits.{words, whole_in, whole}
use Rattle.bits.proofs.Bits.read.Goals as goal

pub returns : goal.returns
unfolding whole
returns c =
    let n = c.args.n in
    let one_set : (n + 1) * words - n * words ≡ words = omega arith in
    ap whole_in (rw one_set at c.copy_from_slice.ensures.after)
