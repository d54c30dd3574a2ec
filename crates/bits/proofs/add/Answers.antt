-- `add` meets its contract: 1 shifted to k is the set of k alone.
use Prim.Native.Nat.{ℕ}
use mathlib.Core.Path.{ap, ◌∙◌}
use lib.Bits.{bit_or}
use Rattle.bits.specs.Bits.{has}
use Rattle.bits.proofs.Laws.{has_add, one_shifted}
use Rattle.bits.proofs.add.Goals as goal

pub returns : goal.returns
returns c j =
    let w : ℕ = c.args.w in
    let k : ℕ = c.args.k in
    ap (λ (one : ℕ). has (bit_or w one) j) (one_shifted 64 k c.requires) ∙ has_add w k j
