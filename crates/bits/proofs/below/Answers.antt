-- `below` meets its contract: 2 ^ n - 1, and where n is 64 or more every bit that a word has.
use Prim.Native.Nat.{ℕ, ◌-◌}
use mathlib.Core.Path.{ap, ◌∙◌}
use native.Mathlib.Omega.{arith}
use lib.Pow.{pow_pos}
use Rattle.bits.specs.Bits.{has}
use Rattle.bits.proofs.Laws.{has_below, has_below_word, one_shifted}
use Rattle.bits.proofs.below.Goals as goal

pub returns-then-n-ge64 : goal.returns-then-n-ge64
returns-then-n-ge64 c j inside = has_below_word 64 c.args.n j c.if-n-ge64.true inside

pub overflow_sub-result : goal.overflow_sub-result
overflow_sub-result c =
    let n : ℕ = c.args.n in
    omega (arith, one_shifted 64 n (omega arith), pow_pos n)

pub returns : goal.returns
returns c j inside =
    let n : ℕ = c.args.n in
    ap (λ (top : ℕ). has (top - 1) j) (one_shifted 64 n (omega arith)) ∙ has_below n j
