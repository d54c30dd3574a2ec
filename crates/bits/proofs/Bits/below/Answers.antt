-- Word by word: below 64 i + k is below n where k is below n less 64 i.
use borrow.Author.Rules.{rules}
use Prim.Native.Nat.{ℕ, ◌*◌, ◌-◌, ◌<◌}
use mathlib.Core.Path.{◌≡◌, refl, ap, ◌∙◌}
use native.Mathlib.Omega.{arith}
use Rattle.bits.specs.declared.Bits.{Bits}
use lib.Dec.{ltb}
use Rattle.bits.specs.Bits.{has}
use Rattle.bits.proofs.Laws.{below_place, below_past}
use Rattle.bits.proofs.Whole.{Proper}
use Rattle.bits.proofs.Making.{made_none, made_more, made_proper, by_words}
use Rattle.bits.proofs.Bits.below.Goals as goal

pub loop-i-init : goal.loop-i-init
loop-i-init c = made_none _ _ refl

pub loop-i-preserved : goal.loop-i-preserved
loop-i-preserved c = let asked : (k : ℕ) → k < 64 → has c.below.result k ≡ ltb k (c.args.n - 64 * c.loop-i.i) =
    λ k small. c.below.ensures k small ∙ ap (λ (m : ℕ). ltb k m) c.saturating_sub.ensures in
    made_more c.loop-i.invariant (omega arith) _ (search rules) asked

pub returns : goal.returns
returns c = let n : ℕ = c.args.n in
    let r : Bits = record { words = c.loop-i.word-items } in
    let made : Proper r.words = made_proper c.loop-i.invariant (omega arith) in
    by_words {b = r} made (λ j. ltb j n) (λ p k inside small. c.loop-i.invariant.here p (omega arith) k small ∙ below_place p k n) (λ j past. below_past j n (omega arith))
