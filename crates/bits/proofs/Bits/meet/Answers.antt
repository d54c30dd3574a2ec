-- Word by word.
use borrow.Author.Rules.{rules}
use Prim.Native.Nat.{ℕ, ◌+◌, ◌*◌}
use mathlib.Core.Path.{refl, sym, ap, ◌∙◌}
use native.Mathlib.Omega.{arith}
use lib.ListN.{get_or}
use Rattle.bits.specs.declared.Bits.{Bits}
use mathlib.Core.Bool.{Bool, ◌&&◌}
use lib.Bits.{and_le_l}
use native.Mathlib.Nat.{lt_of_le_of_lt}
use Rattle.bits.specs.Bits.{has, whole}
use Rattle.bits.proofs.None.{has_meet}
use Rattle.bits.proofs.Whole.{Proper, fits, has_word, has_wide}
use Rattle.bits.proofs.Making.{made_none, made_more, made_proper, by_words}
use Rattle.bits.proofs.Bits.meet.Goals as goal

pub loop-i-init : goal.loop-i-init
loop-i-init c = made_none _ _ refl

pub loop-i-preserved : goal.loop-i-preserved
loop-i-preserved c =
    let a = c.args in
    let ps : Proper a.self.words = record { long = search rules; small = λ p. fits (search rules) } in
    made_more c.loop-i.invariant (omega arith) _ (lt_of_le_of_lt (and_le_l _ _) (ps.small c.loop-i.i)) refl

pub returns : goal.returns
returns c = let a = c.args in
    let s : Bits = a.self in
    let o : Bits = a.other in
    let ps : Proper s.words = record { long = search rules; small = λ p. fits (search rules) } in
    let po : Proper o.words = record { long = search rules; small = λ p. fits (search rules) } in
    let r : Bits = record { words = c.loop-i.word-items } in
    let made : Proper r.words = made_proper c.loop-i.invariant (omega arith) in
    by_words {b = r} made (λ j. has (whole s) j && has (whole o) j)
    (λ p k inside small. ap (λ (w : ℕ). has w k) (c.loop-i.invariant.here p (omega arith))
    ∙ has_meet (get_or s.words p 0) (get_or o.words p 0) k
    ∙ sym (ap (λ (x : Bool). x && has (whole o) (64 * p + k)) (has_word {b = s} ps p k small) ∙ ap (λ (x : Bool). has (get_or s.words p 0) k && x) (has_word {b = o} po p k small)))
    (λ j past. rw (has_wide {b = s} ps j past))
