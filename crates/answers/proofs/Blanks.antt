-- Laws of the words of a question, and of the parts of a text.
use Prim.Native.Nat.{ℕ, suc, ◌+◌, ◌-◌, ◌≤◌, ◌<◌}
use mathlib.Core.Path.{◌≡◌, refl}
use mathlib.Core.Bool.{Bool, true, false}
use mathlib.Core.List.{List, [], ◌∷◌}
use native.Mathlib.Numerals.{add-one}
use borrow.Author.Tests.{eq-eqb, ne_eqb}
use native.Mathlib.Omega.{arith}
use lib.ListN.{length, take, drop, length-drop}
use lib.Seq.{take_all}
use lib.Dec.{eqb}
use Rattle.std.specs.Prelude.{Option, Some, None, MatchOption, unwrap_or}
use Rattle.std.specs.List.{AllWithin, HoldsAt}
use Rattle.std.proofs.lemmas.Iterator.{index_from_first}
use Rattle.texts.specs.Bytes.{Unhexed}
use Rattle.texts.specs.Words.{same}
use Rattle.texts.proofs.Pairs.{were_bytes, were_none}
use Rattle.answers.specs.Words.{part_end}
use Rattle.answers.specs.Questions.{room, no_bytes, bytes_in}
use Rattle.answers.specs.Code.{Decodes}

-- where the library's search stops
pub part_end_is : (sign : ℕ) (s : List ℕ) (r : Option ℕ)
    → MatchOption r (AllWithin (λ x. x ≡ sign → ⊥) s 0 (length s)) (λ i. (i < length s) × HoldsAt (λ x. x ≡ sign) s i × AllWithin (λ x. x ≡ sign → ⊥) s 0 i)
    → part_end sign s ≡ unwrap_or r (length s)
unfolding part_end
part_end_is sign s r first =
    index_from_first (part_end sign) (λ x. x ≡ sign) (λ x. x ≡ sign → ⊥) refl (λ x l is. rw (eq-eqb x sign is))
    (λ x l other. rw (ne_eqb x sign other) (omega arith)) s r first

pub part_end_few : (sign : ℕ) (s : List ℕ) → part_end sign s ≤ length s
unfolding part_end
part_end_few sign [] = omega arith
part_end_few sign (b ∷ s) = by_sign (eqb b sign) refl (part_end_few sign s)
  where
    by_sign : (t : Bool) → eqb b sign ≡ t → part_end sign s ≤ length s → part_end sign (b ∷ s) ≤ length (b ∷ s)
    by_sign true is few = rw is (omega arith)
    by_sign false is few = rw is (omega arith)

-- bytes that were read of a word that is not `-` and has a digit at least
pub decoded : {word out out' : List ℕ} (r : Option ℕ) → Unhexed word r out out' → length out ≡ room → same word no_bytes ≡ false → eqb (length word) 0 ≡ false
    → Decodes word r out'
unfolding bytes_in
decoded (Some n) read long other some = rw (other, some) (rw long at (were_bytes read))
decoded None read long other some = rw (other, some) (rw long at (were_none read))

-- what is left of a text is as long as it is
pub rest_is : (s : List ℕ) (n : ℕ) → take (length s - (n + 1)) (drop (n + 1) s) ≡ drop (suc n) s
rest_is s n = rw (add-one, take_all (length s - suc n) (drop (suc n) s) (rw length-drop (omega arith)))
