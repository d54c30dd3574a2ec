-- Bits that are moved to places that differ: each stands at its own place.
use mathlib.Core.Path.{◌≡◌, sym, ◌∙◌}
use mathlib.Core.Bool.{Bool, true, false, not, ◌&&◌}
use mathlib.Core.List.{List, [], ◌∷◌}
use Prim.Native.Nat.{ℕ, zero, suc, ◌+◌, ◌*◌, ◌/◌, ◌%◌, ◌^◌, ◌<◌, ◌≤◌}
use native.Mathlib.Nat.{le_of_suc-le-suc, not-suc-le-zero, mul-le-mul_right}
use native.Mathlib.Omega.{arith}
use lib.Dec.{eqb}
use lib.ListN.{length, get_or}
use borrow.Author.Tests.{eqb-false}
use Rattle.number.proofs.Bools.{and_left, and_right, not_on}
use Rattle.tables.specs.Answering.{bit}
use Rattle.tables.specs.Reordering.{placed}
use Rattle.tables.proofs.Bits.{bit_none, bit_zero, bit_suc, put_here, put_there}

-- k is none of them
abbrev pub absent : ℕ → List ℕ → Bool
absent k [] = true
absent k (p ∷ ps) = not (eqb k p) && absent k ps

-- no two of them are equal
abbrev pub distinct : List ℕ → Bool
distinct [] = true
distinct (p ∷ ps) = absent p ps && distinct ps

unlike : (k p : ℕ) (ps : List ℕ) → absent k (p ∷ ps) ≡ true → (k ≡ p → ⊥) × (absent k ps ≡ true)
unlike k p ps e =
    let differs : Bool = not (eqb k p) in
    (eqb-false k p (not_on (eqb k p) (and_left differs (absent k ps) e)), and_right differs (absent k ps) e)

apart : (p : ℕ) (ps : List ℕ) → distinct (p ∷ ps) ≡ true → (absent p ps ≡ true) × (distinct ps ≡ true)
apart p ps e = (and_left (absent p ps) (distinct ps) e, and_right (absent p ps) (distinct ps) e)

absent_at : (k : ℕ) (ps : List ℕ) (b : ℕ) → absent k ps ≡ true → b < length ps → get_or ps b 0 ≡ k → ⊥
absent_at k [] b e h q = not-suc-le-zero h
absent_at k (p ∷ ps) zero e h q = (unlike k p ps e).0 (sym q)
absent_at k (p ∷ ps) (suc b) e h q = absent_at k ps b (unlike k p ps e).1 (le_of_suc-le-suc h) q

-- nothing is placed elsewhere ..
nothing : (k : ℕ) (ps : List ℕ) (t : ℕ) → distinct ps ≡ true → absent k ps ≡ true → bit (placed ps t) k ≡ false
unfolding placed
nothing k [] t d e = bit_none k
nothing k (p ∷ ps) t d e =
    let rest = apart p ps d in
    put_there p (t % 2) (placed ps (t / 2)) k (omega arith) (nothing p ps (t / 2) rest.1 rest.0) (unlike k p ps e).0
    ∙ nothing k ps (t / 2) rest.1 (unlike k p ps e).1

-- .. and bit b is placed where the list says
pub placed_bit : (ps : List ℕ) (t b : ℕ) → distinct ps ≡ true → b < length ps → bit (placed ps t) (get_or ps b 0) ≡ bit t b
unfolding placed
placed_bit [] t b d h = absurd (not-suc-le-zero h)
placed_bit (p ∷ ps) t zero d h =
    let rest = apart p ps d in
    put_here p (t % 2) (placed ps (t / 2)) (omega arith) (nothing p ps (t / 2) rest.1 rest.0) ∙ sym (bit_zero t)
placed_bit (p ∷ ps) t (suc b) d h =
    let rest = apart p ps d in
    let elsewhere : get_or ps b 0 ≡ p → ⊥ = absent_at p ps b rest.0 (le_of_suc-le-suc h) in
    put_there p (t % 2) (placed ps (t / 2)) (get_or ps b 0) (omega arith) (nothing p ps (t / 2) rest.1 rest.0) elsewhere
    ∙ placed_bit ps (t / 2) b rest.1 (le_of_suc-le-suc h) ∙ sym (bit_suc t b)

-- the number with a bit at each of the places: no more is ever placed
abbrev pub full : List ℕ → ℕ
full [] = 0
full (p ∷ ps) = 2 ^ p + full ps

pub placed_most : (ps : List ℕ) (t : ℕ) → placed ps t ≤ full ps
unfolding placed
placed_most [] t = omega arith
placed_most (p ∷ ps) t =
    let one : t % 2 * 2 ^ p ≤ 1 * 2 ^ p = mul-le-mul_right (2 ^ p) (omega arith) in
    omega (arith, one, placed_most ps (t / 2))
