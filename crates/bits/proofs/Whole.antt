-- A set in words is one number with the same bits, each law once over the word's place.
use Prim.Native.Nat.{ℕ, suc, zero, ◌+◌, ◌-◌, ◌*◌, ◌/◌, ◌%◌, ◌^◌, ◌<◌, ◌≤◌}
use mathlib.Core.Path.{◌≡◌, refl, sym, ap, ◌∙◌}
use mathlib.Core.Bool.{Bool, false}
use mathlib.Core.List.{List, [], ◌∷◌}
use native.Mathlib.Omega.{arith}
use native.Mathlib.Nat.{mul-add-div_right, mul_assoc}
use native.Mathlib.Decide.{dec_lt}
use lib.Dec.{eqb}
use lib.ListN.{length, get_or, get_or-eq_default}
use lib.Pow.{pow_pos, pow-add, shr-shr, high}
use mir.Syntax.{w64}
use mir.Val.{Fits}
use Rattle.bits.specs.declared.Bits.{Bits}
use Rattle.bits.specs.Bits.{has, words, width, whole_in, whole, words_of, bits_of}
use Rattle.bits.proofs.Laws.{empty}

-- what every set of the code is, and a list of numbers need not be: so many words, each of 64 bits
pub record Proper (ws : List ℕ) : Type 0 where
  pub long : length ws ≡ words
  pub small : (p : ℕ) → get_or ws p 0 < 2 ^ 64

-- what the language says of a word
pub fits : {n : ℕ} → Fits w64 n → n < 2 ^ 64
fits h = h.fits

-- whether j is in the words ws
abbrev pub in_words : List ℕ → ℕ → Bool
in_words ws j = has (get_or ws (j / 64) 0) (j % 64)

-- below 64 the first word decides, past it the others
below : (r w k : ℕ) → k < 64 → has (r * 2 ^ 64 + w) k ≡ has w k
unfolding has
below r w k h =
    let d : ℕ = 63 - k in
    let y : ℕ = r * 2 ^ d in
    let e : 2 ^ 64 ≡ 2 ^ suc d * 2 ^ k = ap (λ (n : ℕ). 2 ^ n) (let q : 64 ≡ suc d + k = omega arith in q) ∙ pow-add 2 (suc d) k in
    let f : r * 2 ^ 64 ≡ (r * 2 ^ suc d) * 2 ^ k = ap (λ (n : ℕ). r * n) e ∙ sym (mul_assoc r (2 ^ suc d) (2 ^ k)) in
    let g : (r * 2 ^ 64 + w) / 2 ^ k ≡ r * 2 ^ suc d + w / 2 ^ k =
    ap (λ (n : ℕ). (n + w) / 2 ^ k) f ∙ mul-add-div_right (pow_pos k) (r * 2 ^ suc d) w in
    let t : r * 2 ^ suc d ≡ y * 2 = ap (λ (n : ℕ). r * n) (let q : 2 ^ suc d ≡ 2 ^ d * 2 = omega arith in q) ∙ sym (mul_assoc r (2 ^ d) 2) in
    let m : (r * 2 ^ suc d + w / 2 ^ k) % 2 ≡ w / 2 ^ k % 2 = omega arith in
    ap (λ (n : ℕ). eqb (n % 2) 1) g ∙ ap (λ (n : ℕ). eqb n 1) m

above : (r w k : ℕ) → w < 2 ^ 64 → has (r * 2 ^ 64 + w) (64 + k) ≡ has r k
unfolding has
above r w k h = rw (← shr-shr (r * 2 ^ 64 + w) 64 k, high r 64 h)

in_whole : (ws : List ℕ) → ((p : ℕ) → get_or ws p 0 < 2 ^ 64) → (k : ℕ) → has (whole_in ws) k ≡ in_words ws k
unfolding whole_in
in_whole [] small k = empty k ∙ sym (empty (k % 64))
in_whole (w ∷ ws) small k = go (in_whole ws rest) (dec_lt k 64)
  where
    rest : (p : ℕ) → get_or ws p 0 < 2 ^ 64
    rest p = small (suc p)

    go : ((j : ℕ) → has (whole_in ws) j ≡ in_words ws j) → Dec (k < 64) → has (whole_in ws * 2 ^ 64 + w) k ≡ in_words (w ∷ ws) k
    go more (yes h) =
        let p : k / 64 ≡ 0 = omega arith in
        let q : k % 64 ≡ k = omega arith in
        rw (p, q) (below (whole_in ws) w k h)
    go more (no h) =
        let j : ℕ = k - 64 in
        let e : 64 + j ≡ k = omega arith in
        let p : k / 64 ≡ suc (j / 64) = omega arith in
        let q : k % 64 ≡ j % 64 = omega arith in
        rw (p, q) (rw e at (above (whole_in ws) w j (small 0) ∙ more j))

-- "signal s at bit s": of the words too
pub has_whole : {b : Bits} → Proper b.words → (k : ℕ) → has (whole b) k ≡ in_words b.words k
unfolding whole
has_whole {b} p k = in_whole b.words p.small k

-- the bit k of word i
pub at_place : (i k : ℕ) → k < 64 → ((64 * i + k) / 64 ≡ i) × ((64 * i + k) % 64 ≡ k)
at_place i k h = (omega arith, omega arith)

pub has_word : {b : Bits} → Proper b.words → (i k : ℕ) → k < 64 → has (whole b) (64 * i + k) ≡ has (get_or b.words i 0) k
has_word {b} p i k h =
    let place = at_place i k h in
    has_whole {b = b} p (64 * i + k) ∙ rw (place.0, place.1)

-- there is nothing past the last word
pub has_wide : {b : Bits} → Proper b.words → (k : ℕ) → width ≤ k → has (whole b) k ≡ false
has_wide {b} p k h =
    let past : length b.words ≤ k / 64 = omega (arith, p.long) in
    has_whole {b = b} p k ∙ ap (λ (w : ℕ). has w (k % 64)) (get_or-eq_default b.words 0 {n = k / 64} past) ∙ empty (k % 64)

-- a number has as many words as are asked for, and those of a set's number are the set's
pub words_of_long : (k n : ℕ) → length (words_of k n) ≡ k
unfolding words_of
words_of_long zero n = refl
words_of_long (suc k) n = ap suc (words_of_long k (n / 2 ^ 64))

again : (ws : List ℕ) → ((p : ℕ) → get_or ws p 0 < 2 ^ 64) → words_of (length ws) (whole_in ws) ≡ ws
unfolding words_of whole_in
again [] small = refl
again (w ∷ ws) small =
    let h : w < 2 ^ 64 = small 0 in
    let low : (whole_in ws * 2 ^ 64 + w) % 2 ^ 64 ≡ w = omega arith in
    let rest : (whole_in ws * 2 ^ 64 + w) / 2 ^ 64 ≡ whole_in ws = high (whole_in ws) 64 h in
    rw (low, rest) (ap (λ (l : List ℕ). w ∷ l) (again ws (λ p. small (suc p))))

pub words_whole : {b : Bits} → Proper b.words → words_of words (whole b) ≡ b.words
unfolding whole
words_whole {b} p = ap (λ (n : ℕ). words_of n (whole_in b.words)) (sym p.long) ∙ again b.words p.small

pub bits_whole : {b : Bits} → Proper b.words → bits_of (whole b) ≡ b
unfolding bits_of
bits_whole {b} p = ap (λ (l : List ℕ). record { words = l }) (words_whole {b = b} p)

-- all words but the lowest count in multiples of 2 ^ 64
pub low_of_whole : {b : Bits} → Proper b.words → get_or b.words 0 0 ≡ whole b % 2 ^ 64
unfolding whole whole_in
low_of_whole {b} p = go b.words (p.small 0)
  where
    go : (ws : List ℕ) → get_or ws 0 0 < 2 ^ 64 → get_or ws 0 0 ≡ whole_in ws % 2 ^ 64
    go [] h = refl
    go (w ∷ ws) h = omega arith
