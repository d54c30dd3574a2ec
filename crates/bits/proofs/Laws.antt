-- The laws of a word as a set of numbers. They hold for any word and any number: where a word's width enters, it is a variable.
use Prim.Native.Nat.{ℕ, suc, zero, ◌+◌, ◌-◌, ◌*◌, ◌/◌, ◌%◌, ◌^◌, ◌<◌, ◌≤◌, max}
use mathlib.Core.Path.{◌≡◌, refl, sym, ap, ◌∙◌}
use mathlib.Core.Bool.{false, ◌||◌}
use native.Mathlib.Omega.{arith}
use native.Mathlib.Nat.{one-mul, div-eq_of_lt, div_self, lt_of_lt_of_le}
use native.Mathlib.Decide.{dec_lt, ℕ_discrete}
use lib.Dec.{eqb, ltb}
use lib.Bits.{bit_or, or_shr, or_step}
use lib.Pow.{pow_pos, pow_mono, pow-lt, pow-add, shl-shr, shl_exact, shr-shr, ones_lt, ones_split, high}
use borrow.Author.Tests.{eq-eqb, ne_eqb, eqb-true, lt-ltb, le-ltb}
use Rattle.bits.specs.Bits.{has}

-- a word below 2 ^ n has only numbers below n
pub has_past : (n w j : ℕ) → w < 2 ^ n → n ≤ j → has w j ≡ false
unfolding has
has_past n w j small past = rw (div-eq_of_lt (lt_of_lt_of_le small (pow_mono past)))

-- the empty set
pub empty : (j : ℕ) → has 0 j ≡ false
empty j = has_past 0 0 j (omega arith) (omega arith)

-- the lowest bit of bit_or ..
or_low : (a b : ℕ) → bit_or a b % 2 ≡ max (a % 2) (b % 2)
or_low a b =
    let e : bit_or a b ≡ bit_or (a / 2) (b / 2) * 2 + max (a % 2) (b % 2) = or_step a b in
    omega arith

-- .. is 1 where that of either word is
or_bit : (x y : ℕ) → x < 2 → y < 2 → eqb (max x y) 1 ≡ (eqb x 1 || eqb y 1)
or_bit zero zero hx hy = refl
or_bit zero (suc zero) hx hy = refl
or_bit (suc zero) zero hx hy = refl
or_bit (suc zero) (suc zero) hx hy = refl
or_bit zero (suc (suc y)) hx hy = absurd (omega arith)
or_bit (suc zero) (suc (suc y)) hx hy = absurd (omega arith)
or_bit (suc (suc x)) y hx hy = absurd (omega arith)

-- two sets joined
pub has_join : (a b j : ℕ) → has (bit_or a b) j ≡ (has a j || has b j)
unfolding has
has_join a b j =
    rw (or_shr a b j, or_low (a / 2 ^ j) (b / 2 ^ j)) (or_bit (a / 2 ^ j % 2) (b / 2 ^ j % 2) (omega arith) (omega arith))

-- the set of the numbers below n
pub has_below : (n j : ℕ) → has (2 ^ n - 1) j ≡ ltb j n
unfolding has
has_below n j = go (dec_lt j n)
  where
    odd : (d : ℕ) → (2 ^ suc d - 1) % 2 ≡ 1
    odd d = omega (arith, pow_pos d)

    inside : (d : ℕ) → (2 ^ (suc d + j) - 1) / 2 ^ j ≡ 2 ^ suc d - 1
    inside d = rw (ones_split (suc d) j) (high (2 ^ suc d - 1) j (ones_lt j))

    go : Dec (j < n) → eqb ((2 ^ n - 1) / 2 ^ j % 2) 1 ≡ ltb j n
    go (yes h) =
        let d : ℕ = n - suc j in
        let e : suc d + j ≡ n = omega arith in
        let bit : (2 ^ n - 1) / 2 ^ j % 2 ≡ 1 = rw e at (ap (λ x. x % 2) (inside d) ∙ odd d) in
        rw (bit, lt-ltb j n h)
    go (no h) = has_past n (2 ^ n - 1) j (ones_lt n) (omega arith) ∙ sym (le-ltb j n (omega arith))

-- the same of all the bits that a word of n has
pub has_below_word : (n k j : ℕ) → n ≤ k → j < n → has (2 ^ n - 1) j ≡ ltb j k
has_below_word n k j past inside = has_below n j ∙ lt-ltb j n inside ∙ sym (lt-ltb j k (omega arith))

-- the numbers below n, word by word
pub below_place : (p k n : ℕ) → ltb k (n - 64 * p) ≡ ltb (64 * p + k) n
below_place p k n = go (dec_lt (64 * p + k) n)
  where
    go : Dec (64 * p + k < n) → ltb k (n - 64 * p) ≡ ltb (64 * p + k) n
    go (yes h) = lt-ltb k (n - 64 * p) (omega arith) ∙ sym (lt-ltb (64 * p + k) n h)
    go (no h) = le-ltb k (n - 64 * p) (omega arith) ∙ sym (le-ltb (64 * p + k) n (omega arith))

pub below_past : (j n : ℕ) → n ≤ j → ltb j n ≡ false
below_past j n h = le-ltb j n h

-- the set of k alone
pub has_one : (k j : ℕ) → has (2 ^ k) j ≡ eqb j k
unfolding has
has_one k j = go (dec_lt j k)
  where
    even : (d : ℕ) → 2 ^ (suc d + j) / 2 ^ j % 2 ≡ 0
    even d = rw (pow-add 2 (suc d) j, shl-shr (2 ^ suc d) j) (omega arith)

    same : Dec (j ≡ k) → (j < k → ⊥) → eqb (2 ^ k / 2 ^ j % 2) 1 ≡ eqb j k
    same (yes e) h = rw (e, div_self (pow_pos k), eq-eqb k k refl)
    same (no g) h = rw (div-eq_of_lt (pow-lt {i = k} {j = j} (omega arith)), ne_eqb j k g)

    go : Dec (j < k) → eqb (2 ^ k / 2 ^ j % 2) 1 ≡ eqb j k
    go (yes h) =
        let e : suc (k - suc j) + j ≡ k = omega arith in
        let bit : 2 ^ k / 2 ^ j % 2 ≡ 0 = rw e at (even (k - suc j)) in
        rw (bit, ne_eqb j k (λ q. omega arith))
    go (no h) = same (ℕ_discrete j k) h

-- a set with k added
pub has_add : (w k j : ℕ) → has (bit_or w (2 ^ k)) j ≡ (has w j || eqb j k)
has_add w k j = rw (has_join w (2 ^ k) j, has_one k j)

-- in a word of n bits a 1 shifted to k stays whole
pub one_shifted : (n k : ℕ) → k < n → (1 * 2 ^ k) % 2 ^ n ≡ 2 ^ k
one_shifted n k h = shl_exact 1 k n (omega arith) (omega arith) ∙ one-mul (2 ^ k)

-- words that agree on 0 have the same lowest bit
low_bit : (a b : ℕ) → has a 0 ≡ has b 0 → a % 2 ≡ b % 2
unfolding has
low_bit a b e = go (ℕ_discrete (a % 2) 1) (ℕ_discrete (b % 2) 1)
  where
    whole : (x : ℕ) → x / 2 ^ 0 ≡ x
    whole x = omega arith

    f : eqb (a % 2) 1 ≡ eqb (b % 2) 1
    f = rw (whole a, whole b) at e

    go : Dec (a % 2 ≡ 1) → Dec (b % 2 ≡ 1) → a % 2 ≡ b % 2
    go (yes x) (yes y) = x ∙ sym y
    go (no x) (no y) = omega arith
    go (yes x) (no y) = absurd (y (eqb-true (b % 2) 1 (sym f ∙ eq-eqb (a % 2) 1 x)))
    go (no x) (yes y) = absurd (x (eqb-true (a % 2) 1 (f ∙ eq-eqb (b % 2) 1 y)))

-- half a word is its higher bits, each a place lower
half_bit : (a j : ℕ) → has (a / 2) j ≡ has a (1 + j)
unfolding has
half_bit a j = ap (λ (x : ℕ). eqb (x % 2) 1) (shr-shr a 1 j)

-- two words with the same members are equal
pub ext : (a b : ℕ) → ((j : ℕ) → has a j ≡ has b j) → a ≡ b
ext a b f = upto (a + b) a b (omega arith) (omega arith) f
  where
    upto : (m a b : ℕ) → a ≤ m → b ≤ m → ((j : ℕ) → has a j ≡ has b j) → a ≡ b
    upto zero a b ha hb f = omega arith
    upto (suc m) a b ha hb f =
        let low : a % 2 ≡ b % 2 = low_bit a b (f 0) in
        let higher : (j : ℕ) → has (a / 2) j ≡ has (b / 2) j = λ j. half_bit a j ∙ f (1 + j) ∙ sym (half_bit b j) in
        let rest : a / 2 ≡ b / 2 = upto m (a / 2) (b / 2) (omega arith) (omega arith) higher in
        omega arith
