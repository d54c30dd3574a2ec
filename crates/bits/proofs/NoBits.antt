-- The laws of `no_bits`: bit by bit, in two parts, and of a word.
use mathlib.Core.Path.{◌≡◌, refl, sym, ap, ◌∙◌}
use mathlib.Core.Bool.{Bool, true, false, not, ◌&&◌}
use Prim.Native.Nat.{ℕ, zero, suc, ◌+◌, ◌*◌, ◌/◌, ◌%◌, ◌^◌, ◌<◌, ◌≤◌}
use native.Mathlib.Omega.{arith}
use native.Mathlib.Decide.{dec_le, dec_lt, ℕ_discrete}
use native.Mathlib.Nat.{mul_comm}
use lib.Count.{under, count_trailing_zeros}
use lib.Dec.{eqb, leb}
use lib.Pow.{shr-shr, mod-pow-add}
use borrow.Author.Tests.{eq-eqb, ne_eqb, le-leb, lt-leb}
use Rattle.number.proofs.Bools.{taut}
use Rattle.bits.specs.Bits.{has, no_bits}

pub no_bits_lem : (k b : ℕ) (S : ℕ → Bool) → ((j : ℕ) → b ≤ j → j < b + k → S j ≡ false) → no_bits k b S ≡ true
unfolding no_bits
no_bits_lem zero b S off = refl
no_bits_lem (suc k) b S off = rw (off b (omega arith) (omega arith)) (no_bits_lem k (suc b) S (λ j l r. off j (omega arith) (omega arith)))

-- what is so of the bits that are asked
pub no_bits_same : (k b : ℕ) (S T : ℕ → Bool) → ((j : ℕ) → b ≤ j → j < b + k → S j ≡ T j) → no_bits k b S ≡ no_bits k b T
unfolding no_bits
no_bits_same zero b S T f = refl
no_bits_same (suc k) b S T f =
    rw (f b (omega arith) (omega arith), no_bits_same k (suc b) S T (λ j l r. f j (omega arith) (omega arith)))

first_off : (x y : Bool) → (not x && y) ≡ true → x ≡ false
first_off = taut 2 1 _ _ _ tt

rest_off : (x y : Bool) → (not x && y) ≡ true → y ≡ true
rest_off = taut 2 1 _ _ _ tt

pub bit_off : (k b : ℕ) (S : ℕ → Bool) → no_bits k b S ≡ true → (j : ℕ) → b ≤ j → j < b + k → S j ≡ false
unfolding no_bits
bit_off zero b S e j l r = absurd (omega arith)
bit_off (suc k) b S e j l r = go (ℕ_discrete j b) (bit_off k (suc b) S (rest_off (S b) (no_bits k (suc b) S) e) j)
  where
    go : Dec (j ≡ b) → (suc b ≤ j → j < suc b + k → S j ≡ false) → S j ≡ false
    go (yes here) above = rw here (first_off (S b) (no_bits k (suc b) S) e)
    go (no other) above = above (omega arith) (omega arith)

regroup : (x y z : Bool) → (x && (y && z)) ≡ ((x && y) && z)
regroup = taut 3 0 _ _ _ tt

pub no_bits_parts : (j k b : ℕ) (S : ℕ → Bool) → no_bits (j + k) b S ≡ (no_bits j b S && no_bits k (b + j) S)
unfolding no_bits
no_bits_parts zero k b S =
    let here : b + 0 ≡ b = omega arith in
    let all : 0 + k ≡ k = omega arith in
    rw (here, all)
no_bits_parts (suc j) k b S =
    let more : suc j + k ≡ suc (j + k) = omega arith in
    let further : b + suc j ≡ suc b + j = omega arith in
    rw (more, further) (ap (λ (x : Bool). not (S b) && x) (no_bits_parts j k (suc b) S)
    ∙ regroup (not (S b)) (no_bits j (suc b) S) (no_bits k (suc b + j) S))

-- the lowest bit of x, and the k bits above it
low_and_high : (x y z : ℕ) → x ≡ 2 * y + z → z < 2 → eqb x 0 ≡ (not (eqb z 1) && eqb y 0)
low_and_high x y z e small = go (ℕ_discrete z 1) (ℕ_discrete y 0)
  where
    go : Dec (z ≡ 1) → Dec (y ≡ 0) → eqb x 0 ≡ (not (eqb z 1) && eqb y 0)
    go (yes p) q = rw (eq-eqb z 1 p, ne_eqb x 0 (λ w. omega arith))
    go (no p) (yes q) = rw (ne_eqb z 1 p, eq-eqb y 0 q, eq-eqb x 0 (omega arith))
    go (no p) (no q) = rw (ne_eqb z 1 p, ne_eqb y 0 q, ne_eqb x 0 (λ w. omega arith))

pub no_bits_word : (k b w : ℕ) → no_bits k b (has w) ≡ eqb (w / 2 ^ b % 2 ^ k) 0
unfolding no_bits has
no_bits_word zero b w = sym (eq-eqb (w / 2 ^ b % 2 ^ 0) 0 (omega arith))
no_bits_word (suc k) b w =
    let more : (n : ℕ) → n + 1 ≡ suc n = λ n. omega arith in
    let x : ℕ = w / 2 ^ b in
    let half : x / 2 ≡ w / 2 ^ suc b = rw (more b) at (shr-shr w b 1) in
    let whole : x % 2 ^ suc k ≡ 2 * (x / 2 % 2 ^ k) + x % 2 = rw (more k, mul_comm (x / 2 % 2 ^ k) 2) at (mod-pow-add x k 1) in
    rw (no_bits_word k (suc b) w) (sym (low_and_high (x % 2 ^ suc k) (w / 2 ^ suc b % 2 ^ k) (x % 2) (rw half at whole) (omega arith)))

-- The k lowest bits are off where at least k zeros stand below the lowest bit that is on.
zeros_below : (k m x : ℕ) → k ≤ m → leb k (count_trailing_zeros m x) ≡ eqb (x % 2 ^ k) 0
unfolding count_trailing_zeros
zeros_below zero m x few = le-leb 0 (count_trailing_zeros m x) (omega arith) ∙ sym (eq-eqb (x % 2 ^ 0) 0 (omega arith))
zeros_below (suc k) zero x few = absurd (omega arith)
zeros_below (suc k) (suc m) x few =
    let more : (n : ℕ) → n + 1 ≡ suc n = λ n. omega arith in
    let whole : x % 2 ^ suc k ≡ 2 * (x / 2 % 2 ^ k) + x % 2 = rw (more k, mul_comm (x / 2 % 2 ^ k) 2) at (mod-pow-add x k 1) in
    low (x % 2) (count_trailing_zeros m (x / 2)) (omega arith)
    ∙ ap (λ (b : Bool). not (eqb (x % 2) 1) && b) (zeros_below k m (x / 2) (omega arith))
    ∙ sym (low_and_high (x % 2 ^ suc k) (x / 2 % 2 ^ k) (x % 2) whole (omega arith))
  where
    next : (t : ℕ) → Dec (k ≤ t) → leb (suc k) (suc t) ≡ leb k t
    next t (yes h) = le-leb (suc k) (suc t) (omega arith) ∙ sym (le-leb k t h)
    next t (no h) = lt-leb (suc k) (suc t) (omega arith) ∙ sym (lt-leb k t (omega arith))

    low : (d t : ℕ) → d < 2 → leb (suc k) (under d t) ≡ (not (eqb d 1) && leb k t)
    low zero t h = next t (dec_le k t)
    low (suc zero) t h = lt-leb (suc k) 0 (omega arith)
    low (suc (suc d)) t h = absurd (omega arith)

-- k bits from b on, of 64, by the zeros from b on
pub no_bits_zeros : (k b w : ℕ) → b + k ≤ 64 → leb k (count_trailing_zeros 64 (w / 2 ^ (b % 64))) ≡ no_bits k b (has w)
no_bits_zeros k b w few = zeros_below k 64 (w / 2 ^ (b % 64)) (omega arith) ∙ go (dec_lt b 64) ∙ sym (no_bits_word k b w)
  where
    go : Dec (b < 64) → eqb (w / 2 ^ (b % 64) % 2 ^ k) 0 ≡ eqb (w / 2 ^ b % 2 ^ k) 0
    go (yes h) = let e : b % 64 ≡ b = omega arith in rw e
    go (no h) =
        let none : k ≡ 0 = omega arith in
        rw none (eq-eqb (w / 2 ^ (b % 64) % 2 ^ 0) 0 (omega arith) ∙ sym (eq-eqb (w / 2 ^ b % 2 ^ 0) 0 (omega arith)))
