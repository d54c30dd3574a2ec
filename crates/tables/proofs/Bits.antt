-- The laws of a number's bits, and of weighed values.
use mathlib.Core.Path.{◌≡◌, refl, sym, ap, ◌∙◌}
use mathlib.Core.Bool.{Bool, true, false}
use mathlib.Core.List.{List, [], ◌∷◌}
use Prim.Native.Nat.{ℕ, zero, suc, ◌+◌, ◌*◌, ◌/◌, ◌%◌, ◌^◌, ◌<◌, ◌≤◌}
use native.Mathlib.Nat.{le_of_suc-le-suc, not-suc-le-zero, pow-succ'}
use native.Mathlib.Omega.{arith}
use lib.Dec.{eqb}
use lib.Bits.{block_half, block_odd}
use lib.Pow.{shr-shr}
use lib.ListN.{length, get_or}
use borrow.Author.Tests.{eqb-true, eqb-false}
use Rattle.tables.specs.Answering.{bit, value, weigh}

-- the lowest bit tells odd from even
pub bit_zero : (t : ℕ) → bit t 0 ≡ eqb (t % 2) 1
unfolding bit
bit_zero t = let e : t / 2 ^ 0 ≡ t = omega arith in ap (λ (m : ℕ). eqb (m % 2) 1) e

-- the bits behind the lowest are those of the half
pub bit_suc : (t k : ℕ) → bit t (suc k) ≡ bit (t / 2) k
unfolding bit
bit_suc t k =
    let e : 1 + k ≡ suc k = omega arith in
    ap (λ (m : ℕ). eqb (m % 2) 1) (ap (λ (m : ℕ). t / 2 ^ m) (sym e) ∙ sym (shr-shr t 1 k))

-- 0 has no bit
pub bit_none : (k : ℕ) → bit 0 k ≡ false
bit_none zero = bit_zero 0
bit_none (suc k) = bit_suc 0 k ∙ bit_none k

value_of : (x : Bool) → eqb (value x % 2) 1 ≡ x
value_of true = refl
value_of false = refl

value_small : (x : Bool) → value x ≤ 1
value_small true = omega arith
value_small false = omega arith

-- bit p of what the values weigh is the value at p
pub weigh_bit : (l : List Bool) (p : ℕ) (d : Bool) → p < length l → bit (weigh l) p ≡ get_or l p d
unfolding weigh
weigh_bit [] p d h = absurd (not-suc-le-zero h)
weigh_bit (x ∷ l) zero d h =
    let s : value x ≤ 1 = value_small x in
    let e : (value x + 2 * weigh l) % 2 ≡ value x % 2 = omega arith in
    bit_zero (value x + 2 * weigh l) ∙ ap (λ (m : ℕ). eqb m 1) e ∙ value_of x
weigh_bit (x ∷ l) (suc p) d h =
    let s : value x ≤ 1 = value_small x in
    let e : (value x + 2 * weigh l) / 2 ≡ weigh l = omega arith in
    bit_suc (value x + 2 * weigh l) p
    ∙ ap (λ (m : ℕ). bit m p) e
    ∙ weigh_bit l p d (le_of_suc-le-suc h)

pub weigh_small : (l : List Bool) → weigh l < 2 ^ length l
unfolding weigh
weigh_small [] = omega arith
weigh_small (x ∷ l) = omega (arith, value_small x, weigh_small l, pow-succ' 2 (length l))

-- two numbers below 2 ^ n with the same bits are one
pub same_bits : (n a b : ℕ) → a < 2 ^ n → b < 2 ^ n → ((k : ℕ) → k < n → bit a k ≡ bit b k) → a ≡ b
same_bits zero a b ha hb same = omega arith
same_bits (suc n) a b ha hb same =
    let low : a % 2 ≡ b % 2 = same_odd (a % 2) (b % 2) (omega arith) (omega arith) (sym (bit_zero a) ∙ same 0 (omega arith) ∙ bit_zero b) in
    let p : 2 ^ suc n ≡ 2 * 2 ^ n = pow-succ' 2 n in
    let high : a / 2 ≡ b / 2 = same_bits n (a / 2) (b / 2) (omega arith) (omega arith) halves in
    omega arith
  where
    halves : (k : ℕ) → k < n → bit (a / 2) k ≡ bit (b / 2) k
    halves k h = sym (bit_suc a k) ∙ same (suc k) (omega arith) ∙ bit_suc b k

    same_odd : (x y : ℕ) → x < 2 → y < 2 → eqb x 1 ≡ eqb y 1 → x ≡ y
    same_odd x y hx hy e = go (eqb x 1) refl (sym e)
      where
        go : (b : Bool) → eqb x 1 ≡ b → eqb y 1 ≡ b → x ≡ y
        go true a c = eqb-true x 1 a ∙ sym (eqb-true y 1 c)
        go false a c =
            let p : x ≡ 1 → ⊥ = eqb-false x 1 a in
            let q : y ≡ 1 → ⊥ = eqb-false y 1 c in
            omega arith

-- A bit that a number lacks is put at p: it stands there ..
pub put_here : (p x m : ℕ) → x < 2 → bit m p ≡ false → bit (x * 2 ^ p + m) p ≡ eqb x 1
put_here zero x m h e =
    let even : m % 2 ≡ 1 → ⊥ = eqb-false (m % 2) 1 (sym (bit_zero m) ∙ e) in
    let low : (x * 2 ^ 0 + m) % 2 ≡ x = omega arith in
    bit_zero (x * 2 ^ 0 + m) ∙ ap (λ (n : ℕ). eqb n 1) low
put_here (suc p) x m h e =
    bit_suc (x * 2 ^ suc p + m) p
    ∙ ap (λ (n : ℕ). bit n p) (block_half x p m)
    ∙ put_here p x (m / 2) h (sym (bit_suc m p) ∙ e)

-- .. and no other bit changes
pub put_there : (p x m k : ℕ) → x < 2 → bit m p ≡ false → (k ≡ p → ⊥) → bit (x * 2 ^ p + m) k ≡ bit m k
put_there zero x m zero h e other = absurd (other refl)
put_there zero x m (suc k) h e other =
    let even : m % 2 ≡ 1 → ⊥ = eqb-false (m % 2) 1 (sym (bit_zero m) ∙ e) in
    let half : (x * 2 ^ 0 + m) / 2 ≡ m / 2 = omega arith in
    bit_suc (x * 2 ^ 0 + m) k ∙ ap (λ (n : ℕ). bit n k) half ∙ sym (bit_suc m k)
put_there (suc p) x m zero h e other =
    bit_zero (x * 2 ^ suc p + m) ∙ ap (λ (n : ℕ). eqb n 1) (block_odd x p m) ∙ sym (bit_zero m)
put_there (suc p) x m (suc k) h e other =
    bit_suc (x * 2 ^ suc p + m) k
    ∙ ap (λ (n : ℕ). bit n k) (block_half x p m)
    ∙ put_there p x (m / 2) k h (sym (bit_suc m p) ∙ e) (λ q. other (ap suc q))
    ∙ sym (bit_suc m k)
