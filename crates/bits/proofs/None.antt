-- The laws of `none_from`, and of the comparison of two words at what is in a third.
use Prim.Native.Nat.{ℕ, zero, suc, ◌+◌, ◌*◌, ◌/◌, ◌%◌, ◌^◌, ◌<◌, ◌≤◌, min}
use mathlib.Core.Path.{◌≡◌, refl, sym, ap, ◌∙◌}
use mathlib.Core.Bool.{Bool, true, false, ◌&&◌}
use native.Mathlib.Omega.{arith}
use native.Mathlib.Nat.{mod-lt}
use native.Mathlib.Decide.{dec_lt}
use lib.Dec.{eqb}
use lib.Bits.{bit_and, and_shr, and_step}
use lib.Pow.{split, pow_pos, shr-shr}
use borrow.Author.Tests.{eq-eqb, eqb-true, eqb-false}
use Rattle.bits.specs.Bits.{has, none_from}
use Rattle.bits.specs.Code.{SameAt}
use Rattle.bits.proofs.Laws.{has_past, empty, ext}

-- a number that is 0 from bit k on is below 2 ^ k
pub none_past : (k w : ℕ) → none_from k w ≡ true → (j : ℕ) → k ≤ j → has w j ≡ false
unfolding none_from
none_past k w e j h =
    let none : w / 2 ^ k ≡ 0 = eqb-true (w / 2 ^ k) 0 e in
    let whole : 0 * 2 ^ k + w % 2 ^ k ≡ w = rw none at (split w k) in
    has_past k w j (omega (arith, mod-lt w (pow_pos k))) h

pub past_none : (k w : ℕ) → ((j : ℕ) → k ≤ j → has w j ≡ false) → none_from k w ≡ true
unfolding none_from has
past_none k w f =
    eq-eqb (w / 2 ^ k) 0 (ext (w / 2 ^ k) 0 (λ j. ap (λ (x : ℕ). eqb (x % 2) 1) (shr-shr w k j) ∙ f (k + j) (omega arith) ∙ sym (empty j)))

-- two sets' common part: bit by bit
and_low : (a b : ℕ) → bit_and a b % 2 ≡ min (a % 2) (b % 2)
and_low a b =
    let e : bit_and a b ≡ bit_and (a / 2) (b / 2) * 2 + min (a % 2) (b % 2) = and_step a b in
    omega arith

and_bit : (x y : ℕ) → x < 2 → y < 2 → eqb (min x y) 1 ≡ (eqb x 1 && eqb y 1)
and_bit zero zero hx hy = refl
and_bit zero (suc zero) hx hy = refl
and_bit (suc zero) zero hx hy = refl
and_bit (suc zero) (suc zero) hx hy = refl
and_bit zero (suc (suc y)) hx hy = absurd (omega arith)
and_bit (suc zero) (suc (suc y)) hx hy = absurd (omega arith)
and_bit (suc (suc x)) y hx hy = absurd (omega arith)

pub has_meet : (a b j : ℕ) → has (bit_and a b) j ≡ (has a j && has b j)
unfolding has
has_meet a b j =
    rw (and_shr a b j, and_low (a / 2 ^ j) (b / 2 ^ j)) (and_bit (a / 2 ^ j % 2) (b / 2 ^ j % 2) (omega arith) (omega arith))

and_on : (a b : Bool) → b ≡ true → (a && b) ≡ a
and_on true b e = e
and_on false b e = refl

-- a is there where w is
at_common : (w a j : ℕ) → has w j ≡ true → has (bit_and a w) j ≡ has a j
at_common w a j on = has_meet a w j ∙ and_on (has a j) (has w j) on

-- the comparison of n bits
pub same_at : (n w a b : ℕ) → a < 2 ^ n → b < 2 ^ n → SameAt n w a b (eqb (bit_and a w) (bit_and b w))
same_at n w a b small_a small_b = record { same = λ e j on. go e j on (dec_lt j n); differ = differ }
  where
    go : eqb (bit_and a w) (bit_and b w) ≡ true → (j : ℕ) → (j < n → has w j ≡ true) → Dec (j < n) → has a j ≡ has b j
    go e j on (yes h) =
        let both : bit_and a w ≡ bit_and b w = eqb-true (bit_and a w) (bit_and b w) e in
        sym (at_common w a j (on h)) ∙ ap (λ (x : ℕ). has x j) both ∙ at_common w b j (on h)
    go e j on (no h) = has_past n a j small_a (omega arith) ∙ sym (has_past n b j small_b (omega arith))

    differ : eqb (bit_and a w) (bit_and b w) ≡ false → a ≡ b → ⊥
    differ e same = eqb-false (bit_and a w) (bit_and b w) e (ap (λ (x : ℕ). bit_and x w) same)
