-- The bits of words that have one for each setting.
use Prim.Native.Nat.{ℕ, zero, suc, ◌-◌, ◌*◌, ◌/◌, ◌%◌, ◌^◌, ◌<◌}
use mathlib.Core.Path.{◌≡◌, refl, sym, ap, ◌∙◌}
use mathlib.Core.Bool.{Bool, true, not, ◌&&◌, ◌||◌}
use mathlib.Core.List.{List, [], ◌∷◌, map}
use native.Mathlib.Nat.{not-suc-le-zero, pow-succ'}
use native.Mathlib.Omega.{arith}
use lib.Dec.{eqb}
use lib.Bits.{bit_and, bit_or, or_lt}
use lib.ListN.{get_or}
use Rattle.number.proofs.Bools.{taut}
use Rattle.bits.specs.Bits.{has}
use Rattle.bits.proofs.Laws.{has_join}
use Rattle.bits.proofs.None.{has_meet}
use Rattle.tables.specs.Answering.{pins, settings, bit}
use Rattle.tables.specs.Orders.{from}
use Rattle.tables.proofs.Bits.{bit_zero, bit_suc}
use Rattle.tables.proofs.Tabulated as Tabulated
use Rattle.cuts.specs.Cutting.{PinWord, AlikeIn}

pub bit_or_lem : (a b k : ℕ) → bit (bit_or a b) k ≡ (bit a k || bit b k)
unfolding bit has
bit_or_lem a b k = has_join a b k

pub bit_and_lem : (a b k : ℕ) → bit (bit_and a b) k ≡ (bit a k && bit b k)
unfolding bit has
bit_and_lem a b k = has_meet a b k

odd_not : (x : ℕ) → x < 2 → eqb (1 - x) 1 ≡ not (eqb x 1)
odd_not zero h = refl
odd_not (suc zero) h = refl
odd_not (suc (suc x)) h = absurd (omega arith)

-- of a word of n bits
pub bit_not : (n a k : ℕ) → a < 2 ^ n → k < n → bit (2 ^ n - 1 - a) k ≡ not (bit a k)
bit_not zero a k small h = absurd (not-suc-le-zero h)
bit_not (suc n) a zero small h =
    let p : 2 ^ suc n ≡ 2 * 2 ^ n = pow-succ' 2 n in
    let low : (2 ^ suc n - 1 - a) % 2 ≡ 1 - a % 2 = omega arith in
    bit_zero (2 ^ suc n - 1 - a) ∙ ap (λ (m : ℕ). eqb m 1) low ∙ odd_not (a % 2) (omega arith) ∙ ap not (sym (bit_zero a))
bit_not (suc n) a (suc k) small h =
    let p : 2 ^ suc n ≡ 2 * 2 ^ n = pow-succ' 2 n in
    let half : (2 ^ suc n - 1 - a) / 2 ≡ 2 ^ n - 1 - a / 2 = omega arith in
    bit_suc (2 ^ suc n - 1 - a) k
    ∙ ap (λ (m : ℕ). bit m k) half
    ∙ bit_not n (a / 2) k (omega arith) (omega arith)
    ∙ ap not (sym (bit_suc a k))

-- all settings
pub ones : (k : ℕ) → k < settings → bit 65535 k ≡ true
unfolding bit
ones k h = Tabulated.alike (bit 65535) (λ k. true) settings k refl h

-- the words of the pins, all of their bits computed at once
pub pin_words : (p : ℕ) → p < pins → PinWord p (get_or (43690 ∷ 52428 ∷ 61680 ∷ 65280 ∷ []) p 0)
unfolding bit
pin_words p h =
    let words : List ℕ = 43690 ∷ 52428 ∷ 61680 ∷ 65280 ∷ [] in
    let rows =
    Tabulated.alike (λ p. map (λ b. bit (get_or words p 0) b) (from 0 settings)) (λ p. map (λ b. bit b p) (from 0 settings)) pins p refl h in
    record { bits = λ b hb. Tabulated.alike (λ b. bit (get_or words p 0) b) (λ b. bit b p) settings b rows hb }

-- the settings at which two words are alike
same_on : (x y : Bool) → ((x && y) || not (x || y)) ≡ true → x ≡ y
same_on = taut 2 1 _ _ _ tt

same_all : (x y : Bool) → x ≡ y → ((x && y) || not (x || y)) ≡ true
same_all = taut 2 1 _ _ _ tt

pub alike_in : (a b : ℕ) → a < 2 ^ settings → b < 2 ^ settings → AlikeIn a b (bit_or (bit_and a b) (2 ^ settings - 1 - bit_or a b))
alike_in a b ha hb =
    record {
      on = λ k h e. same_on (bit a k) (bit b k) (sym (at k h) ∙ e);
      all = λ k h e. at k h ∙ same_all (bit a k) (bit b k) e;
    }
  where
    at : (k : ℕ) → k < settings
        → bit (bit_or (bit_and a b) (2 ^ settings - 1 - bit_or a b)) k ≡ ((bit a k && bit b k) || not (bit a k || bit b k))
    at k h =
        bit_or_lem (bit_and a b) (2 ^ settings - 1 - bit_or a b) k
        ∙ ap (λ (x : Bool). x || bit (2 ^ settings - 1 - bit_or a b) k) (bit_and_lem a b k)
        ∙ ap (λ (x : Bool). (bit a k && bit b k) || x) (bit_not settings (bit_or a b) k (or_lt settings a b ha hb) h ∙ ap not (bit_or_lem a b k))
