-- The laws of numerals, over the base.
use Prim.Native.Nat.{ℕ, zero, suc, ◌*◌, ◌-◌, ◌/◌, ◌%◌, ◌^◌, ◌≤◌, ◌<◌}
use mathlib.Core.Path.{◌≡◌, refl, sym, ap, ◌∙◌}
use mathlib.Core.Bool.{Bool, true, false}
use mathlib.Core.List.{List, [], ◌∷◌, ◌++◌, append_assoc, append-nil}
use native.Mathlib.Nat.{mod-eq_of_lt, pow-zero, pow-suc, one-mul, lt_trans, div-lt_iff_lt-mul, mul-le-mul_left}
use native.Mathlib.Omega.{arith}
use borrow.Author.Tests.{lt-ltb, le-ltb, ltb-true, ltb-false}
use lib.Dec.{ltb, lit<}
use lib.ListN.{length, take, drop, set, length-append, length-set, length-drop, drop_of_length-le}
use lib.Seq.{take_all, drop-cons, get_or-set_same, drop-set-lt}
use Rattle.io.specs.Digits.{hex_digit_ascii}
use Rattle.texts.specs.Written.{numeral_within, decimal, hex}

-- a number below the base is one digit
one_digit : (base more n : ℕ) → n < base → numeral_within more base n ≡ hex_digit_ascii n ∷ []
unfolding numeral_within
one_digit base zero n small = rw (mod-eq_of_lt small)
one_digit base (suc more) n small = rw (lt-ltb n base small)

-- the last digit of any other stands behind the rest
last_digit : (base more n : ℕ) → base ≤ n → numeral_within (suc more) base n ≡ numeral_within more base (n / base) ++ (hex_digit_ascii (n % base) ∷ [])
unfolding numeral_within
last_digit base more n large = rw (le-ltb n base large)

-- what is set at the front of a list's end
drop_set : (l : List ℕ) (i x : ℕ) → i < length l → drop i (set l i x) ≡ x ∷ drop (suc i) l
drop_set l i x h =
    rw (drop-cons (set l i x) i 0 (rw (length-set l i x) h), get_or-set_same l i x 0 h, drop-set-lt (suc i) l i x (omega arith))

-- a power of two that is more than one digit holds
two_places : (i n : ℕ) → 2 ≤ n → n < 2 ^ i → 2 ≤ i
two_places zero n some fits = absurd (omega arith)
two_places (suc zero) n some fits = absurd (omega arith)
two_places (suc (suc i)) n some fits = omega arith

-- What holds while digits are put before each other: those from i on, behind the numeral of what is left, are the number's.
pub record Spelled (base n : ℕ) (digits : List ℕ) (i rest : ℕ) : Type 0 where
  pub places : (1 ≤ i) × (i ≤ 64)
  pub long : length digits ≡ 64
  pub small : rest < 2 ^ i
  pub all : numeral_within 63 base n ≡ numeral_within (i - 1) base rest ++ drop i digits

module _ (base n : ℕ) (some : 2 ≤ base) where
  pub none_spelled : (digits : List ℕ) → length digits ≡ 64 → n < 2 ^ 64 → Spelled base n digits 64 n
  none_spelled digits long fits =
      record {
        places = (omega arith, omega arith);
        long = long;
        small = fits;
        all = rw (drop_of_length-le digits {i = 64} (omega arith)) (sym (append-nil _));
      }

  module _ {digits : List ℕ} {i rest : ℕ} (s : Spelled base n digits i rest) where
    pub more_places : base ≤ rest → 2 ≤ i
    more_places large = two_places i rest (omega arith) s.small

    -- the last digit of a number that is not below the base stands behind the others
    pub digit_spelled : base ≤ rest → Spelled base n (set digits (i - 1) (hex_digit_ascii (rest % base))) (i - 1) (rest / base)
    digit_spelled large =
        let two = more_places large in
        let next : i ≡ suc (i - 1) = omega arith in
        let under : rest < 2 ^ (i - 1) * 2 = rw pow-suc at (rw next at s.small) in
        let more : 2 ^ (i - 1) * 2 ≤ 2 ^ (i - 1) * base = mul-le-mul_left (2 ^ (i - 1)) some in
        record {
          places = (omega arith, omega arith);
          long = simp length-set s.long;
          small = (div-lt_iff_lt-mul {k = base} {x = rest} {y = 2 ^ (i - 1)} (omega arith)).1 (omega arith);
          all = s.all ∙ before_last (i - 1 - 1) (i - 1) i (omega arith) (omega arith) (omega (arith, s.long)) large;
        }
      where
        before_last : (k j i : ℕ) → j ≡ suc k → i ≡ suc j → j < length digits → base ≤ rest
            → numeral_within j base rest ++ drop i digits ≡ numeral_within k base (rest / base) ++ drop j (set digits j (hex_digit_ascii (rest % base)))
        before_last k j i is_j is_i within large =
            rw (drop_set digits j (hex_digit_ascii (rest % base)) within, is_i, is_j, last_digit base k rest large)
            (append_assoc (numeral_within k base (rest / base)) (hex_digit_ascii (rest % base) ∷ []) (drop (suc (suc k)) digits))

    pub last_spelled : rest < base → numeral_within 63 base n ≡ take (64 - (i - 1)) (drop (i - 1) (set digits (i - 1) (hex_digit_ascii rest)))
    last_spelled small =
        let next : suc (i - 1) ≡ i = omega (arith, s.places) in
        let whole = take_all (64 - (i - 1)) (drop (i - 1) (set digits (i - 1) (hex_digit_ascii rest))) (simp (length-drop, length-set) (omega (arith, s.long))) in
        s.all ∙ rw (whole, one_digit base (i - 1) rest small, drop_set digits (i - 1) (hex_digit_ascii rest) (omega (arith, s.places, s.long)), next)

module _ (base : ℕ) (some : 0 < base) where
  -- what is left of a number that has so many digits at most, without the last of them
  fewer : (k n : ℕ) → n < base ^ suc (suc k) → n / base < base ^ suc k
  fewer k n fits = (div-lt_iff_lt-mul {k = base} {x = n} {y = base ^ suc k} some).1 (rw pow-suc at fits)

  first_power : base ^ 1 ≡ base
  first_power = pow-suc base 0 ∙ ap (λ (k : ℕ). k * base) (pow-zero base) ∙ one-mul base

  -- more room for digits than a number has does not change it
  same_numeral : (k more n : ℕ) → k ≤ more → n < base ^ suc k → numeral_within more base n ≡ numeral_within k base n
  same_numeral zero more n room fits =
      let small : n < base = omega (arith, first_power) in
      one_digit base more n small ∙ sym (one_digit base zero n small)
  same_numeral (suc k) zero n room fits = absurd (omega arith)
  same_numeral (suc k) (suc more) n room fits = by_size (ltb n base) refl (same_numeral k more (n / base) (omega arith) (fewer k n fits))
    where
      by_size : (small : Bool) → ltb n base ≡ small → numeral_within more base (n / base) ≡ numeral_within k base (n / base)
          → numeral_within (suc more) base n ≡ numeral_within (suc k) base n
      by_size true is rest = one_digit base (suc more) n (ltb-true n base is) ∙ sym (one_digit base (suc k) n (ltb-true n base is))
      by_size false is rest = let large = ltb-false n base is in rw (last_digit base more n large, last_digit base k n large, rest)

-- a numeral has no more digits than there is room for
numeral_short : (base more n : ℕ) → length (numeral_within more base n) ≤ suc more
unfolding numeral_within
numeral_short base zero n = omega arith
numeral_short base (suc more) n = by_size (ltb n base) refl (numeral_short base more (n / base))
  where
    by_size : (small : Bool) → ltb n base ≡ small → length (numeral_within more base (n / base)) ≤ suc more
        → length (numeral_within (suc more) base n) ≤ suc (suc more)
    by_size true is rest = rw is (omega arith)
    by_size false is rest = rw (is, length-append (numeral_within more base (n / base)) (hex_digit_ascii (n % base) ∷ [])) (omega arith)

pub decimal_is : (n : ℕ) → n < 2 ^ 64 → numeral_within 63 10 n ≡ decimal n
unfolding decimal
decimal_is n fits = same_numeral 10 (omega arith) 19 63 n (omega arith) (lt_trans fits (lit< tt))

pub hex_is : (n : ℕ) → n < 2 ^ 64 → numeral_within 63 16 n ≡ hex n
unfolding hex
hex_is n fits = same_numeral 16 (omega arith) 15 63 n (omega arith) fits

pub decimal_short : (n : ℕ) → length (decimal n) ≤ 20
unfolding decimal
decimal_short n = numeral_short 10 19 n

pub hex_short : (n : ℕ) → length (hex n) ≤ 16
unfolding hex
hex_short n = numeral_short 16 15 n
