-- Digits as they are read: numbers in a base.
use Rattle.std.specs.Prelude.{ℕ, ◌+◌, ◌*◌, ◌-◌, min, ◌≡◌, cond, List, [], ◌∷◌, leb, ltb, length, Option, Some, None}
use Rattle.bits.specs.declared.Bits.{Bits}
use Rattle.bits.specs.Bits.{words, whole}

-- what a digit is worth, "of either case"; 16 for any other byte
unfoldable pub digit_of : ℕ → ℕ
digit_of b =
    cond (ltb b 48) 16 (cond (ltb b 58) (b - 48)
    (cond (ltb b 65) 16 (cond (ltb b 71) (b - 55)
    (cond (ltb b 97) 16 (cond (ltb b 103) (b - 87) 16)))))

-- a digit more, or the largest word
unfoldable pub with_digit : ℕ → ℕ → ℕ → ℕ
with_digit base v d = min (v * base + d) 18446744073709551615

-- v with the digits of a text behind it, leading zeros read
unfoldable pub value_from : ℕ → ℕ → List ℕ → Option ℕ
value_from base v [] = Some v
value_from base v (b ∷ bs) = cond (ltb (digit_of b) base) (value_from base (with_digit base v (digit_of b)) bs) None

-- one digit up to so many: "an event line 1 to 16", "and neither has anything else"
unfoldable pub value_of : ℕ → ℕ → List ℕ → Option ℕ
value_of base most text = cond (ltb 0 (length text)) (cond (leb (length text) most) (value_from base 0 text) None) None

-- the digits of a set: 16 a word
abbrev pub set_digits : ℕ
set_digits = 16 * words

-- a set in hex: k is in it where bit k of the number is 1
pub data SetIs : Option ℕ → Option Bits → Type 0 where
  a_set : {n : ℕ} {b : Bits} → whole b ≡ n → SetIs (Some n) (Some b)
  no_set : SetIs None None
