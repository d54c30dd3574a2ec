-- Laws of numbers as they are read.
use Prim.Native.Nat.{ℕ, ◌+◌, ◌*◌, ◌≤◌, ◌<◌, min}
use mathlib.Core.Path.{◌≡◌}
use mathlib.Core.List.{List}
use native.Mathlib.Numerals.{add-one}
use native.Mathlib.Omega.{arith}
use borrow.Author.Tests.{lt-ltb, le-ltb, le-leb, lt-leb}
use lib.ListN.{length, drop, get_or, drop_of_length-le}
use lib.Seq.{drop-cons}
use Rattle.texts.specs.Digits.{digit_of, with_digit, value_from, value_of}
use Rattle.std.specs.Prelude.{Some, None}

-- at the end it is all there
pub value_end : (base v : ℕ) (s : List ℕ) (i : ℕ) → length s ≤ i → Some v ≡ value_from base v (drop i s)
unfolding value_from
value_end base v s i h = rw (drop_of_length-le s h)

-- a text of no digit, of too many, and of a number that may do
module _ (base most : ℕ) (s : List ℕ) where
  pub none_bad : length s ≡ 0 → None ≡ value_of base most s
  unfolding value_of
  none_bad h = rw (le-ltb 0 (length s) (omega arith))

  pub many_bad : most < length s → None ≡ value_of base most s
  unfolding value_of
  many_bad h = rw (lt-ltb 0 (length s) (omega arith), lt-leb (length s) most h)

  pub some_value : 0 < length s → length s ≤ most → value_from base 0 s ≡ value_of base most s
  unfolding value_of
  some_value l h = rw (lt-ltb 0 (length s) l, le-leb (length s) most h)

module _ (base v : ℕ) (s : List ℕ) (i : ℕ) (h : i < length s) (d : ℕ) (e : d ≡ digit_of (get_or s i 0)) where
  -- a digit is joined to what is there
  pub value_step : d < base → value_from base v (drop i s) ≡ value_from base (with_digit base v d) (drop (i + 1) s)
  unfolding value_from
  value_step l = rw (drop-cons s i 0 h, add-one, ← e, lt-ltb d base l)

  -- another byte spoils it
  pub value_bad : base ≤ d → value_from base v (drop i s) ≡ None
  unfolding value_from
  value_bad l = rw (drop-cons s i 0 h, ← e, le-ltb d base l)

-- a digit is joined by the library's sum and product, which stop at the largest word
pub joined : (base v d : ℕ) → min (min (v * base) 18446744073709551615 + d) 18446744073709551615 ≡ with_digit base v d
unfolding with_digit
joined base v d = omega arith
