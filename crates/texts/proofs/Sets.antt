-- Sets as texts. A set of the code has one word, so that its lowest word is all of it.
use Prim.Native.Nat.{ℕ, ◌%◌, ◌^◌, ◌<◌}
use mathlib.Core.Path.{◌≡◌, refl, sym, ap}
use mathlib.Core.List.{List, [], ◌∷◌}
use native.Mathlib.Omega.{arith}
use lib.ListN.{length, get_or}
use Rattle.bits.specs.declared.Bits.{Bits}
use Rattle.bits.specs.Bits.{words, whole_in, whole}
use Rattle.bits.proofs.Whole.{Proper}
use Rattle.texts.specs.Digits.{SetIs, a_set, no_set}
use Rattle.std.specs.Prelude.{Option, Some, None}

one_word : (ws : List ℕ) → length ws ≡ words → get_or ws 0 0 < 2 ^ 64 → whole_in ws % 2 ^ 64 ≡ whole_in ws
unfolding whole_in
one_word [] long small = absurd (omega arith)
one_word (w ∷ []) long small = omega arith
one_word (w ∷ (v ∷ ws)) long small = absurd (omega arith)

pub low_is_whole : {b : Bits} → Proper b.words → whole b % 2 ^ 64 ≡ whole b
unfolding whole
low_is_whole {b} p = one_word b.words p.long (p.small 0)

-- what was read, by whether it is a set
pub was_set : {v : Option ℕ} {b : Bits} → SetIs v (Some b) → v ≡ Some (whole b)
was_set (a_set is) = ap Some (sym is)

pub was_no_set : {v : Option ℕ} → SetIs v None → v ≡ None
was_no_set no_set = refl
