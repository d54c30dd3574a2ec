-- The test whether two texts are the same.
use Prim.Native.Nat.{ℕ, ◌<◌}
use mathlib.Core.Path.{◌≡◌, refl, ap}
use mathlib.Core.Bool.{Bool, true, false}
use mathlib.Core.List.{List}
use native.Mathlib.Omega.{arith}
use lib.ListN.{length}
use Rattle.std.proofs.lemmas.Slice.Eq.{bytes_eq-Decides}
use Rattle.texts.specs.Words.{same}

pub same_itself : (a : List ℕ) → same a a ≡ true
same_itself a = (bytes_eq-Decides a a).1 refl

pub same_is : (a b : List ℕ) → same a b ≡ true → a ≡ b
same_is a b = (bytes_eq-Decides a b).0

pub longer_other : (a b : List ℕ) → length b < length a → same a b ≡ false
longer_other a b h = go (same a b) refl
  where
    go : (t : Bool) → same a b ≡ t → same a b ≡ false
    go true is = absurd (omega (arith, ap length (same_is a b is)))
    go false is = is
