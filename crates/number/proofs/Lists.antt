-- Laws of lists that the kit does not have.
use mathlib.Core.Path.{◌≡◌, ap, ◌∙◌}
use mathlib.Core.List.{List, [], ◌∷◌, ◌++◌}
use Prim.Native.Nat.{ℕ, suc, ◌+◌}
use native.Mathlib.Nat.{add-zero}
use native.Mathlib.Omega.{arith}
use lib.ListN.{length, set}
use lib.Seq.{sets}

-- stored one after the other
pub sets_append : (l : List ℕ) (n : ℕ) (u v : List ℕ) → sets l n (u ++ v) ≡ sets (sets l n u) (n + length u) v
sets_append l n [] v = rw (add-zero n)
sets_append l n (x ∷ u) v =
    let e : suc n + length u ≡ n + suc (length u) = omega arith in
    sets_append (set l n x) (suc n) u v ∙ ap (λ (k : ℕ). sets (sets (set l n x) (suc n) u) k v) e
