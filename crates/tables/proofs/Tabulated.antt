-- What antt computes over a whole list holds at each of its places.
use mathlib.Core.Path.{◌≡◌, refl, sym, ap, ◌∙◌}
use mathlib.Core.List.{List, [], ◌∷◌, map}
use Prim.Native.Nat.{ℕ, zero, suc, ◌+◌, ◌<◌}
use native.Mathlib.Nat.{le_of_suc-le-suc, not-suc-le-zero, zero-add}
use native.Mathlib.Omega.{arith}
use lib.ListN.{length, get_or}
use Rattle.tables.specs.Orders.{from}

-- a mapped list at a place
pub mapped : {A B : Type 0} (f : A → B) (l : List A) (k : ℕ) (d : A) (e : B) → k < length l → get_or (map f l) k e ≡ f (get_or l k d)
mapped f [] k d e h = absurd (not-suc-le-zero h)
mapped f (x ∷ l) zero d e h = refl
mapped f (x ∷ l) (suc k) d e h = mapped f l k d e (le_of_suc-le-suc h)

pub length_from : (i n : ℕ) → length (from i n) ≡ n
length_from i zero = refl
length_from i (suc n) = ap suc (length_from (suc i) n)

from_at : (i n k : ℕ) → k < n → get_or (from i n) k 0 ≡ i + k
from_at i zero k h = absurd (not-suc-le-zero h)
from_at i (suc n) zero h = omega arith
from_at i (suc n) (suc k) h = omega (arith, from_at (suc i) n k (le_of_suc-le-suc h))

-- a function at the numbers below n, at one of them
pub tabulated : {A : Type 0} (f : ℕ → A) (n k : ℕ) (e : A) → k < n → get_or (map f (from 0 n)) k e ≡ f k
tabulated f n k e h =
    mapped f (from 0 n) k 0 e (rw (length_from 0 n) h) ∙ ap f (from_at 0 n k h ∙ zero-add k)

-- two functions that antt computes to be alike at all numbers below n are alike at each
pub alike : {A : Type 0} (f g : ℕ → A) (n k : ℕ) → map f (from 0 n) ≡ map g (from 0 n) → k < n → f k ≡ g k
alike f g n k e h = sym (tabulated f n k (f 0) h) ∙ ap (λ l. get_or l k (f 0)) e ∙ tabulated g n k (f 0) h

-- a table by its rule: a row of n entries for each x of a list
abbrev pub laid : {A : Type 0} → (A → ℕ → ℕ) → List A → ℕ → List (List ℕ)
laid rule xs n = map (λ x. map (rule x) (from 0 n)) xs

-- The one law that carries the rule to an entry: entry b of row o.
pub entry : {A : Type 0} (rule : A → ℕ → ℕ) (xs : List A) (n o b : ℕ) (d : A) (e : List ℕ) → o < length xs → b < n
    → get_or (get_or (laid rule xs n) o e) b 0 ≡ rule (get_or xs o d) b
entry rule xs n o b d e ho hb =
    ap (λ r. get_or r b 0) (mapped (λ x. map (rule x) (from 0 n)) xs o d e ho) ∙ tabulated (rule (get_or xs o d)) n b 0 hb
