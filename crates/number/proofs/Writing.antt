-- What `write_number` leaves and answers at each of its returns is what `written` and `written_end` say.
use Prim.Native.Nat.{ℕ, ◌+◌, ◌/◌, ◌%◌, ◌<◌, ◌≤◌}
use mathlib.Core.Path.{◌≡◌, refl}
use mathlib.Core.Bool.{Bool, true, false, ◌&&◌}
use mathlib.Core.List.{List, [], ◌∷◌}
use native.Mathlib.Omega.{arith}
use native.Mathlib.Numerals.{add-one}
use lib.Dec.{ltb}
use lib.ListN.{length, set}
use lib.Seq.{sets}
use borrow.Author.Tests.{le-ltb, lt-leb}
use Rattle.number.specs.Number.{pick, number_bytes, number_length, has_room, written, written_end}
use Rattle.number.proofs.Laws.{one_byte, two_bytes, room}

-- the answer `end`, with s' left of s, is right
abbrev pub Right : List ℕ → ℕ → ℕ → ℕ → List ℕ → Type 0
Right s at v end s' = (end ≡ written_end s at v) × (s' ≡ written s at v)

-- all of v's bytes are stored where there is room
all : (s : List ℕ) (at v : ℕ) → has_room s at v ≡ true → Right s at v (at + number_length v) (sets s at (number_bytes v))
unfolding written written_end pick
all s at v h = rw h (refl, refl)

-- and nothing where there is none
nothing : (s : List ℕ) (at v : ℕ) → has_room s at v ≡ false → Right s at v at s
unfolding written written_end pick
nothing s at v h = rw h (refl, refl)

-- v is no number of a sheet
pub too_large : (s : List ℕ) (at v : ℕ) → 16384 ≤ v → Right s at v at s
unfolding has_room
too_large s at v large = nothing s at v (simp (le-ltb v 16384 large))

-- its bytes would end past s
pub too_short : (s : List ℕ) (at v : ℕ) → length s < at + number_length v → Right s at v at s
unfolding has_room
too_short s at v short = nothing s at v (simp (lt-leb (at + number_length v) (length s) short) (and_false (ltb v 16384)))
  where
    and_false : (b : Bool) → (b && false) ≡ false
    and_false true = refl
    and_false false = refl

-- one byte is stored
pub one_stored : (s : List ℕ) (at v : ℕ) → at < length s → v < 128 → Right s at v (at + 1) (set s at v)
one_stored s at v inside small =
    let bytes : number_bytes v ≡ v ∷ [] = one_byte v small in
    rw bytes at (all s at v (room s at v (omega arith) (rw bytes (omega arith))))

-- two bytes are stored
pub two_stored : (s : List ℕ) (at v : ℕ) → at + 1 < length s → 128 ≤ v → v < 16384
    → Right s at v (at + 1 + 1) (set (set s at (v % 128 + 128)) (at + 1) (v / 128))
two_stored s at v inside large small =
    let bytes : number_bytes v ≡ (v % 128 + 128) ∷ ((v / 128) ∷ []) = two_bytes v large in
    let both = rw bytes at (all s at v (room s at v small (rw bytes (omega arith)))) in
    (omega (arith, both.0), rw add-one both.1)
