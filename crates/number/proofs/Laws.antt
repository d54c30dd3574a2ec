-- The laws of a number's bytes: how many they are, that they read as the number, that no others do, and that writing lays them down.
use Prim.Native.Nat.{ℕ, suc, zero, ◌+◌, ◌*◌, ◌/◌, ◌%◌, ◌<◌, ◌≤◌}
use mathlib.Core.Path.{◌≡◌, refl, ap, ◌∙◌}
use mathlib.Core.Bool.{Bool, true, false, ◌&&◌}
use mathlib.Core.Logic.{◌⊎◌, inl, inr, ⊎_elim}
use mathlib.Core.List.{List, [], ◌∷◌, ◌++◌, append_assoc}
use native.Mathlib.Omega.{arith}
use native.Mathlib.Numerals.{add-one}
use native.Mathlib.Nat.{add_assoc}
use lib.Dec.{ltb, leb, eqb}
use lib.ListN.{length, get_or, take, drop, length-append}
use lib.Seq.{sets, sets-eq, length-sets, length-take-le, drop-cons, get_or-append_seam, get_or-append-add}
use borrow.Author.Tests.{ltb-true, ltb-false, leb-true, leb-false, eqb-false, lt-ltb, le-ltb, le-leb, lt-leb, ne_eqb}
use Rattle.number.specs.declared.Cursor.{Cursor}
use Rattle.number.specs.declared.Fault.{Fault}
use Rattle.std.specs.Prelude.{Result, Ok, Err}
use Rattle.number.specs.declared.Refusal.TheVariants.{Short, Number}
use Rattle.number.specs.Refusals.{fault}
use Rattle.number.specs.Number.{pick, cursor, number_at, number_bytes, number_length, has_room, written, written_end, Bytes}

-- A number's bytes.

-- a number below 128 is one byte
pub one_byte : (v : ℕ) → v < 128 → number_bytes v ≡ v ∷ []
unfolding number_bytes pick
one_byte v h = simp (lt-ltb v 128 h)

-- any other is two
pub two_bytes : (v : ℕ) → 128 ≤ v → number_bytes v ≡ (v % 128 + 128) ∷ ((v / 128) ∷ [])
unfolding number_bytes pick
two_bytes v h = simp (le-ltb v 128 h)

-- what holds of numbers of one byte and of two holds of every number
by_size : (P : ℕ → Type 0) (v : ℕ) → (v < 128 → P v) → (128 ≤ v → P v) → P v
by_size P v small large = go (ltb v 128) refl
  where
    go : (b : Bool) → ltb v 128 ≡ b → P v
    go true e = small (ltb-true v 128 e)
    go false e = large (ltb-false v 128 e)

-- a number has a byte at least
pub length_at_least : (v : ℕ) → 1 ≤ number_length v
length_at_least v =
    by_size (λ n. 1 ≤ number_length n) v (λ h. simp (one_byte v h) (omega arith)) (λ h. simp (two_bytes v h) (omega arith))

-- and two at most
pub length_at_most : (v : ℕ) → number_length v ≤ 2
length_at_most v =
    by_size (λ n. number_length n ≤ 2) v (λ h. simp (one_byte v h) (omega arith)) (λ h. simp (two_bytes v h) (omega arith))

-- the bytes of a number are below 256
pub bytes_of_number : (v : ℕ) → v < 16384 → Bytes (number_bytes v)
bytes_of_number v small k =
    by_size (λ n. get_or (number_bytes n) k 0 < 256) v
    (λ h. simp (one_byte v h) (one v (omega arith) k))
    (λ h. simp (two_bytes v h) (two (v % 128 + 128) (v / 128) (omega arith) (omega arith) k))
  where
    one : (a : ℕ) → a < 256 → Bytes (a ∷ [])
    one a h zero = h
    one a h (suc k) = omega arith

    two : (a b : ℕ) → a < 256 → b < 256 → Bytes (a ∷ (b ∷ []))
    two a b h h' zero = h
    two a b h h' (suc k) = one b h' k

-- Reading.

-- a byte below 128 is read by itself
read_one : (s : List ℕ) (at : ℕ) → at < length s → get_or s at 0 < 128 → number_at s at ≡ Ok ((get_or s at 0), (cursor (at + 1)))
unfolding number_at pick
read_one s at inside small = simp (lt-leb (length s) at inside, lt-ltb (get_or s at 0) 128 small)

-- any other with the byte behind it, which is 1 to 127
read_two : (s : List ℕ) (at : ℕ) → at + 1 < length s → 128 ≤ get_or s at 0 → 1 ≤ get_or s (at + 1) 0 → get_or s (at + 1) 0 ≤ 127
    → number_at s at ≡ Ok ((get_or s (at + 1) 0 * 128 + get_or s at 0 % 128), (cursor (at + 2)))
unfolding number_at pick
read_two s at inside large some few =
    simp (
      lt-leb (length s) at (omega arith),
      le-ltb (get_or s at 0) 128 large,
      lt-leb (length s) (at + 1) inside,
      ne_eqb (get_or s (at + 1) 0) 0 (λ z. omega arith),
      le-ltb 127 (get_or s (at + 1) 0) few,
      add_assoc,
    )

-- the bytes of v read as v, wherever they stand
pub read_bytes : (before after : List ℕ) (v : ℕ) → v < 16384
    → number_at (before ++ (number_bytes v ++ after)) (length before) ≡ Ok (v, (cursor (length before + number_length v)))
read_bytes before after v small =
    by_size (λ n. number_at (before ++ (number_bytes n ++ after)) (length before) ≡ Ok (n, (cursor (length before + number_length n)))) v
    (λ h. rw (one_byte v h) (one h))
    (λ h. rw (two_bytes v h) (two h))
  where
    at : ℕ
    at = length before

    one : v < 128 → number_at (before ++ v ∷ after) at ≡ Ok (v, (cursor (at + 1)))
    one h =
        let s : List ℕ = before ++ v ∷ after in
        let byte : get_or s at 0 ≡ v = get_or-append_seam before v after 0 in
        let inside : at < length s = simp length-append (omega arith) in
        read_one s at inside (rw byte h) ∙ ap (λ x. Ok (x, (cursor (at + 1)))) byte

    two : 128 ≤ v → number_at (before ++ (v % 128 + 128) ∷ (v / 128 ∷ after)) at ≡ Ok (v, (cursor (at + 2)))
    two h =
        let s : List ℕ = before ++ (v % 128 + 128) ∷ (v / 128 ∷ after) in
        let low : get_or s at 0 ≡ v % 128 + 128 = get_or-append_seam before (v % 128 + 128) (v / 128 ∷ after) 0 in
        let high : get_or s (at + 1) 0 ≡ v / 128 = get_or-append-add before ((v % 128 + 128) ∷ (v / 128 ∷ after)) 1 0 in
        let inside : at + 1 < length s = simp length-append (omega arith) in
        let whole : get_or s (at + 1) 0 * 128 + get_or s at 0 % 128 ≡ v = omega arith in
        read_two s at inside (omega arith) (omega arith) (omega arith) ∙ ap (λ x. Ok (x, (cursor (at + 2)))) whole

-- what a reading answers, with the bytes that it answers so for
data Found (s : List ℕ) (at : ℕ) : Result (ℕ × Cursor) Fault → Type 0 where
  one : at < length s → get_or s at 0 < 128 → Found s at (Ok ((get_or s at 0), (cursor (at + 1))))
  two : at + 1 < length s → 128 ≤ get_or s at 0 → 1 ≤ get_or s (at + 1) 0 → get_or s (at + 1) 0 ≤ 127
      → Found s at (Ok ((get_or s (at + 1) 0 * 128 + get_or s at 0 % 128), (cursor (at + 1 + 1))))
  short : Found s at (Err (fault Short at))
  wrong : Found s at (Err (fault Number at))

-- what holds of both branches holds of the one picked
by_test : (P : Result (ℕ × Cursor) Fault → Type 0) (b : Bool) (x y : Result (ℕ × Cursor) Fault) → (b ≡ true → P x) → (b ≡ false → P y) → P (pick b x y)
unfolding pick
by_test P true x y f g = f refl
by_test P false x y f g = g refl

found : (s : List ℕ) (at : ℕ) → Found s at (number_at s at)
unfolding number_at
found s at =
    let low : ℕ = get_or s at 0 in
    let high : ℕ = get_or s (at + 1) 0 in
    by_test (Found s at) (leb (length s) at) _ _ (λ e. short) (λ first.
    by_test (Found s at) (ltb low 128) _ _ (λ small. one (leb-false (length s) at first) (ltb-true low 128 small)) (λ large.
    by_test (Found s at) (leb (length s) (at + 1)) _ _ (λ e. short) (λ second.
    by_test (Found s at) (eqb high 0) _ _ (λ e. wrong) (λ some.
    by_test (Found s at) (ltb 127 high) _ _ (λ e. wrong) (λ few.
    let not_zero : high ≡ 0 → ⊥ = eqb-false high 0 some in
    two (leb-false (length s) (at + 1) second) (ltb-false low 128 large) (omega arith) (ltb-false 127 high few))))))

-- a number that was read is below 16,384
pub value_small : (s : List ℕ) (at : ℕ) {v : ℕ} {c : Cursor} → number_at s at ≡ Ok (v, c) → v < 16384
value_small s at e = go (rw e at (found s at))
  where
    go : {v : ℕ} {c : Cursor} → Found s at (Ok (v, c)) → v < 16384
    go (one inside small) = omega arith
    go (two inside large some few) = omega arith

-- v stands in s at `at`, and c is past it
pub record Spelled (s : List ℕ) (at v : ℕ) (c : Cursor) : Type 0 where
  pub past : c ≡ cursor (at + number_length v)
  pub inside : at + number_length v ≤ length s
  pub bytes : drop at s ≡ number_bytes v ++ drop (at + number_length v) s

-- the bytes of v are the only ones that read as v
pub only_spelling : (s : List ℕ) (at : ℕ) {v : ℕ} {c : Cursor} → Bytes s → number_at s at ≡ Ok (v, c) → Spelled s at v c
only_spelling s at are e = go (rw e at (found s at))
  where
    spelled : {v : ℕ} {c : Cursor} (bs : List ℕ) → number_bytes v ≡ bs → c ≡ cursor (at + length bs) → at + length bs ≤ length s
        → drop at s ≡ bs ++ drop (at + length bs) s → Spelled s at v c
    spelled bs q past inside bytes = record { past = rw q past; inside = rw q inside; bytes = rw q bytes }

    step : (k : ℕ) → k < length s → drop k s ≡ get_or s k 0 ∷ drop (k + 1) s
    step k h = rw (add-one, drop-cons s k 0)

    go : {v : ℕ} {c : Cursor} → Found s at (Ok (v, c)) → Spelled s at v c
    go (one inside small) = spelled (get_or s at 0 ∷ []) (one_byte (get_or s at 0) small) refl (omega arith) (step at inside)
    go (two inside large some few) =
        let v : ℕ = get_or s (at + 1) 0 * 128 + get_or s at 0 % 128 in
        let low : v % 128 + 128 ≡ get_or s at 0 = omega (arith, are at) in
        let high : v / 128 ≡ get_or s (at + 1) 0 = omega arith in
        let bytes : number_bytes v ≡ get_or s at 0 ∷ (get_or s (at + 1) 0 ∷ []) = two_bytes v (omega arith) ∙ rw (low, high) in
        let next : at + 1 + 1 ≡ at + 2 = omega arith in
        let rest : drop at s ≡ get_or s at 0 ∷ (get_or s (at + 1) 0 ∷ drop (at + 1 + 1) s) = rw (step at (omega arith), step (at + 1) inside) in
        spelled (get_or s at 0 ∷ (get_or s (at + 1) 0 ∷ [])) bytes (ap cursor next) (omega arith) (rw next at rest)

-- a number that is refused is SHORT or NUMBER where it begins
pub refused : (s : List ℕ) (at : ℕ) {f : Fault} → number_at s at ≡ Err f → (f ≡ fault Short at) ⊎ (f ≡ fault Number at)
refused s at e = go (rw e at (found s at))
  where
    go : {f : Fault} → Found s at (Err f) → (f ≡ fault Short at) ⊎ (f ≡ fault Number at)
    go short = inl refl
    go wrong = inr refl

-- so its place is where it begins
pub refused_place : (s : List ℕ) (at : ℕ) {f : Fault} → number_at s at ≡ Err f → f.place ≡ at
refused_place s at e = ⊎_elim (ap (λ (f : Fault). f.place)) (ap (λ (f : Fault). f.place)) (refused s at e)

-- Writing.

-- a number of a sheet whose bytes end within s has room
pub room : (s : List ℕ) (at v : ℕ) → v < 16384 → at + number_length v ≤ length s → has_room s at v ≡ true
unfolding has_room
room s at v small fits = simp (lt-ltb v 16384 small, le-leb (at + number_length v) (length s) fits)

-- and what has room is one
pub room_fits : (s : List ℕ) (at v : ℕ) → has_room s at v ≡ true → (v < 16384) × (at + number_length v ≤ length s)
unfolding has_room
room_fits s at v h = (ltb-true v 16384 (left small fits h), leb-true (at + number_length v) (length s) (right small fits h))
  where
    small : Bool
    small = ltb v 16384

    fits : Bool
    fits = leb (at + number_length v) (length s)

    left : (a b : Bool) → (a && b) ≡ true → a ≡ true
    left true b e = refl
    left false b e = e

    right : (a b : Bool) → (a && b) ≡ true → b ≡ true
    right true b e = e
    right false true e = refl
    right false false e = e

-- writing v replaces as many bytes as v has, and no others
pub written_bytes : (s : List ℕ) (at v : ℕ) → has_room s at v ≡ true
    → written s at v ≡ take at s ++ (number_bytes v ++ drop (at + number_length v) s)
unfolding written pick
written_bytes s at v h =
    let fits : at + number_length v ≤ length s = (room_fits s at v h).1 in
    rw h (sets-eq (number_bytes v) s at fits ∙ append_assoc (take at s) (number_bytes v) (drop (at + number_length v) s))

-- and keeps the length
pub length_written : (s : List ℕ) (at v : ℕ) → length (written s at v) ≡ length s
unfolding written pick
length_written s at v = go (has_room s at v)
  where
    go : (b : Bool) → length (pick b (sets s at (number_bytes v)) s) ≡ length s
    go true = length-sets s at (number_bytes v)
    go false = refl

-- reading what was written gives the number, and the offset past it
pub read_written : (s : List ℕ) (at v : ℕ) → has_room s at v ≡ true → number_at (written s at v) at ≡ Ok (v, (cursor (written_end s at v)))
unfolding written_end pick
read_written s at v h =
    let small : v < 16384 = (room_fits s at v h).0 in
    let fits : at + number_length v ≤ length s = (room_fits s at v h).1 in
    let before : length (take at s) ≡ at = length-take-le at s (omega arith) in
    rw (written_bytes s at v h, h) (rw before at (read_bytes (take at s) (drop (at + number_length v) s) v small))
