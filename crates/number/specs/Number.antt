-- "A number is one byte below 128, or two bytes: the first is 128 plus the low seven bits, the second (1 to 127) the high seven."
use Rattle.std.specs.Prelude.{ℕ, ◌+◌, ◌*◌, ◌/◌, ◌%◌, ◌<◌, List, [], ◌∷◌, Bool, true, false, ◌&&◌, Result, Ok, Err, length, get_or, ltb, leb, eqb}
use Rattle.std.proofs.lemmas.List.Edits.{sets}
use Rattle.number.specs.declared.Cursor.{Cursor}
use Rattle.number.specs.declared.Fault.{Fault}
use Rattle.number.specs.declared.Refusal.TheVariants.{Short, Number}
use Rattle.number.specs.Refusals.{fault}

-- a choice by a test; the branch that is not taken is not computed
unfoldable pub pick : {A : Type 0} → Bool → A → A → A
pick true a b = a
pick false a b = b

abbrev pub cursor : ℕ → Cursor
cursor at = record { at = at }

-- the number that begins at `at`: "SHORT: bytes end", "NUMBER: second byte 0 or over 127", both at the "offset of the number begun"
unfoldable pub number_at : List ℕ → ℕ → Result (ℕ × Cursor) Fault
unfolding pick
number_at s at =
    let low : ℕ = get_or s at 0 in
    let high : ℕ = get_or s (at + 1) 0 in
    pick (leb (length s) at) (Err (fault Short at))
    (pick (ltb low 128) (Ok (low, cursor (at + 1)))
    (pick (leb (length s) (at + 1)) (Err (fault Short at))
    (pick (eqb high 0) (Err (fault Number at))
    (pick (ltb 127 high) (Err (fault Number at)) (Ok (high * 128 + low % 128, cursor (at + 1 + 1)))))))

-- the bytes of the number v, which is below 16,384
unfoldable pub number_bytes : ℕ → List ℕ
unfolding pick
number_bytes v = pick (ltb v 128) (v ∷ []) ((v % 128 + 128) ∷ ((v / 128) ∷ []))

abbrev pub number_length : ℕ → ℕ
number_length v = length (number_bytes v)

-- v is a number of a sheet, and s has the room for its bytes at `at`
unfoldable pub has_room : List ℕ → ℕ → ℕ → Bool
has_room s at v = ltb v 16384 && leb (at + number_length v) (length s)

-- what is written: the bytes of v from `at` on, or nothing where there is no room; and the offset past them
unfoldable pub written : List ℕ → ℕ → ℕ → List ℕ
unfolding pick
written s at v = pick (has_room s at v) (sets s at (number_bytes v)) s

unfoldable pub written_end : List ℕ → ℕ → ℕ → ℕ
unfolding pick
written_end s at v = pick (has_room s at v) (at + number_length v) at

-- a list that a slice of bytes may hold
abbrev pub Bytes : List ℕ → Type 0
Bytes s = (k : ℕ) → get_or s k 0 < 256
