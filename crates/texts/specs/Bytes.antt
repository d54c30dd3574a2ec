-- Bytes as they are read: two hex digits each.
use Rattle.std.specs.Prelude.{ℕ, ◌+◌, ◌*◌, ◌/◌, ◌≡◌, cond, List, [], ◌∷◌, eqb, leb, ltb, length, Option, Some, None}
use Rattle.std.proofs.lemmas.List.Edits.{sets}
use Rattle.texts.specs.Digits.{digit_of}

-- the byte of two digits; none where one of them is no digit
unfoldable pub byte_of : ℕ → ℕ → Option ℕ
byte_of high low = cond (ltb (digit_of high) 16) (cond (ltb (digit_of low) 16) (Some (16 * digit_of high + digit_of low)) None) None

-- a byte before others, or nothing
abbrev pub before : Option ℕ → List ℕ → List ℕ
before (Some b) bs = b ∷ bs
before None bs = []

-- the bytes of a text, two digits each, up to the first two that are none
unfoldable pub pairs_of : List ℕ → List ℕ
pairs_of [] = []
pairs_of (digit ∷ []) = []
pairs_of (high ∷ (low ∷ ds)) = before (byte_of high low) (pairs_of ds)

-- they were read into a buffer
pub record Paired (text : List ℕ) (n : ℕ) (out out' : List ℕ) : Type 0 where
  pub number : n ≡ length (pairs_of text)
  pub laid : out' ≡ sets out 0 (pairs_of text)

-- what a text is: bytes, or none
pub data Decoded : Type 0 where
  bytes : List ℕ → Decoded
  malformed : Decoded

-- "an even count of digits", two to a byte, and nothing else
unfoldable pub bytes_of : List ℕ → Decoded
bytes_of text = cond (eqb (2 * length (pairs_of text)) (length text)) (bytes (pairs_of text)) malformed

-- the same where there is room for so many bytes
unfoldable pub bytes_within : ℕ → List ℕ → Decoded
bytes_within room text = cond (leb (length text / 2) room) (bytes_of text) malformed

-- what is put into a buffer with so much room, also where the text is no bytes in the end
unfoldable pub pairs_within : ℕ → List ℕ → List ℕ
pairs_within room text = cond (leb (length text / 2) room) (pairs_of text) []

-- how many bytes
abbrev pub hex_of : Decoded → Option ℕ
hex_of malformed = None
hex_of (bytes bs) = Some (length bs)

-- a text was read into a buffer
pub record Unhexed (text : List ℕ) (r : Option ℕ) (out out' : List ℕ) : Type 0 where
  pub answer : r ≡ hex_of (bytes_within (length out) text)
  pub laid : out' ≡ sets out 0 (pairs_within (length out) text)
