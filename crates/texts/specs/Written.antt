-- Numbers and bytes as they are written.
use Rattle.std.specs.Prelude.{ℕ, zero, suc, ◌/◌, ◌%◌, cond, List, [], ◌∷◌, ◌++◌, ltb}
use Rattle.io.specs.Digits.{hex_digit_ascii}

-- n in a base, with at most so many digits before the last: "small letters printed, no leading zeros", and 0 is `0`
unfoldable pub numeral_within : ℕ → ℕ → ℕ → List ℕ
numeral_within zero base n = hex_digit_ascii (n % base) ∷ []
numeral_within (suc more) base n = cond (ltb n base) (hex_digit_ascii n ∷ []) (numeral_within more base (n / base) ++ (hex_digit_ascii (n % base) ∷ []))

-- a word has at most 20 decimal digits, and 16 in hex
unfoldable pub decimal : ℕ → List ℕ
decimal n = numeral_within 19 10 n

unfoldable pub hex : ℕ → List ℕ
hex n = numeral_within 15 16 n

-- bytes in hex: two digits each
unfoldable pub in_hex : List ℕ → List ℕ
in_hex [] = []
in_hex (b ∷ bs) = hex_digit_ascii (b / 16) ∷ (hex_digit_ascii (b % 16) ∷ in_hex bs)

abbrev pub blank : ℕ
blank = 32

abbrev pub newline : ℕ
newline = 10

-- numbers in decimal, each behind a blank
unfoldable pub behind_blanks : List ℕ → List ℕ
behind_blanks [] = []
behind_blanks (n ∷ ns) = blank ∷ (decimal n ++ behind_blanks ns)

-- numbers in decimal, one blank between two
unfoldable pub row : List ℕ → List ℕ
row [] = []
row (n ∷ ns) = decimal n ++ behind_blanks ns

-- what both programs print for a line that they cannot read
abbrev pub bad_text : List ℕ
bad_text = 98 ∷ (97 ∷ (100 ∷ (blank ∷ (108 ∷ (105 ∷ (110 ∷ (101 ∷ (newline ∷ []))))))))
