-- What the trace program prints, byte by byte.
use Rattle.std.specs.Prelude.{ℕ, Bool, true, false, List, [], ◌∷◌, ◌++◌}
use Rattle.texts.specs.Written.{decimal, hex, row, blank, newline}

-- a word and two numbers
unfoldable pub word_line : List ℕ → ℕ → ℕ → List ℕ
word_line word a b = word ++ (row (a ∷ (b ∷ [])) ++ (newline ∷ []))

-- "It prints `ok`, statements, cells"
abbrev pub ok_word : List ℕ
ok_word = 111 ∷ (107 ∷ (blank ∷ []))

abbrev pub ok_text : ℕ → ℕ → List ℕ
ok_text statements cells = word_line ok_word statements cells

-- "Refusals print `no`, number, place"
abbrev pub no_word : List ℕ
no_word = 110 ∷ (111 ∷ (blank ∷ []))

abbrev pub refused_text : ℕ → ℕ → List ℕ
refused_text number place = word_line no_word number place

-- "`R` at rest or `-`"
unfoldable pub rest_text : Bool → List ℕ
rest_text true = blank ∷ (82 ∷ (newline ∷ []))
rest_text false = blank ∷ (45 ∷ (newline ∷ []))

-- "then instant, outputs in hex, state in hex, `R` at rest or `-`"
unfoldable pub instant_text : ℕ → ℕ → ℕ → Bool → List ℕ
instant_text instant outputs state rest =
    decimal instant ++ ((blank ∷ []) ++ (hex outputs ++ ((blank ∷ []) ++ (hex state ++ rest_text rest))))
