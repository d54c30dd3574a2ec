-- The lines of an input.
use Rattle.std.specs.Prelude.{ℕ, Bool, true, cond, List, [], ◌∷◌, ◌++◌, eqb}
use Rattle.texts.specs.Written.{newline}

-- The lines whose newline is there, each without it, and the bytes behind the last newline.
pub record Lines : Type 0 where
  pub whole : List (List ℕ)
  pub left : List ℕ

abbrev pub behind : List ℕ → Lines → Lines
behind line ls = record { whole = line ∷ ls.whole; left = ls.left }

-- those of some bytes, where `held` are the bytes before them of a line that has not ended
unfoldable pub lines_from : List ℕ → List ℕ → Lines
lines_from held [] = record { whole = []; left = held }
lines_from held (b ∷ bs) = cond (eqb b newline) (behind held (lines_from [] bs)) (lines_from (held ++ (b ∷ [])) bs)

-- "the last line may lack its newline"; where nothing is left there is no line
unfoldable pub last_line : List ℕ → List (List ℕ)
last_line [] = []
last_line (b ∷ bs) = (b ∷ bs) ∷ []

-- the lines of some bytes; where the input ends with them, the last line too
unfoldable pub lines_in : Bool → List ℕ → List ℕ → List (List ℕ)
lines_in ended held bytes = (lines_from held bytes).whole ++ cond ended (last_line (lines_from held bytes).left) []

abbrev pub lines_of : List ℕ → List (List ℕ)
lines_of input = lines_in true [] input
