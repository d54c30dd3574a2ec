-- Tables in a question. "A TABLE is cell:pin0:pin1:pin2:pin3:truth", and tables have "one comma between two". So tables in a row are a
-- row of numbers, as a cover is.
use Rattle.std.specs.Prelude.{ℕ, suc, ◌+◌, ◌%◌, Bool, cond, List, [], ◌∷◌, ◌++◌, eqb, leb, Option, Some, None}
use Rattle.tables.specs.Answering.{pins}
use Rattle.covers.specs.Covers.{size}
use Rattle.texts.specs.Digits.{value_of}

abbrev pub comma : ℕ
comma = 44

abbrev pub colon : ℕ
colon = 58

-- number i, counted from 0 over all tables, is the last of its table
abbrev pub is_truth : ℕ → Bool
is_truth i = eqb (i % size) (pins + 1)

-- what stands behind it where another number follows
abbrev pub sign_behind : ℕ → ℕ
sign_behind i = cond (is_truth i) comma colon

-- a number of 16 bits, or none
unfoldable pub short : Option ℕ → Option ℕ
short (Some n) = cond (leb n 65535) (Some n) None
short None = None

-- "five decimal numbers of 1 to 5 digits, at most 65535, and 1 to 4 hex digits"
unfoldable pub number_in : ℕ → List ℕ → Option ℕ
unfolding short
number_in i part = short (cond (is_truth i) (value_of 16 4 part) (value_of 10 5 part))

-- what a text is: the numbers of tables, or none
pub data Numbers : Type 0 where
  these : List ℕ → Numbers
  no_tables : Numbers

unfoldable pub before : Option ℕ → Numbers → Numbers
before (Some n) (these ns) = these (n ∷ ns)
before (Some n) no_tables = no_tables
before None ns = no_tables

-- the numbers from number i on; `held` are the bytes of it that are passed
unfoldable pub numbers_from : ℕ → List ℕ → List ℕ → Numbers
unfolding before number_in
numbers_from i held [] = cond (is_truth i) (before (number_in i held) (these [])) no_tables
numbers_from i held (b ∷ bs) =
    cond (eqb b (sign_behind i)) (before (number_in i held) (numbers_from (suc i) [] bs)) (numbers_from i (held ++ (b ∷ [])) bs)
