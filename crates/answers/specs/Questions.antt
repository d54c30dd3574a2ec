-- The questions: a line is the question's word, then the words that it asks about, one blank between two. Any other line is no question.
use Rattle.std.specs.Prelude.{ℕ, suc, Bool, cond, List, [], ◌∷◌, eqb, leb, length, take, drop, Option, Some, None}
use Rattle.covers.specs.Covers.{size}
use Rattle.texts.specs.Digits.{value_of, set_digits}
use Rattle.texts.specs.Bytes.{Decoded, bytes, malformed, bytes_within}
use Rattle.texts.specs.Words.{same}
use Rattle.answers.specs.Words.{word_end}
use Rattle.answers.specs.Tables.{Numbers, these, no_tables, numbers_from}

-- A line of up to so many bytes is a question.
abbrev pub longest : ℕ
longest = 16384

-- so many bytes are read of a sheet or a file, and at most so many are lent for a file
abbrev pub room : ℕ
room = 8192

-- the first word, what follows the blank behind it, and whether there is no such blank
abbrev pub first_word : List ℕ → List ℕ
first_word text = take (word_end text) text

abbrev pub after_word : List ℕ → List ℕ
after_word text = drop (suc (word_end text)) text

abbrev pub one_word : List ℕ → Bool
one_word text = leb (length text) (word_end text)

-- bytes in hex, or `-` for none
abbrev pub no_bytes : List ℕ
no_bytes = 45 ∷ []

unfoldable pub bytes_in : List ℕ → Decoded
bytes_in word = cond (same word no_bytes) (bytes []) (cond (eqb (length word) 0) malformed (bytes_within room word))

-- a state or an event, and a length
abbrev pub set_in : List ℕ → Option ℕ
set_in word = value_of 16 set_digits word

abbrev pub length_in : List ℕ → Option ℕ
length_in word = value_of 10 20 word

-- "N is 1 to 20 decimal digits, at most 2^64 - 1". A larger number is read as the largest (Digits), which has 20 digits and so one
-- spelling.
abbrev pub largest : List ℕ
largest =
    49 ∷ (56 ∷ (52 ∷ (52 ∷ (54 ∷ (55 ∷ (52 ∷ (52 ∷ (48 ∷ (55 ∷
    (51 ∷ (55 ∷ (48 ∷ (57 ∷ (53 ∷ (53 ∷ (49 ∷ (54 ∷ (49 ∷ (53 ∷ [])))))))))))))))))))

unfoldable pub or_spelled : Option ℕ → List ℕ → Option ℕ
or_spelled (Some n) word = cond (eqb n 18446744073709551615) (cond (same word largest) (Some n) None) (Some n)
or_spelled None word = None

abbrev pub order_in : List ℕ → Option ℕ
order_in word = or_spelled (length_in word) word

-- the numbers of tables; a line has no longer word
unfoldable pub numbers_in : List ℕ → Numbers
numbers_in word = cond (leb (length word) longest) (numbers_from 0 [] word) no_tables

-- "TABLES is `-` for none, or tables with one comma between two"
unfoldable pub tables_in : List ℕ → Numbers
unfolding numbers_in
tables_in word = cond (same word no_bytes) (these []) (numbers_in word)

-- what is asked
pub data Question : Type 0 where
  rest : ℕ → Question
  read : List ℕ → Question
  check : List ℕ → Question
  file : List ℕ → Question
  fits : List ℕ → ℕ → Question
  write : List ℕ → ℕ → Question
  react : List ℕ → ℕ → ℕ → Question
  reactfile : List ℕ → ℕ → ℕ → Question
  cover : List ℕ → List ℕ → Question
  order : ℕ → List ℕ → Question
  none : Question

-- of a number that may be none
unfoldable pub of : Option ℕ → (ℕ → Question) → Question
of (Some n) ask = ask n
of None ask = none

unfoldable pub of_bytes : Decoded → (List ℕ → Question) → Question
of_bytes (bytes s) ask = ask s
of_bytes malformed ask = none

-- of the numbers of tables, and of one table
unfoldable pub of_tables : Numbers → (List ℕ → Question) → Question
of_tables (these ns) ask = ask ns
of_tables no_tables ask = none

abbrev pub one_table : (List ℕ → Question) → List ℕ → Question
one_table ask ns = cond (eqb (length ns) size) (ask ns) none

abbrev pub read_word : List ℕ
read_word = 114 ∷ (101 ∷ (97 ∷ (100 ∷ [])))

abbrev pub check_word : List ℕ
check_word = 99 ∷ (104 ∷ (101 ∷ (99 ∷ (107 ∷ []))))

abbrev pub file_word : List ℕ
file_word = 102 ∷ (105 ∷ (108 ∷ (101 ∷ [])))

abbrev pub fits_word : List ℕ
fits_word = 102 ∷ (105 ∷ (116 ∷ (115 ∷ [])))

abbrev pub write_word : List ℕ
write_word = 119 ∷ (114 ∷ (105 ∷ (116 ∷ (101 ∷ []))))

abbrev pub react_word : List ℕ
react_word = 114 ∷ (101 ∷ (97 ∷ (99 ∷ (116 ∷ []))))

abbrev pub reactfile_word : List ℕ
reactfile_word = 114 ∷ (101 ∷ (97 ∷ (99 ∷ (116 ∷ (102 ∷ (105 ∷ (108 ∷ (101 ∷ []))))))))

abbrev pub cover_word : List ℕ
cover_word = 99 ∷ (111 ∷ (118 ∷ (101 ∷ (114 ∷ []))))

abbrev pub rest_word : List ℕ
rest_word = 114 ∷ (101 ∷ (115 ∷ (116 ∷ [])))

abbrev pub order_word : List ℕ
order_word = 111 ∷ (114 ∷ (100 ∷ (101 ∷ (114 ∷ []))))

-- read HEX, check HEX, file HEX
unfoldable pub about_bytes : List ℕ → List ℕ → Question
about_bytes word s = cond (same word read_word) (read s) (cond (same word check_word) (check s) (cond (same word file_word) (file s) none))

-- fits HEX STATE, write HEX LENGTH, cover HEX TABLES
unfoldable pub about_more : List ℕ → List ℕ → List ℕ → Question
unfolding of of_tables tables_in
about_more word s text =
    cond (same word fits_word) (of (set_in text) (fits s))
    (cond (same word write_word) (of (length_in text) (write s)) (cond (same word cover_word) (of_tables (tables_in text) (cover s)) none))

-- react HEX STATE EVENT, reactfile HEX STATE EVENT
unfoldable pub about_reaction : List ℕ → List ℕ → ℕ → ℕ → Question
about_reaction word s state event =
    cond (same word react_word) (react s state event) (cond (same word reactfile_word) (reactfile s state event) none)

-- what follows the bytes
unfoldable pub behind_bytes : List ℕ → List ℕ → List ℕ → Question
unfolding of about_more about_reaction
behind_bytes word s text =
    cond (one_word text) (about_more word s text)
    (of (set_in (first_word text)) (λ state. of (set_in (after_word text)) (about_reaction word s state)))

-- what is asked about bytes
unfoldable pub with_bytes : List ℕ → List ℕ → List ℕ → Question
unfolding about_bytes behind_bytes
with_bytes word text s = cond (one_word text) (about_bytes word s) (behind_bytes word s (after_word text))

-- order N TABLE
unfoldable pub about_order : List ℕ → Question
unfolding of or_spelled of_tables numbers_in
about_order text =
    cond (one_word text) none (of (order_in (first_word text)) (λ n. of_tables (numbers_in (after_word text)) (one_table (order n))))

-- rest STATE, order N TABLE, or what is asked about bytes
unfoldable pub asked : List ℕ → List ℕ → Question
unfolding of of_bytes with_bytes about_order
asked word text =
    cond (same word rest_word) (of (set_in text) rest)
    (cond (same word order_word) (about_order text) (of_bytes (bytes_in (first_word text)) (with_bytes word text)))

unfoldable pub question : List ℕ → Question
unfolding asked
question line = cond (leb (length line) longest) (cond (one_word line) none (asked (first_word line) (after_word line))) none
