-- What is printed for each question, byte by byte: "hex small and without leading zeros, other numbers decimal", one blank between two
-- words.
use Rattle.std.specs.Prelude.{ℕ, Bool, true, false, List, [], ◌∷◌, ◌++◌, map}
use Rattle.number.specs.Counts.{of_cell}
use Rattle.bits.specs.Bits.{whole}
use Rattle.tables.specs.declared.Table.{Table}
use Rattle.tables.specs.declared.Reordered.{Reordered}
use Rattle.verdicts.specs.Answers.{Verdict, passes, stops}
use Rattle.verdicts.specs.declared.Answer.{Answer}
use Rattle.verdicts.specs.declared.Reaction.{Reaction}
use Rattle.verdicts.specs.declared.Reading.{Reading}
use Rattle.texts.specs.Written.{decimal, hex, in_hex, row, blank, newline}

abbrev pub bit : Bool → ℕ
bit true = 1
bit false = 0

-- numbers on a line
unfoldable pub line : List ℕ → List ℕ
line ns = row ns ++ (newline ∷ [])

-- 1 for yes, 0 for no
abbrev pub rest_text : Bool → List ℕ
rest_text b = line (bit b ∷ [])

-- number place statements halts signals
abbrev pub reading_text : Reading → List ℕ
reading_text r = line (r.number ∷ (r.place ∷ (r.statements ∷ (r.halts ∷ (r.signals ∷ [])))))

-- number place statements cells
abbrev pub numbers_of : Answer → List ℕ
numbers_of a = a.number ∷ (a.place ∷ (a.statements ∷ (a.cells ∷ [])))

abbrev pub answer_text : Answer → List ℕ
answer_text a = line (numbers_of a)

-- .. and the file in hex
unfoldable pub file_text : Answer → List ℕ → List ℕ
file_text a file = row (numbers_of a) ++ ((blank ∷ []) ++ (in_hex file ++ (newline ∷ [])))

-- .. or `-` where there is none
unfoldable pub no_file_text : Answer → List ℕ
no_file_text a = row (numbers_of a) ++ (blank ∷ (45 ∷ (newline ∷ [])))

-- the file where nothing stopped it
unfoldable pub written_text : Verdict → Answer → List ℕ → List ℕ
unfolding file_text no_file_text
written_text passes a file = file_text a file
written_text (stops f) a file = no_file_text a

-- number place statements cells signals state
abbrev pub answer_in : Reaction → Answer
answer_in r = record { number = r.number; place = r.place; statements = r.statements; cells = r.cells }

unfoldable pub reaction_text : Reaction → List ℕ
reaction_text r =
    row (numbers_of (answer_in r)) ++
    ((blank ∷ []) ++ (hex (whole r.signals) ++ ((blank ∷ []) ++ (hex (whole r.state) ++ (newline ∷ [])))))

-- numbers with a colon behind each
unfoldable pub parts : List ℕ → List ℕ
parts [] = []
parts (n ∷ ns) = decimal n ++ (58 ∷ parts ns)

-- the table's cell, the cells at its pins and its truth table in hex, with a colon between two
unfoldable pub table_text : Table → List ℕ
table_text t = parts (of_cell t.cell ∷ []) ++ (parts (map of_cell t.pins) ++ hex t.truth)

-- number place TABLE
unfoldable pub order_text : Reordered → List ℕ
order_text r = row (r.number ∷ (r.place ∷ [])) ++ ((blank ∷ []) ++ (table_text r.table ++ (newline ∷ [])))
