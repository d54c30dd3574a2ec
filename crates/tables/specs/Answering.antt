-- "Our packer proposes tables of four pins with a 16-bit truth table each": what such a table answers.
use Rattle.std.specs.Prelude.{ℕ, ◌+◌, ◌*◌, ◌/◌, ◌%◌, ◌^◌, ◌<◌, ◌≡◌, Bool, true, false, List, [], ◌∷◌, map, eqb, length}
use Rattle.number.specs.declared.CellNo.{CellNo}
use Rattle.tables.specs.declared.Table.{Table}

-- "A table is a thing with four pins always, and that number is written in one place": here, among the definitions
abbrev pub pins : ℕ
pins = 4

-- each pin may be low or high, and the truth table has a bit for each of these settings
abbrev pub settings : ℕ
settings = 2 ^ pins

-- bit k of a number
unfoldable pub bit : ℕ → ℕ → Bool
bit t k = eqb (t / 2 ^ k % 2) 1

abbrev pub value : Bool → ℕ
value true = 1
value false = 0

-- "Pin p weighs 2 to the p": the number that the pins' values name
unfoldable pub weigh : List Bool → ℕ
weigh [] = 0
weigh (x ∷ xs) = value x + 2 * weigh xs

-- the setting of the cells at the pins where each cell has the value that v says
unfoldable pub setting : (CellNo → Bool) → List CellNo → ℕ
setting v cells = weigh (map v cells)

-- "and the weighted pin values name the truth-table bit": what a table answers where each cell has the value that v says
unfoldable pub answers : Table → (CellNo → Bool) → Bool
answers t v = bit t.truth (setting v t.pins)

-- what its type gives every table
pub record Formed (t : Table) : Type 0 where
  pub as_many : length t.pins ≡ pins
  pub truth_fits : t.truth < 2 ^ settings
