-- "Check our covers. Our packer proposes tables of four pins with a 16-bit truth table each, one per chosen cell. Pin p weighs 2 to the p,
-- and the weighted pin values name the truth-table bit." What a table answers is `answers` (tables); here is which covers are right, and
-- where the first fault of another is.
use Rattle.std.specs.Prelude.{◌≡◌, true, List, map, ◌⊎◌, ℕ, ◌+◌, ◌*◌, ◌/◌, ◌%◌, ◌<◌, length, get_or}
use Rattle.number.specs.Counts.{cell_no}
use Rattle.number.specs.declared.CellNo.{CellNo}
use Rattle.number.specs.declared.SignalNo.{SignalNo}
use Rattle.tables.specs.declared.Table.{Table}
use Rattle.tables.specs.Answering.{pins}
use Rattle.tables.specs.Orders.{from}
use Rattle.tables.specs.Reordering.{table}
use Rattle.cells.specs.declared.Cell.{Cell}
use Rattle.cells.specs.declared.Cell.TheVariants.{Register}
use Rattle.cells.specs.Cells.{cell_at, signal_cell}
use Rattle.cells.specs.Needs.{IsCell}
use Rattle.cells.specs.Netlist.{Netlist}
use Rattle.run.specs.Words.{is_output}
use Rattle.cuts.specs.Cut.{RightCut, is_gate, pin_at}

-- A cover is a list of numbers, so many a table: its cell, its pins, its truth table.
abbrev pub size : ℕ
size = pins + 2

-- how many whole tables it has; they are numbered from 0
abbrev pub table_count : List ℕ → ℕ
table_count cover = length cover / size

-- the pins of a table whose numbers begin at `at`
unfoldable pub pins_from : List ℕ → ℕ → List CellNo
pins_from cover at = map (λ (p : ℕ). cell_no (get_or cover (at + 1 + p) 0)) (from 0 pins)

abbrev pub table_at : List ℕ → ℕ → Table
table_at cover k = table (cell_no (get_or cover (k * size) 0)) (pins_from cover (k * size)) (get_or cover (k * size + 1 + pins) 0)

-- x is a table's cell
abbrev pub HasTable : List ℕ → CellNo → Type 0
HasTable cover x = (k : ℕ) × (k < table_count cover) × ((table_at cover k).cell ≡ x)

-- "is a table's cell, a register, an input or a constant". A number that is no cell is none of them.
pub record Carried (cells : List Cell) (cover : List ℕ) (x : CellNo) : Type 0 where
  pub cell : IsCell cells x
  pub tabled : is_gate (cell_at cells x) ≡ true → HasTable cover x

-- table k is right
pub record RightTable (cells : List Cell) (cover : List ℕ) (k : ℕ) : Type 0 where
  -- "each table's cell is of kind 3 to 5"
  pub gate : is_gate (cell_at cells (table_at cover k).cell) ≡ true
  -- "every pin is too" (a table's cell, a register, an input or a constant); "a pin without a table makes its own table wrong"
  pub pins_carried : (p : ℕ) → p < pins → Carried cells cover (pin_at (table_at cover k).pins p)
  -- "no cell has two tables"; "for a cell with two, the later" is wrong
  pub single : (j : ℕ) → j < k → (table_at cover j).cell ≡ (table_at cover k).cell → ⊥
  pub cut : RightCut cells (table_at cover k)

-- what is asked of the netlist once its tables are right
pub record Complete (w : Netlist) (cover : List ℕ) : Type 0 where
  -- an incomplete last table is wrong; its number is that of the whole ones
  pub whole : length cover % size ≡ 0
  -- "every output cell and every register's operand is a table's cell, a register, an input or a constant"
  pub outputs : (s : SignalNo) → is_output w.inputs w.outputs s ≡ true → Carried w.cells cover (signal_cell s)
  pub operands : (x y : CellNo) → cell_at w.cells x ≡ Register y → Carried w.cells cover y

-- "Accept a cover exactly if"
pub record RightCover (w : Netlist) (cover : List ℕ) : Type 0 where
  pub tables : (k : ℕ) → k < table_count cover → RightTable w.cells cover k
  pub complete : Complete w cover

-- "at the first table in the list that is wrong .., or at the number of tables where only an output or a register's operand lacks one"
pub record FirstWrong (w : Netlist) (cover : List ℕ) (place : ℕ) : Type 0 where
  pub before : (k : ℕ) → k < place → RightTable w.cells cover k
  pub here : ((place < table_count cover) × (RightTable w.cells cover place → ⊥)) ⊎ ((place ≡ table_count cover) × (Complete w cover → ⊥))
