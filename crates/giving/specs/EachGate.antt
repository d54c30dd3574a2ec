-- "One table for every gate is always accepted": "with pins x, y and any two fillers of x, y or a constant, the truth table repeated over
-- the fillers."
use Rattle.std.specs.Prelude.{◌≡◌, true, List, [], ◌∷◌, ℕ, ◌%◌, ◌<◌, length}
use Rattle.number.specs.declared.CellNo.{CellNo}
use Rattle.tables.specs.declared.Table.{Table}
use Rattle.tables.specs.Answering.{settings, bit}
use Rattle.cells.specs.declared.Gate as gate
use Rattle.cells.specs.declared.Cell.{Cell}
use Rattle.cells.specs.declared.Cell.TheVariants.{Gate}
use Rattle.cells.specs.Cells.{truth, cell_at}
use Rattle.cells.specs.Needs.{IsCell}
use Rattle.cuts.specs.Cut.{is_gate, is_constant}
use Rattle.covers.specs.Covers.{size, table_count, table_at, HasTable}

-- a filler: one of the two operands again, or a constant
pub data Filler (cells : List Cell) (x y : CellNo) : CellNo → Type 0 where
  first : Filler cells x y x
  second : Filler cells x y y
  constant : {z : CellNo} → IsCell cells z → is_constant (cell_at cells z) ≡ true → Filler cells x y z

-- the table of one gate
pub record OneGate (cells : List Cell) (t : Table) : Type 0 where
  pub kind : gate.Gate
  pub x : CellNo
  pub y : CellNo
  pub third : CellNo
  pub fourth : CellNo
  pub is : cell_at cells t.cell ≡ Gate kind x y
  pub pinned : t.pins ≡ x ∷ y ∷ third ∷ fourth ∷ []
  pub fill_third : Filler cells x y third
  pub fill_fourth : Filler cells x y fourth
  pub repeated : (b : ℕ) → b < settings → bit t.truth b ≡ truth kind (bit b 0) (bit b 1)

-- one for every gate
pub record EachGate (cells : List Cell) (cover : List ℕ) : Type 0 where
  pub tables : (k : ℕ) → k < table_count cover → OneGate cells (table_at cover k)
  pub once : (j k : ℕ) → j < k → k < table_count cover → (table_at cover j).cell ≡ (table_at cover k).cell → ⊥
  pub all : (x : CellNo) → is_gate (cell_at cells x) ≡ true → HasTable cover x
  pub whole : length cover % size ≡ 0
