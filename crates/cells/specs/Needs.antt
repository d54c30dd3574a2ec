-- Which cells a cell needs in the same clock, and that every operand is a cell.
use Rattle.std.specs.Prelude.{◌≡◌, List, ◌⊎◌, ◌<◌, length, Option, Some, None}
use Rattle.number.specs.Counts.{of_cell}
use Rattle.number.specs.declared.CellNo.{CellNo}
use Rattle.cells.specs.declared.Cell.{Cell}
use Rattle.cells.specs.declared.Cell.TheVariants.{Low, High, Input, Gate, Register}
use Rattle.cells.specs.Cells.{cell_at}

-- x is the number of a cell
abbrev pub IsCell : List Cell → CellNo → Type 0
IsCell cells x = of_cell x < length cells

-- the operands by which a way goes on, those of or, and, butnot: "through cells other than registers", so a register ends a way
abbrev pub pins_of : Cell → Option (CellNo × CellNo)
pins_of Low = None
pins_of High = None
pins_of (Input s) = None
pins_of (Gate g x y) = Some (x, y)
pins_of (Register x) = None

-- y is one of two operands
abbrev pub Among : Option (CellNo × CellNo) → CellNo → Type 0
Among None y = ⊥
Among (Some (a, b)) y = (a ≡ y) ⊎ (b ≡ y)

-- cell x needs cell y in the same clock
pub record Needs (cells : List Cell) (x y : CellNo) : Type 0 where
  pub among : Among (pins_of (cell_at cells x)) y

-- "operand not a cell" is refused: here every operand is one
pub record Closed (cells : List Cell) : Type 0 where
  pub gates : (x y : CellNo) → Needs cells x y → IsCell cells y
  pub registers : (x y : CellNo) → cell_at cells x ≡ Register y → IsCell cells y
