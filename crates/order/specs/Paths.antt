-- "CYCLE through cells other than registers", at the "lowest cell on one": which cells a cell reaches by those that it needs in the same clock, and what an
-- order of the cells is.
use Rattle.std.specs.Prelude.{◌≡◌, List, ℕ, ◌<◌, ◌≤◌, length, get_or, Result, Ok, Err}
use Rattle.number.specs.Counts.{cell_no, of_cell}
use Rattle.number.specs.declared.CellNo.{CellNo}
use Rattle.limits.specs.Limits.{max_cells}
use Rattle.cells.specs.declared.Cell.{Cell}
use Rattle.cells.specs.Needs.{IsCell, Needs, Closed}
use Rattle.order.specs.declared.Cycle.{Cycle}

-- a way from x to z, of one step or more
pub data Reaches (cells : List Cell) : CellNo → CellNo → Type 0 where
  one : {x y : CellNo} → Needs cells x y → Reaches cells x y
  more : {x y z : CellNo} → Needs cells x y → Reaches cells y z → Reaches cells x z

-- x is on a cycle
abbrev pub OnCycle : List Cell → CellNo → Type 0
OnCycle cells x = Reaches cells x x

-- "lowest cell on one"
pub record Lowest (cells : List Cell) (x : CellNo) : Type 0 where
  pub on : OnCycle cells x
  pub below : (y : CellNo) → of_cell y < of_cell x → OnCycle cells y → ⊥

-- cells that can be ordered: "At most: .. 1,024 cells", each operand one of them, and `order` has a place for each
pub record Orderable (cells : List Cell) (order : List ℕ) : Type 0 where
  pub closed : Closed cells
  pub few : length cells ≤ max_cells
  pub long : length cells ≤ length order

-- the cell at place j of an order
abbrev pub placed : List ℕ → ℕ → CellNo
placed order j = cell_no (get_or order j 0)

-- the first places, as many as there are cells, hold every cell once, each after those that it needs
pub record Ordered (cells : List Cell) (order : List ℕ) : Type 0 where
  pub cell : (j : ℕ) → j < length cells → IsCell cells (placed order j)
  pub once : (i j : ℕ) → i < j → j < length cells → placed order i ≡ placed order j → ⊥
  pub each : (x : CellNo) → IsCell cells x → (j : ℕ) × (j < length cells) × (placed order j ≡ x)
  pub after : (j : ℕ) (y : CellNo) → j < length cells → Needs cells (placed order j) y → (i : ℕ) × (i < j) × (placed order i ≡ y)

-- what is answered: an order, or the lowest cell on a cycle. Where there are several orders any will do.
pub record Answers (cells : List Cell) (order : List ℕ) (r : Result (Unit {0}) Cycle) : Type 0 where
  pub found : r ≡ Ok tt → Ordered cells order
  pub cycle : (c : Cycle) → r ≡ Err c → Lowest cells c.lowest
