-- Equations, the first paragraph: new cells with their folding. New cells are a list that begins at a cell number; nothing here knows of a store.
use Rattle.std.specs.Prelude.{List, [], ◌∷◌, ℕ}
use Rattle.number.specs.Counts.{cell_no}
use Rattle.number.specs.Number.{pick}
use Rattle.number.specs.declared.CellNo.{CellNo}
use Rattle.cells.specs.declared.Gate as gate
use Rattle.cells.specs.declared.Gate.TheVariants.{Or, And, Butnot}
use Rattle.cells.specs.declared.Cell.{Cell}
use Rattle.cells.specs.declared.Cell.TheVariants.{Gate}
use Rattle.cells.specs.Cells.{low, is_low}

-- some new cells, and the net that they give
pub record New : Type 0 where
  pub cells : List Cell
  pub net : CellNo

-- no new cell: the net x, which was there
abbrev pub old : CellNo → New
old x = record { cells = []; net = x }

-- "New cells follow in the order named.": the cell c, with the next number n
abbrev pub new : ℕ → Cell → New
new n c = record { cells = c ∷ []; net = cell_no n }

-- "or with 0 is the other operand, and with 0 is 0, butnot x 0 is x, butnot 0 y is 0.": a gate whose first operand is 0
abbrev pub first_low : gate.Gate → CellNo → CellNo
first_low Or y = y
first_low And y = low
first_low Butnot y = low

-- and one whose second operand is 0
abbrev pub second_low : gate.Gate → CellNo → CellNo
second_low Or x = x
second_low And x = low
second_low Butnot x = x

-- "Low folds and makes no cell": a gate, with the next number n
unfoldable pub gate_at : gate.Gate → ℕ → CellNo → CellNo → New
gate_at g n x y = pick (is_low x) (old (first_low g y)) (pick (is_low y) (old (second_low g x)) (new n (Gate g x y)))

abbrev pub or_at : ℕ → CellNo → CellNo → New
or_at n x y = gate_at Or n x y

abbrev pub and_at : ℕ → CellNo → CellNo → New
and_at n x y = gate_at And n x y

abbrev pub butnot_at : ℕ → CellNo → CellNo → New
butnot_at n x y = gate_at Butnot n x y
