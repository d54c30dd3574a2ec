-- Equations, the first paragraph: "Cells: 0 low; 1 high; 2 input s; 3 or x y; 4 and x y; 5 butnot x y (x and not y); 6 register x (last x, first
-- low)." That is the type `Cell` of the code, whose cases stand in this order, the three gates as one case.
use Rattle.std.specs.Prelude.{Bool, not, ◌&&◌, ◌||◌, List, ℕ, suc, eqb, get_or}
use Rattle.number.specs.Counts.{cell_no, of_cell, of_signal}
use Rattle.number.specs.declared.CellNo.{CellNo}
use Rattle.number.specs.declared.SignalNo.{SignalNo}
use Rattle.cells.specs.declared.Gate as gate
use Rattle.cells.specs.declared.Gate.TheVariants.{Or, And, Butnot}
use Rattle.cells.specs.declared.Cell.{Cell}
use Rattle.cells.specs.declared.Cell.TheVariants.{Low, High, Input, Gate, Register}

-- "or x y", "and x y", "butnot x y (x and not y)": what a gate makes of the values of x and y
abbrev pub truth : gate.Gate → Bool → Bool → Bool
truth Or a b = a || b
truth And a b = a && b
truth Butnot a b = a && not b

-- "3 or x y; 4 and x y; 5 butnot x y"
abbrev pub gate_kind : gate.Gate → ℕ
gate_kind Or = 3
gate_kind And = 4
gate_kind Butnot = 5

-- "0 low; 1 high; 2 input s; .. 6 register x"
abbrev pub kind_of : Cell → ℕ
kind_of Low = 0
kind_of High = 1
kind_of (Input s) = 2
kind_of (Gate g x y) = gate_kind g
kind_of (Register x) = 6

-- "cell 0 low, 1 high"
abbrev pub low : CellNo
low = cell_no 0

abbrev pub high : CellNo
high = cell_no 1

-- "cell 1+s is signal s"
abbrev pub signal_cell : SignalNo → CellNo
signal_cell s = cell_no (suc (of_signal s))

abbrev pub is_low : CellNo → Bool
is_low x = eqb (of_cell x) 0

abbrev pub next_cell : CellNo → CellNo
next_cell x = cell_no (suc (of_cell x))

-- the cell with the number x; past the last there is none, and low stands there
abbrev pub cell_at : List Cell → CellNo → Cell
cell_at cells x = get_or cells (of_cell x) Low
