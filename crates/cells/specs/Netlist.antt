-- A netlist, and which netlists are well formed.
use Rattle.std.specs.Prelude.{◌≡◌, Bool, true, ◌&&◌, List, [], ◌∷◌, ℕ, ◌+◌, ◌≤◌, ltb, leb, eqb, length}
use Rattle.number.specs.Counts.{cell_no, of_cell}
use Rattle.number.specs.Number.{pick}
use Rattle.number.specs.declared.CellNo.{CellNo}
use Rattle.limits.specs.Limits.{max_signals, max_cells, max_registers}
use Rattle.cells.specs.declared.Cell.{Cell}
use Rattle.cells.specs.declared.Cell.TheVariants.{Low, High, Input, Gate, Register}
use Rattle.cells.specs.Cells.{kind_of, signal_cell, next_cell}
use Rattle.cells.specs.Words.{cells_of}
use Rattle.cells.specs.Values.{registers}

-- I, O and the cells
pub record Netlist : Type 0 where
  pub inputs : ℕ
  pub outputs : ℕ
  pub cells : List Cell

-- the netlist that I, O and words mean, a word for each cell
abbrev pub netlist_of : ℕ → ℕ → List ℕ → Netlist
netlist_of I O words = record { inputs = I; outputs = O; cells = cells_of words }

-- "cell 0 low, 1 high, cells 2..I+1 inputs", and "kinds 0 to 2 elsewhere" are CELL: whether kind k, at most 6, may stand at cell x
unfoldable pub kind_fits : ℕ → CellNo → ℕ → Bool
kind_fits I x k =
    pick (eqb (of_cell x) 0) (eqb k 0)
    (pick (eqb (of_cell x) 1) (eqb k 1)
    (pick (leb (of_cell x) (I + 1)) (eqb k 2) (ltb 2 k)))

-- whether an operand is one of m cells
abbrev pub is_net : ℕ → CellNo → Bool
is_net m y = ltb (of_cell y) m

-- "cell 1+s is signal s", and "operand not a cell" is CELL: whether the operands of cell x, one of m, are right
unfoldable pub operands_fit : ℕ → CellNo → Cell → Bool
operands_fit m x Low = true
operands_fit m x High = true
operands_fit m x (Input s) = eqb (of_cell (signal_cell s)) (of_cell x)
operands_fit m x (Gate g y z) = is_net m y && is_net m z
operands_fit m x (Register y) = is_net m y

-- of m cells, those from number x on
unfoldable pub cells_fit : ℕ → ℕ → CellNo → List Cell → Bool
cells_fit I m x [] = true
cells_fit I m x (c ∷ cs) = (kind_fits I x (kind_of c) && operands_fit m x c) && cells_fit I m (next_cell x) cs

-- a netlist with none of the faults 1 to 8 and 16: its file is read
pub record WellFormed (w : Netlist) : Type 0 where
  pub signals : 1 + w.inputs + w.outputs ≤ max_signals
  pub few : length w.cells ≤ max_cells
  pub enough : 2 + w.inputs + w.outputs ≤ length w.cells
  pub bits : registers w.cells ≤ max_registers
  pub fit : cells_fit w.inputs (length w.cells) (cell_no 0) w.cells ≡ true
