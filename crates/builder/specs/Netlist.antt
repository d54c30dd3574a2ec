-- "Equations", of the whole netlist: its head, the signals' cells, the root's cells. What a statement builds is `build`, in `parts`.
use Rattle.std.specs.Prelude.{List, [], ◌∷◌, ◌++◌, ℕ, zero, suc, ◌+◌, replicate}
use Rattle.number.specs.declared.CellNo.{CellNo}
use Rattle.number.specs.Counts.{cell_no, signal_no}
use Rattle.limits.specs.Limits.{max_signals}
use Rattle.sheet.specs.Stmt.{Stmt, local_count}
use Rattle.sheet.specs.Read.{Sheet}
use Rattle.cells.specs.declared.Cell.{Cell}
use Rattle.cells.specs.declared.Cell.TheVariants.{Low, High, Input, Gate, Register}
use Rattle.cells.specs.declared.Gate.TheVariants.{Or, Butnot}
use Rattle.cells.specs.Cells.{low, high}
use Rattle.cells.specs.Netlist as net
use Rattle.parts.specs.Equations.{Built, list_of, build}

-- "cells 2..I+1 inputs": k of them, from signal s on
unfoldable pub input_cells : ℕ → ℕ → List Cell
input_cells s zero = []
input_cells s (suc k) = Input (signal_no s) ∷ input_cells (suc s) k

-- "Last, cell 1+s of each output and local becomes or(list, 0), unfolded.": k of them, from signal s on
unfoldable pub signal_cells : List CellNo → ℕ → ℕ → List Cell
signal_cells L s zero = []
signal_cells L s (suc k) = Gate Or (list_of L (signal_no s)) low ∷ signal_cells L (suc s) k

-- every signal's list "starting at 0"
abbrev pub no_lists : List CellNo
no_lists = replicate max_signals low

-- "(root: n+2, 1, 0)": with n signals the root's cells begin at n+3
unfoldable pub root_of : ℕ → Stmt → Built
unfolding build
root_of n t = build t (3 + n) (cell_no (2 + n)) high low no_lists

-- "cell n+1 is register 1; n+2 is butnot 1 (n+1)"
abbrev pub boot_cells : ℕ → List Cell
boot_cells n = Register high ∷ (Gate Butnot high (cell_no (1 + n)) ∷ [])

-- "With n signals: cell 0 low, 1 high, cells 2..I+1 inputs, cell 1+s is signal s; ..": with I inputs, and U outputs and locals, n is 1+I+U
unfoldable pub netlist : ℕ → ℕ → Stmt → List Cell
unfolding root_of input_cells signal_cells
netlist I U t =
    let n : ℕ = 1 + I + U in
    let root : Built = root_of n t in
    Low ∷ (High ∷ (input_cells 1 I ++ (signal_cells root.lists (1 + I) U ++ (boot_cells n ++ root.cells))))

-- the netlist of a sheet
abbrev pub sheet_netlist : Sheet → List Cell
sheet_netlist w = netlist w.inputs (w.outputs + local_count w.root) w.root

-- and with its I and O, as a file has it
abbrev pub sheet_file : Sheet → net.Netlist
sheet_file w = record { inputs = w.inputs; outputs = w.outputs; cells = sheet_netlist w }
