-- A netlist's file, as it is written, and every file that reads as one.
use Rattle.std.specs.Prelude.{List, [], ◌∷◌, ◌++◌, ◌≡◌, ℕ, suc, length}
use Rattle.number.specs.declared.CellNo.{CellNo}
use Rattle.number.specs.Counts.{of_cell, of_signal}
use Rattle.number.specs.Number.{number_bytes}
use Rattle.cells.specs.declared.Gate as gate
use Rattle.cells.specs.declared.Gate.TheVariants.{Or, And, Butnot}
use Rattle.cells.specs.declared.Cell.{Cell}
use Rattle.cells.specs.declared.Cell.TheVariants.{Low, High, Input, Gate, Register}
use Rattle.cells.specs.Cells.{gate_kind}
use Rattle.cells.specs.Netlist.{Netlist}

-- "kind 7 with a truth table 14, 8 or 2 and the operands", "x weighing 1 and y 2": bit x + 2 y of it is what the gate gives (`same_truth`)
abbrev pub truth_table : gate.Gate → ℕ
truth_table Or = 14
truth_table And = 8
truth_table Butnot = 2

-- the kind that is written for a cell: "gate kinds 3, 4 and 5 leave the file"
abbrev pub written_kind : Cell → ℕ
written_kind Low = 0
written_kind High = 1
written_kind (Input s) = 2
written_kind (Gate g x y) = 7
written_kind (Register x) = 6

abbrev pub pair_bytes : CellNo → CellNo → List ℕ
pair_bytes x y = number_bytes (of_cell x) ++ number_bytes (of_cell y)

abbrev pub operand_bytes : Cell → List ℕ
operand_bytes Low = []
operand_bytes High = []
operand_bytes (Input s) = number_bytes (of_signal s)
operand_bytes (Gate g x y) = number_bytes (truth_table g) ++ pair_bytes x y
operand_bytes (Register x) = number_bytes (of_cell x)

-- "each cell's kind and operands"
abbrev pub cell_bytes : Cell → List ℕ
cell_bytes c = number_bytes (written_kind c) ++ operand_bytes c

unfoldable pub cells_bytes : List Cell → List ℕ
cells_bytes [] = []
cells_bytes (c ∷ cs) = cell_bytes c ++ cells_bytes cs

-- "the old kinds read as the same cells": a gate with its own kind and no truth table
abbrev pub old_bytes : gate.Gate → CellNo → CellNo → List ℕ
old_bytes g x y = number_bytes (gate_kind g) ++ pair_bytes x y

-- bytes that spell cells, with so many gates of the old kinds among them
pub data Spells : List Cell → List ℕ → ℕ → Type 0 where
  none : Spells [] [] 0
  new : (c : Cell) {cs : List Cell} {bytes : List ℕ} {n : ℕ} → Spells cs bytes n → Spells (c ∷ cs) (cell_bytes c ++ bytes) n
  old : (g : gate.Gate) (x y : CellNo) {cs : List Cell} {bytes : List ℕ} {n : ℕ} → Spells cs bytes n
      → Spells (Gate g x y ∷ cs) (old_bytes g x y ++ bytes) (suc n)

-- "Netlist file: I, O, cell count, .."
abbrev pub head_bytes : Netlist → List ℕ → List ℕ
head_bytes w body = number_bytes w.inputs ++ (number_bytes w.outputs ++ (number_bytes (length w.cells) ++ body))

-- ".. then each cell's kind and operands": what is written
unfoldable pub file_bytes : Netlist → List ℕ
file_bytes w = head_bytes w (cells_bytes w.cells)

-- what is read as w, with so many gates of the old kinds
pub record FileSpelled (s : List ℕ) (w : Netlist) (olds : ℕ) : Type 0 where
  pub body : List ℕ
  pub cells : Spells w.cells body olds
  pub whole : s ≡ head_bytes w body
