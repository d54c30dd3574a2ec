-- A cell in one word, and the cells of a column of words.
use Rattle.std.specs.Prelude.{Bool, ◌&&◌, List, map, ℕ, ◌+◌, ◌*◌, ◌/◌, ◌%◌, eqb, ltb}
use Rattle.number.specs.Counts.{cell_no, of_cell, signal_no, of_signal}
use Rattle.number.specs.Number.{pick}
use Rattle.cells.specs.declared.Gate as gate
use Rattle.cells.specs.declared.Gate.TheVariants.{Or, And, Butnot}
use Rattle.cells.specs.declared.Cell.{Cell}
use Rattle.cells.specs.declared.Cell.TheVariants.{Low, High, Input, Gate, Register}
use Rattle.cells.specs.Cells.{gate_kind}

-- its kind in bits 0 to 2, its first operand in bits 3 to 18, its second from bit 19 on
abbrev pub word : Cell → ℕ
word Low = 0
word High = 1
word (Input s) = 2 + 8 * of_signal s
word (Gate g x y) = gate_kind g + 8 * of_cell x + 524288 * of_cell y
word (Register x) = 6 + 8 * of_cell x

-- the first operand of a word, and the second
abbrev pub first_of : ℕ → ℕ
first_of w = w / 8 % 65536

abbrev pub second_of : ℕ → ℕ
second_of w = w / 524288 % 65536

-- "3 or x y; 4 and x y; 5 butnot x y": whether a kind is a gate's, and the gate of such a kind
abbrev pub is_gate_kind : ℕ → Bool
is_gate_kind k = ltb 2 k && ltb k 6

unfoldable pub gate_in : ℕ → gate.Gate
gate_in k = pick (eqb k 3) Or (pick (eqb k 4) And Butnot)

-- the cell that a word stands for. It asks nothing of the fields that a kind does not use, and kind 7, which is no kind, reads as low: whoever takes words
-- that we did not pack has to refuse those that are not `word` of what they read as.
unfoldable pub cell_in : ℕ → Cell
cell_in w =
    pick (eqb (w % 8) 1) High
    (pick (eqb (w % 8) 2) (Input (signal_no (first_of w)))
    (pick (is_gate_kind (w % 8)) (Gate (gate_in (w % 8)) (cell_no (first_of w)) (cell_no (second_of w)))
    (pick (eqb (w % 8) 6) (Register (cell_no (first_of w))) Low)))

-- the cells of a column of words
abbrev pub cells_of : List ℕ → List Cell
cells_of words = map cell_in words
