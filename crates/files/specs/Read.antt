-- Reading a netlist file: "header numbers one by one, each checked before the next is read (1+I+O over 64 or over 1,024 cells: COUNT, the latter at the
-- count's offset; then CELL), cells in order (over 64 registers: COUNT at the kind; kind's place, then operands), EXTRA, 12". CYCLE, 12, is judged of the
-- cells in either form, in `netlists`.
use Rattle.std.specs.Prelude.{Bool, ◌||◌, List, [], ◌∷◌, ℕ, zero, suc, ltb, eqb, length, Result, Ok, Err}
use Rattle.number.specs.declared.CellNo.{CellNo}
use Rattle.number.specs.declared.Cursor.{Cursor}
use Rattle.number.specs.declared.Fault.{Fault}
use Rattle.number.specs.declared.Refusal.TheVariants.{Count, Extra, Cell as CellFault}
use Rattle.number.specs.Counts.{cell_no, of_cell, signal_no}
use Rattle.number.specs.Number.{pick, cursor, number_at}
use Rattle.number.specs.Refusals.{fault}
use Rattle.limits.specs.Limits.{many_signals}
use Rattle.cells.specs.declared.Gate as gate
use Rattle.cells.specs.declared.Gate.TheVariants.{Or, And, Butnot}
use Rattle.cells.specs.declared.Cell.{Cell}
use Rattle.cells.specs.declared.Cell.TheVariants.{Low, High, Input, Gate, Register}
use Rattle.cells.specs.Cells.{signal_cell, next_cell}
use Rattle.cells.specs.Words.{gate_in}
use Rattle.cells.specs.Values.{tally}
use Rattle.cells.specs.Netlist.{Netlist}
use Rattle.files.specs.File.{truth_table}
use Rattle.files.specs.Judge.{judge_count, file_kinds, judge_kind}
use Rattle.number.specs.declared.Refusal.{Refusal}

-- an operand of one of m cells: "operand not a cell" is CELL at the offset of the operand
unfoldable pub net_of : ℕ → ℕ → Result (ℕ × Cursor) Fault → Result (CellNo × Cursor) Fault
net_of m at (Err f) = Err f
net_of m at (Ok (v, c)) = pick (ltb v m) (Ok (cell_no v, c)) (Err (fault CellFault at))

abbrev pub net_at : List ℕ → ℕ → ℕ → Result (CellNo × Cursor) Fault
net_at s m at = net_of m at (number_at s at)

-- two operands, the first judged before the second is read
unfoldable pub with_second : CellNo → Result (CellNo × Cursor) Fault → Result (CellNo × CellNo × Cursor) Fault
with_second x (Err f) = Err f
with_second x (Ok (y, c)) = Ok (x, y, c)

unfoldable pub pair_of : List ℕ → ℕ → Result (CellNo × Cursor) Fault → Result (CellNo × CellNo × Cursor) Fault
pair_of s m (Err f) = Err f
pair_of s m (Ok (x, c)) = with_second x (net_at s m c.at)

abbrev pub pair_at : List ℕ → ℕ → ℕ → Result (CellNo × CellNo × Cursor) Fault
pair_at s m at = pair_of s m (net_at s m at)

-- "2 input s": "cells 2..I+1 inputs, cell 1+s is signal s", and another signal is CELL at the operand
unfoldable pub input_of : CellNo → ℕ → Result (ℕ × Cursor) Fault → Result (Cell × Cursor) Fault
input_of x at (Err f) = Err f
input_of x at (Ok (v, c)) = pick (eqb (of_cell (signal_cell (signal_no v))) (of_cell x)) (Ok (Input (signal_no v), c)) (Err (fault CellFault at))

unfoldable pub gate_of : gate.Gate → Result (CellNo × CellNo × Cursor) Fault → Result (Cell × Cursor) Fault
gate_of g (Err f) = Err f
gate_of g (Ok (x, y, c)) = Ok (Gate g x y, c)

-- "truth table 14, 8 or 2": whether it is one of the three, and of which gate
abbrev pub is_truth_table : ℕ → Bool
is_truth_table t = eqb t (truth_table Or) || (eqb t (truth_table And) || eqb t (truth_table Butnot))

abbrev pub gate_with : ℕ → gate.Gate
gate_with t = pick (eqb t (truth_table Or)) Or (pick (eqb t (truth_table And)) And Butnot)

-- "the truth table is read as a number .. and judged (CELL there), then the operands"
unfoldable pub table_of : List ℕ → ℕ → ℕ → Result (ℕ × Cursor) Fault → Result (Cell × Cursor) Fault
table_of s m at (Err f) = Err f
table_of s m at (Ok (t, c)) = pick (is_truth_table t) (gate_of (gate_with t) (pair_at s m c.at)) (Err (fault CellFault at))

-- "6 register x"
unfoldable pub register_of : Result (CellNo × Cursor) Fault → Result (Cell × Cursor) Fault
register_of (Err f) = Err f
register_of (Ok (x, c)) = Ok (Register x, c)

-- the operands that kind k, at most 7, has: "3 or x y; 4 and x y; 5 butnot x y" as before
unfoldable pub operands_at : List ℕ → ℕ → CellNo → ℕ → ℕ → Result (Cell × Cursor) Fault
operands_at s m x at k =
    pick (eqb k 0) (Ok (Low, cursor at))
    (pick (eqb k 1) (Ok (High, cursor at))
    (pick (eqb k 2) (input_of x at (number_at s at))
    (pick (eqb k 6) (register_of (net_at s m at))
    (pick (eqb k 7) (table_of s m at (number_at s at)) (gate_of (gate_in k) (pair_at s m at))))))

-- what is wrong with the kind is refused at the kind
unfoldable pub of_kind : List ℕ → ℕ → CellNo → ℕ → ℕ → ℕ → Result (Unit {0}) Refusal → Result (Cell × Cursor) Fault
of_kind s m x place at k (Err r) = Err (fault r place)
of_kind s m x place at k (Ok tt) = operands_at s m x at k

unfoldable pub after_kind : List ℕ → ℕ → ℕ → CellNo → ℕ → ℕ → Result (ℕ × Cursor) Fault → Result (Cell × Cursor) Fault
after_kind s I m x registers at (Err f) = Err f
after_kind s I m x registers at (Ok (k, c)) = of_kind s m x at c.at k (judge_kind file_kinds I x registers k)

-- the cell x, one of m, with so many registers before it
unfoldable pub read_cell : List ℕ → ℕ → ℕ → CellNo → ℕ → ℕ → Result (Cell × Cursor) Fault
read_cell s I m x registers at = after_kind s I m x registers at (number_at s at)

-- cells, and the offset past them
pub data CellsOutcome : Type 0 where
  got : List Cell → ℕ → CellsOutcome
  refused : Fault → CellsOutcome

-- the cell c in front of those after it
unfoldable pub in_front : Cell → CellsOutcome → CellsOutcome
in_front c (got cs at) = got (c ∷ cs) at
in_front c (refused f) = refused f

unfoldable pub and_then : Result (Cell × Cursor) Fault → (Cell → Cursor → CellsOutcome) → CellsOutcome
and_then (Err f) next = refused f
and_then (Ok (c, past)) next = in_front c (next c past)

-- "cells in order": those that are left, from cell x on
unfoldable pub read_cells : ℕ → List ℕ → ℕ → ℕ → CellNo → ℕ → ℕ → CellsOutcome
read_cells zero s I m x registers at = got [] at
read_cells (suc left) s I m x registers at =
    and_then (read_cell s I m x registers at) λ c past. read_cells left s I m (next_cell x) (tally c registers) past.at

pub data FileOutcome : Type 0 where
  netlist : Netlist → FileOutcome
  faulty : Fault → FileOutcome

-- "EXTRA bytes", at the "first one"
unfoldable pub ended : List ℕ → ℕ → ℕ → CellsOutcome → FileOutcome
ended s I O (refused f) = faulty f
ended s I O (got cs at) =
    pick (ltb at (length s)) (faulty (fault Extra at)) (netlist (record { inputs = I; outputs = O; cells = cs }))

unfoldable pub body_at : List ℕ → ℕ → ℕ → ℕ → ℕ → FileOutcome
body_at s I O m at = ended s I O (read_cells m s I m (cell_no 0) 0 at)

-- the cell count, refused where it stands
unfoldable pub counted : List ℕ → ℕ → ℕ → ℕ → ℕ → ℕ → Result (Unit {0}) Refusal → FileOutcome
counted s I O m place at (Err r) = faulty (fault r place)
counted s I O m place at (Ok tt) = body_at s I O m at

unfoldable pub after_count : List ℕ → ℕ → ℕ → ℕ → Result (ℕ × Cursor) Fault → FileOutcome
after_count s I O at (Err f) = faulty f
after_count s I O at (Ok (m, c)) = counted s I O m at c.at (judge_count I O m)

unfoldable pub count_at : List ℕ → ℕ → ℕ → ℕ → FileOutcome
count_at s I O at = after_count s I O at (number_at s at)

-- "1+I+O over 64 ..: COUNT" at the "offset of second header number", before the count is read
unfoldable pub after_outputs : List ℕ → ℕ → ℕ → Result (ℕ × Cursor) Fault → FileOutcome
after_outputs s I at (Err f) = faulty f
after_outputs s I at (Ok (O, c)) = pick (many_signals I O) (faulty (fault Count at)) (count_at s I O c.at)

unfoldable pub after_inputs : List ℕ → Result (ℕ × Cursor) Fault → FileOutcome
after_inputs s (Err f) = faulty f
after_inputs s (Ok (I, c)) = after_outputs s I c.at (number_at s c.at)

-- what the bytes of a file are: a netlist, or a fault of 1 to 8 and 16
unfoldable pub read_file : List ℕ → FileOutcome
read_file s = after_inputs s (number_at s 0)
