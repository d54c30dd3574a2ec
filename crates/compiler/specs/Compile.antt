-- Not to be believed: what the code keeps to; the proofs check it.
-- What the compiler's functions ensure: the answer of the whole check, and what the lent columns hold once a sheet is accepted.
use Rattle.std.specs.Prelude.{◌≡◌, List, map, ℕ, ◌≤◌, length, take, Result, Ok, Err}
use Rattle.std.proofs.lemmas.List.Edits.{sets}
use Rattle.number.specs.declared.CellNo.{CellNo}
use Rattle.number.specs.declared.Refusal.TheVariants.{Cycle}
use Rattle.number.specs.Counts.{stmt_no, halt_no, of_cell}
use Rattle.number.specs.Refusals.{fault}
use Rattle.limits.specs.Limits.{max_statements, max_cells}
use Rattle.sheet.specs.declared.Counts.{Counts}
use Rattle.sheet.specs.Read.{Sheet, SheetOutcome, sheet, faulty}
use Rattle.sheet.specs.Rows.{Holds}
use Rattle.sheet.specs.Form.{Proper}
use Rattle.sheet.specs.Answer.{counts_of}
use Rattle.sets.specs.Words.{Kept}
use Rattle.cells.specs.declared.Cell.{Cell}
use Rattle.cells.specs.Words.{word, cells_of}
use Rattle.builder.specs.Netlist.{netlist, sheet_netlist}
use Rattle.order.specs.Paths.{Lowest, Ordered}
use Rattle.compiler.specs.Check.{judged, Checks}
use Rattle.number.specs.declared.Fault.{Fault}
use Rattle.sets.specs.declared.Entry.{Entry}
use Rattle.sheet.specs.declared.Row.{Row}

-- the rows and the counts are those of the sheet w
pub record ReadAs (rows : List Row) (c : Counts) (w : Sheet) : Type 0 where
  pub proper : Proper w.inputs w.outputs w.root
  pub counts : c ≡ counts_of w
  pub holds : Holds rows (stmt_no 0) (halt_no 0) w.root

pub record SomeRead (rows : List Row) (c : Counts) : Type 0 where
  pub read : Sheet
  pub is : ReadAs rows c read

-- the count of the cells, or the fault
unfoldable pub built_of : SheetOutcome → Result ℕ Fault
unfolding netlist
built_of (sheet w) = Ok (length (sheet_netlist w))
built_of (faulty f) = Err f

-- the faults 9 to 11 of the sheet w; its K and R are entered in any case, its cells are stored where it has none of those faults
pub record Judges (w : Sheet) (r : Result ℕ Fault) (statics' : List Entry) (cells cells' : List ℕ) : Type 0 where
  pub answer : r ≡ built_of (judged (sheet w))
  pub kept : Kept statics' (stmt_no 0) w.root
  pub stored : judged (sheet w) ≡ sheet w → cells' ≡ sets cells 0 (map word (sheet_netlist w))

pub record JudgesRead (rows : List Row) (c : Counts) (r : Result ℕ Fault) (statics' : List Entry) (cells cells' : List ℕ) : Type 0 where
  pub judges : (w : Sheet) → ReadAs rows c w → Judges w r statics' cells cells'

-- CYCLE, or an order
pub data Finishes (cells : List Cell) (c : Counts) : Result (Counts × ℕ) Fault → Type 0 where
  found : {order : List ℕ} → Ordered cells order → Finishes cells c (Ok (c, length cells))
  cycle : {x : CellNo} → Lowest cells x → Finishes cells c (Err (fault Cycle (of_cell x)))

-- the columns lent are long enough for every sheet that is accepted
pub record Lent (rows : List Row) (statics : List Entry) (cells : List ℕ) : Type 0 where
  pub rows_long : max_statements ≤ length rows
  pub statics_long : length rows ≤ length statics
  pub cells_long : max_cells ≤ length cells

-- "0 is acceptance, place 0, with statement and cell counts": the answer in the code's type
unfoldable pub compiled_of : SheetOutcome → Result (Counts × ℕ) Fault
unfolding netlist
compiled_of (sheet w) = Ok (counts_of w, length (sheet_netlist w))
compiled_of (faulty f) = Err f

-- what the columns hold of the sheet w: its rows, its K and R, and its cells
pub record Compiles (w : Sheet) (rows : List Row) (statics : List Entry) (cells : List ℕ) : Type 0 where
  pub holds : Holds rows (stmt_no 0) (halt_no 0) w.root
  pub kept : Kept statics (stmt_no 0) w.root
  pub stored : take (length (sheet_netlist w)) cells ≡ map word (sheet_netlist w)
  pub means : cells_of (take (length (sheet_netlist w)) cells) ≡ sheet_netlist w

pub record DidCompile (s : List ℕ) (r : Result (Counts × ℕ) Fault) (rows : List Row) (statics : List Entry) (cells : List ℕ) : Type 0 where
  pub outcome : SheetOutcome
  pub checks : Checks s outcome
  pub answer : r ≡ compiled_of outcome
  pub columns : (w : Sheet) → outcome ≡ sheet w → Compiles w rows statics cells
