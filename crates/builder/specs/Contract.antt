-- What `build_netlist` ensures: the words of the whole netlist, and its count or ROOM.
use Rattle.std.specs.Prelude.{◌≡◌, List, map, ℕ, ◌+◌, length, Result, Ok, Err}
use Rattle.std.proofs.lemmas.List.Edits.{sets}
use Rattle.number.specs.declared.Refusal.TheVariants.{Room}
use Rattle.number.specs.Counts.{stmt_no, halt_no}
use Rattle.number.specs.Number.{pick}
use Rattle.number.specs.Refusals.{fault}
use Rattle.limits.specs.Limits.{many_cells}
use Rattle.sheet.specs.Stmt.{Stmt, local_count}
use Rattle.sheet.specs.Rows.{Holds}
use Rattle.sheet.specs.Form.{Proper}
use Rattle.sets.specs.Words.{Kept}
use Rattle.cells.specs.declared.Cell.{Cell}
use Rattle.cells.specs.Words.{word}
use Rattle.builder.specs.Netlist.{netlist}
use Rattle.number.specs.declared.Fault.{Fault}
use Rattle.sets.specs.declared.Entry.{Entry}
use Rattle.sheet.specs.declared.Row.{Row}

-- the rows and the column of static sets are those of a sheet with I inputs, O outputs and the statement t, and n signals in all
pub record OfSheet (rows : List Row) (ms : List Entry) (I n O : ℕ) (t : Stmt) : Type 0 where
  pub proper : Proper I O t
  pub signals : n ≡ 1 + I + O + local_count t
  pub holds : Holds rows (stmt_no 0) (halt_no 0) t
  pub kept : Kept ms (stmt_no 0) t

pub record SomeSheet (rows : List Row) (ms : List Entry) (I n : ℕ) : Type 0 where
  pub outputs : ℕ
  pub stmt : Stmt
  pub is : OfSheet rows ms I n outputs stmt

-- "ROOM: over 1,024 cells", place 0
unfoldable pub room_for : ℕ → Result ℕ Fault
unfolding pick
room_for k = pick (many_cells k) (Err (fault Room 0)) (Ok k)

-- What is so of the whole netlist: the answer is its count, and the column has its words, those past the column's end left out.
pub record Whole (cs : List Cell) (l l' : List ℕ) (r : Result ℕ Fault) : Type 0 where
  pub answer : r ≡ room_for (length cs)
  pub stored : l' ≡ sets l 0 (map word cs)

pub record DoesNetlist (rows : List Row) (ms : List Entry) (I n : ℕ) (l l' : List ℕ) (r : Result ℕ Fault) : Type 0 where
  pub does : (O : ℕ) (t : Stmt) → OfSheet rows ms I n O t → Whole (netlist I (O + local_count t) t) l l' r
