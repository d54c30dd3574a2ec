-- The whole check of a sheet: "the first fault answers: .. Then EXTRA, 9, 10, 11, 12".
use Rattle.std.specs.Prelude.{◌≡◌, List, ℕ, length, Option, Some, None}
use Rattle.number.specs.declared.CellNo.{CellNo}
use Rattle.number.specs.declared.Fault.{Fault}
use Rattle.number.specs.declared.Refusal.{Refusal}
use Rattle.number.specs.declared.Refusal.TheVariants.{Instant, Twice, Room, Cycle}
use Rattle.number.specs.Counts.{stmt_no, of_stmt, of_cell}
use Rattle.number.specs.Number.{pick}
use Rattle.number.specs.Refusals.{fault}
use Rattle.limits.specs.Limits.{many_cells}
use Rattle.sheet.specs.Read.{Sheet, SheetOutcome, sheet, faulty, read_sheet}
use Rattle.sets.specs.Faults.{instant, twice}
use Rattle.builder.specs.Netlist.{netlist, sheet_netlist}
use Rattle.order.specs.Paths.{Lowest, Ordered}
use Rattle.number.specs.declared.StmtNo.{StmtNo}

-- a statement at fault answers, and otherwise the check goes on
unfoldable pub unless : Refusal → Option StmtNo → SheetOutcome → SheetOutcome
unless x (Some n) o = faulty (fault x (of_stmt n))
unless x None o = o

-- "ROOM: over 1,024 cells", place 0
unfoldable pub roomy : Sheet → SheetOutcome
unfolding pick netlist
roomy w = pick (many_cells (length (sheet_netlist w))) (faulty (fault Room 0)) (sheet w)

-- "INSTANT", "first such loop's number"; "TWICE", "first such X"; ROOM
unfoldable pub judged : SheetOutcome → SheetOutcome
unfolding unless instant twice roomy
judged (faulty f) = faulty f
judged (sheet w) = unless Instant (instant (stmt_no 0) w.root) (unless Twice (twice (stmt_no 0) w.root) (roomy w))

-- the faults 1 to 11
unfoldable pub judge : List ℕ → SheetOutcome
unfolding judged read_sheet
judge s = judged (read_sheet s)

-- What the check answers: those faults first, then CYCLE at the "lowest cell on one"; a sheet whose cells stand in an order, each after those that it needs, is
-- accepted. Cells in an order have no cycle, so that there is one answer at most (`one_check`), and the compiler finds it for every sheet.
pub data Checks (s : List ℕ) : SheetOutcome → Type 0 where
  refused : {f : Fault} → judge s ≡ faulty f → Checks s (faulty f)
  cyclic : {w : Sheet} {x : CellNo} → judge s ≡ sheet w → Lowest (sheet_netlist w) x → Checks s (faulty (fault Cycle (of_cell x)))
  accepted : {w : Sheet} (order : List ℕ) → judge s ≡ sheet w → Ordered (sheet_netlist w) order → Checks s (sheet w)

-- "0 is acceptance": these bytes are accepted, as the sheet w
abbrev pub Accepted : List ℕ → Sheet → Type 0
Accepted s w = Checks s (sheet w)
