-- Not to be believed: what the code keeps to; the proofs check it.
-- The walk over the rows: what it asks for, and that it builds whichever statement stands there.
use Rattle.std.specs.Prelude.{◌≡◌, List, ℕ, ◌+◌, ◌*◌, ◌<◌, length}
use Rattle.number.specs.Counts.{of_stmt}
use Rattle.number.specs.declared.StmtNo.{StmtNo}
use Rattle.number.specs.declared.HaltNo.{HaltNo}
use Rattle.limits.specs.Limits.{max_signals}
use Rattle.sheet.specs.Stmt.{Stmt, leaf, one, two, size}
use Rattle.sheet.specs.Rows.{stmt_span, Holds}
use Rattle.sets.specs.Words.{Low, Kept}
use Rattle.parts.specs.Equations.{build}
use Rattle.gates.specs.declared.Column.{Column}
use Rattle.parts.specs.declared.Wires.{Wires}
use Rattle.parts.specs.declared.Returned.{Returned}
use Rattle.parts.specs.Contract.{nets, own_cells, Builds, LeafNamed, UnaryNamed, BinaryNamed}
use Rattle.sets.specs.declared.Entry.{Entry}
use Rattle.sheet.specs.declared.Row.{Row}

-- the signals that a statement and its parts name have a list, and a cell
unfoldable pub Named : Stmt → Type 0
Named (leaf l) = LeafNamed l
Named (one u p) = UnaryNamed u × Named p
Named (two b p q) = BinaryNamed b × Named p × Named q

-- what the code asks of a statement with the number n: its exits' levels are codes, its signals are named so, and K and R stand in their column
pub record InShape (ms : List Entry) (n : StmtNo) (t : Stmt) : Type 0 where
  pub low : Low t
  pub named : Named t
  pub kept : Kept ms n t

-- some statement stands at row n, there is a list for each signal, and the cells can be counted
pub record Buildable (rows : List Row) (ms : List Entry) (ls : List ℕ) (n : StmtNo) (count : ℕ) : Type 0 where
  pub first : HaltNo
  pub stmt : Stmt
  pub holds : Holds rows n first stmt
  pub small : of_stmt n + size stmt < stmt_span
  pub fit : InShape ms n stmt
  pub lists : length ls ≡ max_signals
  pub room : count + own_cells * size stmt < 65536

-- what the walk is to build: the rows and the static sets, the statement's number, what the statement takes, and the columns before it
pub record Task : Type 0 where
  pub rows : List Row
  pub statics : List Entry
  pub stmt : StmtNo
  pub wires : Wires
  pub column : Column
  pub lists : List ℕ

-- what the builder ensures of whichever statement stands there
pub record Does (w : Task) (column' : Column) (lists' : List ℕ) (b : Returned) : Type 0 where
  pub same : column'.cells.ghost_name ≡ w.column.cells.ghost_name
  pub does : (a : HaltNo) (t : Stmt) → Holds w.rows w.stmt a t → InShape w.statics w.stmt t
      → Builds (build t w.column.count w.wires.go w.wires.res w.wires.kill (nets w.lists)) w.column column' lists' b
