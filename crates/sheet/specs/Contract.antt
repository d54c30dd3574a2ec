-- Not to be believed: what the code keeps to; the proofs check it.
-- What the reader answers, and the rows that it writes, by the definitions of reading.
use Rattle.std.specs.Prelude.{◌≡◌, List, ◌<◌, set, Result, Ok, Err}
use Rattle.bits.specs.Bits.{signals_in, whole}
use Rattle.number.specs.declared.StmtNo.{StmtNo}
use Rattle.number.specs.declared.HaltNo.{HaltNo}
use Rattle.number.specs.Counts.{of_signal, halt_no, stmt_no, of_stmt}
use Rattle.limits.specs.Limits.{max_signals}
use Rattle.sheet.specs.declared.Head.{Head}
use Rattle.sheet.specs.declared.Row.{Row}
use Rattle.sheet.specs.declared.Marks.{Marks}
use Rattle.sheet.specs.declared.Env.{Env}
use Rattle.sheet.specs.declared.Unary.{Unary}
use Rattle.sheet.specs.declared.Unary.TheVariants.{Loop, Watching, Trap, Signal}
use Rattle.sheet.specs.Stmt.{size}
use Rattle.sheet.specs.Read.{Around, Outcome, got, refused, further, SheetOutcome, sheet, faulty}
use Rattle.sheet.specs.Rows.{lay}
use Rattle.sheet.specs.Answer.{sheet_answer}
use Rattle.number.specs.declared.Fault.{Fault}
use Rattle.sheet.specs.declared.Counts.{Counts}

-- what the code's record of the surroundings means
abbrev pub around : Env → Around
around e = record { inputs = e.inputs; traps = e.traps; scope = signals_in (whole e.scope) }

-- a signal statement declares a number that a scope can hold
abbrev pub LocalFits : Unary → Type 0
LocalFits Loop = Unit
LocalFits (Watching x) = Unit
LocalFits Trap = Unit
LocalFits (Signal x) = of_signal x < max_signals

-- a statement that was read ends at the number past it
unfoldable pub stmt_answer : StmtNo → Outcome → Result (StmtNo × Marks) Fault
stmt_answer n (got t m) = Ok (further n (size t), m)
stmt_answer n (refused f) = Err f

-- its rows are put in; after a refusal nothing is said of them
unfoldable pub Laid : StmtNo → HaltNo → Outcome → List Row → List Row → Type 0
unfolding lay
Laid n a (got t m) before after = after ≡ lay before n a t
Laid n a (refused f) before after = Unit

pub record DidStmt (n : StmtNo) (a : HaltNo) (o : Outcome) (r : Result (StmtNo × Marks) Fault) (before after : List Row) : Type 0 where
  pub answer : r ≡ stmt_answer n o
  pub rows : Laid n a o before after

-- one row was written
pub record Noted (n : StmtNo) (h : Head) (m : Marks) (end : StmtNo) (m' : Marks) (r : StmtNo × Marks) (before after : List Row) : Type 0 where
  pub answer : r ≡ (end, m')
  pub row : after ≡ set before (of_stmt n) (record { head = h; end = end; first = m.halts; past = m'.halts })

-- the same of a sheet
unfoldable pub SheetLaid : SheetOutcome → List Row → List Row → Type 0
unfolding lay
SheetLaid (sheet w) before after = after ≡ lay before (stmt_no 0) (halt_no 0) w.root
SheetLaid (faulty f) before after = Unit

pub record DidSheet (o : SheetOutcome) (r : Result Counts Fault) (before after : List Row) : Type 0 where
  pub answer : r ≡ sheet_answer o
  pub rows : SheetLaid o before after
