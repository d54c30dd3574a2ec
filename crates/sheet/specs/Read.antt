-- Reading a sheet: "A sheet is read left to right and the first fault answers: at a statement, COUNT for its number, then its level; then
-- its kind is read, KIND, COUNT for halts, signals, traps; then the operand is read, SCOPE, EMIT, EXIT. Header COUNT follows both numbers.
-- Then EXTRA".
use Rattle.std.specs.Prelude.{Bool, ◌||◌, List, ℕ, zero, suc, ◌+◌, ltb, leb, eqb, length, Result, Ok, Err}
use Rattle.number.specs.declared.SignalNo.{SignalNo}
use Rattle.number.specs.declared.StmtNo.{StmtNo}
use Rattle.number.specs.declared.Fault.{Fault}
use Rattle.number.specs.declared.Refusal.TheVariants.{Kind, Count, Scope, Emit as EmitFault, Exit as ExitFault, Extra}
use Rattle.number.specs.Counts.{signal_no, of_signal, halt_no, of_halt, stmt_no, of_stmt}
use Rattle.number.specs.Refusals.{fault}
use Rattle.number.specs.Number.{number_at, pick}
use Rattle.limits.specs.Limits.{max_statements, max_level, max_halts, max_signals, max_traps, many_signals}
use Rattle.sheet.specs.declared.Leaf.TheVariants.{Nothing, Halt, Emit, Exit}
use Rattle.sheet.specs.declared.Unary.{Unary}
use Rattle.sheet.specs.declared.Unary.TheVariants.{Loop, Watching, Trap, Signal}
use Rattle.sheet.specs.declared.Binary.TheVariants.{Sequence, Present, Parallel}
use Rattle.sheet.specs.declared.Head.{Head}
use Rattle.sheet.specs.declared.Head.TheVariants.{Zero, One, Two}
use Rattle.sheet.specs.declared.Marks.{Marks}
use Rattle.sheet.specs.Stmt.{Stmt, leaf, one, two, size}
use Rattle.number.specs.declared.Cursor.{Cursor}

-- what holds around a statement: the number of inputs, of the traps around it, and the signals that may be named there
pub record Around : Type 0 where
  pub inputs : ℕ
  pub traps : ℕ
  pub scope : SignalNo → Bool

-- the marks past a number: only the offset moves
abbrev pub past : Marks → ℕ → Marks
past m at = record { at = at; halts = m.halts; signals = m.signals }

-- "the operand is read, SCOPE": SCOPE is "no such signal here", at the "operand's offset"
unfoldable pub signal_of : Around → Marks → Result (ℕ × Cursor) Fault → Result (SignalNo × Marks) Fault
unfolding pick
signal_of e m (Err f) = Err f
signal_of e m (Ok (v, c)) = pick (e.scope (signal_no v)) (Ok (signal_no v, past m c.at)) (Err (fault Scope m.at))

abbrev pub signal_at : List ℕ → Around → Marks → Result (SignalNo × Marks) Fault
signal_at s e m = signal_of e m (number_at s m.at)

-- the head that a signal makes
unfoldable pub naming : (SignalNo → Head) → Result (SignalNo × Marks) Fault → Result (Head × Marks) Fault
naming f (Err x) = Err x
naming f (Ok (x, m)) = Ok (f x, m)

-- "EMIT: tick or an input", at the operand
unfoldable pub emitting : Around → ℕ → Result (SignalNo × Marks) Fault → Result (Head × Marks) Fault
unfolding pick
emitting e place (Err f) = Err f
emitting e place (Ok (x, m)) = pick (leb (of_signal x) e.inputs) (Err (fault EmitFault place)) (Ok (Zero (Emit x), m))

-- "EXIT: level not 2..1+d", at the operand
unfoldable pub exiting : Around → Marks → Result (ℕ × Cursor) Fault → Result (Head × Marks) Fault
unfolding pick
exiting e m (Err f) = Err f
exiting e m (Ok (k, c)) =
    pick (ltb k 2) (Err (fault ExitFault m.at))
    (pick (ltb (1 + e.traps) k) (Err (fault ExitFault m.at)) (Ok (Zero (Exit k), past m c.at)))

-- "Halts .. are numbered from 0 in reading order", "63 halts": COUNT at the kind
unfoldable pub halt_at : ℕ → Marks → Result (Head × Marks) Fault
unfolding pick
halt_at place m =
    pick (leb max_halts (of_halt m.halts)) (Err (fault Count place))
    (Ok (Zero (Halt m.halts), record { at = m.at; halts = halt_no (of_halt m.halts + 1); signals = m.signals }))

-- "each statement 10 declares the next number", "64 signals with tick": COUNT at the kind
unfoldable pub local_at : ℕ → Marks → Result (Head × Marks) Fault
unfolding pick
local_at place m =
    pick (leb max_signals (of_signal m.signals)) (Err (fault Count place))
    (Ok (One (Signal m.signals), record { at = m.at; halts = m.halts; signals = signal_no (of_signal m.signals + 1) }))

-- "8 traps one in another": COUNT at the kind
unfoldable pub trap_at : ℕ → Around → Marks → Result (Head × Marks) Fault
unfolding pick
trap_at place e m = pick (leb max_traps e.traps) (Err (fault Count place)) (Ok (One Trap, m))

-- the eleven kinds, "KIND: over 10"; m is past the kind, which was read at `place`
unfoldable pub of_kind : List ℕ → Around → ℕ → Marks → ℕ → Result (Head × Marks) Fault
unfolding pick
of_kind s e place m k =
    pick (eqb k 0) (Ok (Zero Nothing, m))
    (pick (eqb k 1) (halt_at place m)
    (pick (eqb k 2) (emitting e m.at (signal_at s e m))
    (pick (eqb k 3) (Ok (Two Sequence, m))
    (pick (eqb k 4) (Ok (One Loop, m))
    (pick (eqb k 5) (naming (λ x. Two (Present x)) (signal_at s e m))
    (pick (eqb k 6) (naming (λ x. One (Watching x)) (signal_at s e m))
    (pick (eqb k 7) (Ok (Two Parallel, m))
    (pick (eqb k 8) (trap_at place e m)
    (pick (eqb k 9) (exiting e m (number_at s m.at))
    (pick (eqb k 10) (local_at place m)
    (Err (fault Kind place))))))))))))

-- a statement's kind and operand
unfoldable pub head_of_kind : List ℕ → Around → Marks → Result (ℕ × Cursor) Fault → Result (Head × Marks) Fault
head_of_kind s e m (Err f) = Err f
head_of_kind s e m (Ok (k, c)) = of_kind s e m.at (past m c.at) k

abbrev pub head_at : List ℕ → Around → Marks → Result (Head × Marks) Fault
head_at s e m = head_of_kind s e m (number_at s m.at)

-- the set of the signal x alone
abbrev pub only : SignalNo → SignalNo → Bool
only x y = eqb (of_signal y) (of_signal x)

-- what holds inside a statement with one part: one trap more, or "the next number, usable in its own p only"
unfoldable pub inside : Around → Unary → Around
inside e Loop = e
inside e (Watching x) = e
inside e Trap = record { inputs = e.inputs; traps = e.traps + 1; scope = e.scope }
inside e (Signal x) = record { inputs = e.inputs; traps = e.traps; scope = λ y. e.scope y || only x y }

pub data Outcome : Type 0 where
  got : Stmt → Marks → Outcome
  refused : Fault → Outcome

-- go on after a part, or stop at its fault
unfoldable pub and_then : Outcome → (Stmt → Marks → Outcome) → Outcome
and_then (got t m) f = f t m
and_then (refused x) f = refused x

-- the number k further on
abbrev pub further : StmtNo → ℕ → StmtNo
further n k = stmt_no (of_stmt n + k)

-- a statement's reader, given what holds there, its number and the marks
abbrev pub Reader : Type 0
Reader = Around → StmtNo → Marks → Outcome

-- the parts of a statement whose head was read, by a reader of one level less
unfoldable pub parts : Reader → Around → StmtNo → Result (Head × Marks) Fault → Outcome
unfolding and_then
parts sub e n (Err f) = refused f
parts sub e n (Ok (Zero l, m)) = got (leaf l) m
parts sub e n (Ok (One u, m)) = and_then (sub (inside e u) (further n 1) m) λ p m1. got (one u p) m1
parts sub e n (Ok (Two b, m)) =
    and_then (sub e (further n 1) m) λ p m1. and_then (sub e (further n (1 + size p)) m1) λ q m2. got (two b p q) m2

-- statement number n, where `left` levels are left: "COUNT for its number, then its level", "256 statements". Both are COUNT where the
-- statement would begin, so it does not show that the level is asked first
unfoldable pub read_stmt : ℕ → List ℕ → Reader
unfolding parts pick
read_stmt zero s e n m = refused (fault Count m.at)
read_stmt (suc left) s e n m =
    pick (leb max_statements (of_stmt n)) (refused (fault Count m.at))
    (parts (λ e1 n1 m1. read_stmt left s e1 n1 m1) e n (head_at s e m))

-- a sheet that was read: I, O and the statement
pub record Sheet : Type 0 where
  pub inputs : ℕ
  pub outputs : ℕ
  pub root : Stmt

pub data SheetOutcome : Type 0 where
  sheet : Sheet → SheetOutcome
  faulty : Fault → SheetOutcome

-- "Signal 0 is tick, then I inputs, O outputs": these may be named at the root
abbrev pub root_around : ℕ → ℕ → Around
root_around i o = record { inputs = i; traps = 0; scope = λ x. ltb (of_signal x) (1 + i + o) }

abbrev pub root_marks : ℕ → ℕ → ℕ → Marks
root_marks at i o = record { at = at; halts = halt_no 0; signals = signal_no (1 + i + o) }

-- "EXTRA bytes", at the "first one"
unfoldable pub ended : List ℕ → ℕ → ℕ → Outcome → SheetOutcome
unfolding pick
ended s i o (refused f) = faulty f
ended s i o (got t m) =
    pick (ltb m.at (length s)) (faulty (fault Extra m.at)) (sheet (record { inputs = i; outputs = o; root = t }))

unfoldable pub root_read : List ℕ → ℕ → ℕ → ℕ → SheetOutcome
unfolding ended
root_read s i o at = ended s i o (read_stmt max_level s (root_around i o) (stmt_no 0) (root_marks at i o))

-- "Header COUNT follows both numbers", at the "offset of second header number"
unfoldable pub after_outputs : List ℕ → ℕ → ℕ → Result (ℕ × Cursor) Fault → SheetOutcome
unfolding root_read pick
after_outputs s i at (Err f) = faulty f
after_outputs s i at (Ok (o, c)) = pick (many_signals i o) (faulty (fault Count at)) (root_read s i o c.at)

unfoldable pub after_inputs : List ℕ → Result (ℕ × Cursor) Fault → SheetOutcome
unfolding after_outputs
after_inputs s (Err f) = faulty f
after_inputs s (Ok (i, c)) = after_outputs s i c.at (number_at s c.at)

-- "A sheet is: number of inputs I, of outputs O, one statement."
unfoldable pub read_sheet : List ℕ → SheetOutcome
unfolding after_inputs
read_sheet s = after_inputs s (number_at s 0)
