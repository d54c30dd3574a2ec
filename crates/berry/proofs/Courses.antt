-- A statement's course, by the set of present signals: its outcome by the paper's rules, the local signals that live, and what it becomes by 004's.
use mathlib.Core.Bool.{Bool, false, ◌&&◌, ◌||◌}
use Prim.Native.Nat.{ℕ, zero, suc}
use Rattle.number.specs.declared.SignalNo.{SignalNo}
use Rattle.number.specs.declared.HaltNo.{HaltNo}
use Rattle.number.specs.Counts.{halt_no}
use Rattle.number.specs.Number.{pick}
use Rattle.bits.specs.Bits.{boot}
use Rattle.sheet.specs.declared.Leaf.TheVariants.{Nothing, Halt, Emit, Exit}
use Rattle.sheet.specs.declared.Unary.TheVariants.{Loop, Watching, Trap, Signal}
use Rattle.sheet.specs.declared.Binary.TheVariants.{Sequence, Present, Parallel}
use Rattle.sheet.specs.Stmt.{Stmt, leaf, one, two}
use Rattle.sheet.specs.Read.{only}
use Rattle.sets.specs.Codes.{same, empty}
use Rattle.rules.specs.Rules.{Signals, Halts, Outcome, idle, only_halt, followed, beside, trapped, start, active, resume}
use Rattle.rules.specs.States.{State, halts_of}
use Rattle.berry.specs.Behaviour.{present_else, unless_ended}
use Rattle.berry.proofs.Lives.{start_lives, resume_lives}

pub record Course : Type 0 where
  pub outcome : Signals → Outcome
  pub becomes : Signals → Stmt
  pub lives : Signals → Signals

-- no signal is asked for, and none lives
abbrev pub steady : Outcome → Stmt → Course
steady o x = record { outcome = λ E. o; becomes = λ E. x; lives = λ E s. false }

abbrev pub ending : Course
ending = steady idle (leaf Nothing)

abbrev pub halting : HaltNo → Course
halting h = steady (record { emits = empty; code = 1; halts = only_halt h }) (leaf (Halt h))

abbrev pub emitting : SignalNo → Course
emitting s = steady (record { emits = only s; code = 0; halts = empty }) (leaf Nothing)

abbrev pub exiting : ℕ → Course
exiting k = steady (record { emits = empty; code = k; halts = empty }) (leaf (Halt (halt_no 0)))

-- a sequence and a trap become this or that by the code of the left, or of the part
abbrev pub after_left : ℕ → Stmt → Stmt → Stmt
after_left zero x y = y
after_left (suc k) x y = x

abbrev pub after_trap : ℕ → Stmt → Stmt
after_trap zero x = leaf Nothing
after_trap (suc zero) x = one Trap x
after_trap (suc (suc zero)) x = leaf Nothing
after_trap (suc (suc (suc k))) x = one Trap x

-- the course b after a, where q stands on the right; both side by side; one of them by a test
abbrev pub then_course : Stmt → Course → Course → Course
then_course q a b =
    record {
      outcome = λ E. followed (a.outcome E) (b.outcome E);
      becomes = λ E. after_left (a.outcome E).code (two Sequence (a.becomes E) q) (b.becomes E);
      lives = λ E s. a.lives E s || (same (a.outcome E).code 0 && b.lives E s);
    }

abbrev pub beside_course : Course → Course → Course
beside_course a b =
    record {
      outcome = λ E. beside (a.outcome E) (b.outcome E);
      becomes = λ E. two Parallel (unless_ended (a.outcome E).code (a.becomes E)) (unless_ended (b.outcome E).code (b.becomes E));
      lives = λ E s. a.lives E s || b.lives E s;
    }

abbrev pub pick_course : (Signals → Bool) → Course → Course → Course
pick_course f a b =
    record {
      outcome = λ E. pick (f E) (a.outcome E) (b.outcome E);
      becomes = λ E. pick (f E) (a.becomes E) (b.becomes E);
      lives = λ E s. pick (f E) (a.lives E s) (b.lives E s);
    }

-- in a loop with the part p, under a guard, in a trap, in a signal statement
abbrev pub loop_course : Stmt → Course → Course
loop_course p a = record { outcome = a.outcome; becomes = λ E. two Sequence (a.becomes E) (one Loop p); lives = a.lives }

abbrev pub watching_course : SignalNo → Course → Course
watching_course s a = record { outcome = a.outcome; becomes = λ E. present_else s (one (Watching s) (a.becomes E)); lives = a.lives }

abbrev pub trap_course : Course → Course
trap_course a =
    record {
      outcome = λ E. trapped (a.outcome E);
      becomes = λ E. after_trap (a.outcome E).code (a.becomes E);
      lives = a.lives;
    }

abbrev pub signal_course : SignalNo → Course → Course
signal_course x a = record { outcome = a.outcome; becomes = λ E. one (Signal x) (a.becomes E); lives = λ E s. only x s || a.lives E s }

-- What t becomes when it is started, and what the statement recovered from H becomes.
unfoldable pub start_becomes : Signals → Stmt → Stmt
unfolding start pick
start_becomes E (leaf Nothing) = leaf Nothing
start_becomes E (leaf (Halt h)) = leaf (Halt h)
start_becomes E (leaf (Emit s)) = leaf Nothing
start_becomes E (leaf (Exit k)) = leaf (Halt (halt_no 0))
start_becomes E (one Loop p) = two Sequence (start_becomes E p) (one Loop p)
start_becomes E (one (Watching s) p) = present_else s (one (Watching s) (start_becomes E p))
start_becomes E (one Trap p) = after_trap (start E p).code (start_becomes E p)
start_becomes E (one (Signal s) p) = one (Signal s) (start_becomes E p)
start_becomes E (two Sequence p q) = after_left (start E p).code (two Sequence (start_becomes E p) q) (start_becomes E q)
start_becomes E (two (Present s) p q) = pick (E s) (start_becomes E p) (start_becomes E q)
start_becomes E (two Parallel p q) =
    two Parallel (unless_ended (start E p).code (start_becomes E p)) (unless_ended (start E q).code (start_becomes E q))

unfoldable pub resume_becomes : Signals → Halts → Stmt → Stmt
unfolding start active resume start_becomes pick
resume_becomes E H (leaf l) = leaf l
resume_becomes E H (one Loop p) =
    after_left (resume E H p).code (two Sequence (resume_becomes E H p) (one Loop p)) (two Sequence (start_becomes E p) (one Loop p))
resume_becomes E H (one (Watching s) p) = pick (E s) (leaf Nothing) (present_else s (one (Watching s) (resume_becomes E H p)))
resume_becomes E H (one Trap p) = after_trap (resume E H p).code (resume_becomes E H p)
resume_becomes E H (one (Signal s) p) = one (Signal s) (resume_becomes E H p)
resume_becomes E H (two Sequence p q) =
    pick (active H p) (after_left (resume E H p).code (two Sequence (resume_becomes E H p) q) (start_becomes E q)) (resume_becomes E H q)
resume_becomes E H (two (Present s) p q) = pick (active H p) (resume_becomes E H p) (resume_becomes E H q)
resume_becomes E H (two Parallel p q) =
    two Parallel
    (unless_ended (pick (active H p) (resume E H p) idle).code (pick (active H p) (resume_becomes E H p) (leaf Nothing)))
    (unless_ended (pick (active H q) (resume E H q) idle).code (pick (active H q) (resume_becomes E H q) (leaf Nothing)))

unfoldable pub start_course : Stmt → Course
unfolding start start_lives start_becomes
start_course t = record { outcome = λ E. start E t; becomes = λ E. start_becomes E t; lives = λ E. start_lives E t }

unfoldable pub resume_course : Halts → Stmt → Course
unfolding resume resume_lives resume_becomes
resume_course H t = record { outcome = λ E. resume E H t; becomes = λ E. resume_becomes E H t; lives = λ E. resume_lives E H t }

-- the course of the reactions from the state S
unfoldable pub react_course : State → Stmt → Course
unfolding start_course resume_course active pick
react_course S t = pick_course (λ E. S boot) (pick_course (λ E. active (halts_of S) t) (resume_course (halts_of S) t) ending) (start_course t)
