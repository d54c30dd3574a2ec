-- "Reaction rules": "E is the set of present signals. A statement yields emissions, a code and halts."
use Rattle.std.specs.Prelude.{Bool, false, ◌||◌, ℕ, zero, suc, eqb}
use Rattle.number.specs.declared.SignalNo.{SignalNo}
use Rattle.number.specs.declared.HaltNo.{HaltNo}
use Rattle.number.specs.Counts.{of_halt}
use Rattle.number.specs.Number.{pick}
use Rattle.sheet.specs.declared.Leaf.TheVariants.{Nothing, Halt, Emit, Exit}
use Rattle.sheet.specs.declared.Unary.TheVariants.{Loop, Watching, Trap, Signal}
use Rattle.sheet.specs.declared.Binary.TheVariants.{Sequence, Present, Parallel}
use Rattle.sheet.specs.Stmt.{Stmt, leaf, one, two}
use Rattle.sheet.specs.Read.{only}
use Rattle.sets.specs.Codes.{empty, join, larger, caught}

abbrev pub Signals : Type 0
Signals = SignalNo → Bool

abbrev pub Halts : Type 0
Halts = HaltNo → Bool

-- the set of the halt h alone
abbrev pub only_halt : HaltNo → Halts
only_halt h k = eqb (of_halt k) (of_halt h)

pub record Outcome : Type 0 where
  pub emits : Signals
  pub code : ℕ
  pub halts : Halts

-- ended with nothing done: "nothing: code 0", "another side counts as 0", "gives 0 and nothing more"
abbrev pub idle : Outcome
idle = record { emits = empty; code = 0; halts = empty }

-- "if p gives 0, q is started too, emissions joined, q's code"
abbrev pub then_on : ℕ → Outcome → Outcome → Outcome
then_on zero a b = record { emits = join a.emits b.emits; code = b.code; halts = b.halts }
then_on (suc k) a b = a

abbrev pub followed : Outcome → Outcome → Outcome
followed a b = then_on a.code a b

-- "halts joined if that code is at most 1, else none"
abbrev pub kept : ℕ → Halts → Halts
kept zero H = H
kept (suc zero) H = H
kept (suc (suc k)) H = empty

-- "Parallel: emissions joined, the larger code"
abbrev pub beside : Outcome → Outcome → Outcome
beside a b =
    record {
      emits = join a.emits b.emits;
      code = larger a.code b.code;
      halts = kept (larger a.code b.code) (join a.halts b.halts);
    }

-- "Trap: code 0 or 2 becomes 0, 1 stays, larger codes fall by one."
abbrev pub trapped : Outcome → Outcome
trapped a = record { emits = a.emits; code = caught a.code; halts = a.halts }

-- "Started. nothing: code 0. halt: 1 and its own number. emit: its signal, 0. exit: k. Sequence: p; if p gives 0, q is started too, emissions joined,
-- q's code. Loop, signal, watching: as p. Present: p if s is in E, else q. Parallel: .. Trap: .."
unfoldable pub start : Signals → Stmt → Outcome
unfolding pick
start E (leaf Nothing) = idle
start E (leaf (Halt h)) = record { emits = empty; code = 1; halts = only_halt h }
start E (leaf (Emit s)) = record { emits = only s; code = 0; halts = empty }
start E (leaf (Exit k)) = record { emits = empty; code = k; halts = empty }
start E (two Sequence p q) = followed (start E p) (start E q)
start E (one Loop p) = start E p
start E (one (Signal s) p) = start E p
start E (one (Watching s) p) = start E p
start E (two (Present s) p q) = pick (E s) (start E p) (start E q)
start E (two Parallel p q) = beside (start E p) (start E q)
start E (one Trap p) = trapped (start E p)

-- "one of the state's halts lies inside"
unfoldable pub active : Halts → Stmt → Bool
active H (leaf Nothing) = false
active H (leaf (Halt h)) = H h
active H (leaf (Emit s)) = false
active H (leaf (Exit k)) = false
active H (one u p) = active H p
active H (two b p q) = active H p || active H q

-- "Resumed (only where one of the state's halts lies inside). halt: as started. Sequence and present: the side with halts; a sequence whose left
-- gives 0 starts its right. Loop: p; on 0, p is started, emissions joined. Watching: s in E gives 0 and nothing more; else p resumed. Parallel: sides
-- with halts resumed, another side counts as 0. Trap, signal: as above." Where both sides of a sequence or present have halts, which no state that
-- fits has, the left one counts.
unfoldable pub resume : Signals → Halts → Stmt → Outcome
unfolding start active pick
resume E H (leaf Nothing) = idle
resume E H (leaf (Halt h)) = record { emits = empty; code = 1; halts = only_halt h }
resume E H (leaf (Emit s)) = idle
resume E H (leaf (Exit k)) = idle
resume E H (two Sequence p q) = pick (active H p) (followed (resume E H p) (start E q)) (resume E H q)
resume E H (two (Present s) p q) = pick (active H p) (resume E H p) (resume E H q)
resume E H (one Loop p) = followed (resume E H p) (start E p)
resume E H (one (Watching s) p) = pick (E s) idle (resume E H p)
resume E H (two Parallel p q) = beside (pick (active H p) (resume E H p) idle) (pick (active H q) (resume E H q) idle)
resume E H (one Trap p) = trapped (resume E H p)
resume E H (one (Signal s) p) = resume E H p
