-- States: what a reaction does, which states fit, and which are at rest.
use Rattle.std.specs.Prelude.{◌≡◌, Bool, true, false, not, ◌&&◌, ◌||◌, ℕ, zero, suc, ◌-◌, ◌<◌}
use Rattle.limits.specs.Limits.{max_halts}
use Rattle.bits.specs.Bits.{boot, halt_bit, no_bits}
use Rattle.number.specs.declared.SignalNo.{SignalNo}
use Rattle.number.specs.Counts.{signal_no, of_signal, halt_no}
use Rattle.number.specs.Number.{pick}
use Rattle.sheet.specs.declared.Binary.TheVariants.{Sequence, Present, Parallel}
use Rattle.sheet.specs.Stmt.{Stmt, leaf, one, two, halt_count}
use Rattle.sheet.specs.Read.{only}
use Rattle.sets.specs.Codes.{empty}
use Rattle.sets.specs.Static.{K, R}
use Rattle.rules.specs.Rules.{Signals, Halts, Outcome, idle, start, active, resume}

-- "A state is 64 bits: bit 0 boot, bit 1+h halt h.": a state is the set of the bits that are on
abbrev pub State : Type 0
State = ℕ → Bool

abbrev pub halts_of : State → Halts
halts_of S h = S (halt_bit h)

-- "Fresh is 0."
abbrev pub fresh : State
fresh = empty

-- "Boot off starts the root; boot on resumes it, or does nothing if no halt is set."
unfoldable pub react : Signals → State → Stmt → Outcome
unfolding start active resume pick
react E S t = pick (S boot) (pick (active (halts_of S) t) (resume E (halts_of S) t) idle) (start E t)

-- "The next state has boot on."
abbrev pub next_state : Outcome → State
next_state o zero = true
next_state o (suc h) = o.halts (halt_no h)

abbrev pub tick : SignalNo
tick = signal_no 0

-- an event's inputs are signals 1 to I
pub record Event (I : ℕ) (J : Signals) : Type 0 where
  pub no_tick : J tick ≡ false
  pub own : (s : SignalNo) → I < of_signal s → J s ≡ false

-- "E agrees with the rules when it holds exactly tick, the event's inputs and the emissions."
abbrev pub Agrees : Signals → State → Signals → Stmt → Type 0
Agrees J S E t = (s : SignalNo) → E s ≡ ((only tick s || J s) || (react E S t).emits s)

-- q may stand ended while the other side of a parallel goes on: it "has 0 in K or R"
abbrev pub may_end : Stmt → Bool
may_end q = K q 0 || R q 0

-- "no sequence or present has halts on both sides; where one side alone of a parallel has halts, the other has 0 in K or R"
unfoldable pub apart : Halts → Stmt → Bool
unfolding active K R
apart H (leaf l) = true
apart H (one u p) = apart H p
apart H (two Sequence p q) = not (active H p && active H q) && (apart H p && apart H q)
apart H (two (Present s) p q) = not (active H p && active H q) && (apart H p && apart H q)
apart H (two Parallel p q) =
    (not (active H p) || (active H q || may_end q)) && ((not (active H q) || (active H p || may_end p)) && (apart H p && apart H q))

-- no halt from number h on is set
abbrev pub no_halts_from : ℕ → State → Bool
no_halts_from h S = no_bits (max_halts - h) (halt_bit (halt_no h)) S

-- "A state fits when: boot off means 0; only existing halts are set; .."
unfoldable pub fits : State → Stmt → Bool
unfolding no_bits halt_count apart pick
fits S t = pick (S boot) (no_halts_from (halt_count t) S && apart (halts_of S) t) (no_halts_from 0 S)

-- "At rest shall mean: boot on and no halt set. Fresh is not at rest."
unfoldable pub at_rest : State → Bool
unfolding no_bits
at_rest S = S boot && no_halts_from 0 S
