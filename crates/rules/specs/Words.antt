-- Not to be believed: what the code keeps to; the proofs check it.
-- How the code keeps signals, halts and states: in sets of bits. "signal s at bit s"; "A state is 64 bits: bit 0 boot, bit 1+h halt h.".
use Rattle.std.specs.Prelude.{◌≡◌, Bool, false, not, ◌&&◌, ◌||◌, List, ℕ, ◌+◌, ◌<◌, ◌≤◌}
use Rattle.limits.specs.Limits.{max_halts}
use Rattle.bits.specs.Bits.{has, signal_bit, boot, halt_bit, signals_in, width, whole}
use Rattle.number.specs.declared.SignalNo.{SignalNo}
use Rattle.number.specs.declared.HaltNo.{HaltNo}
use Rattle.number.specs.declared.StmtNo.{StmtNo}
use Rattle.number.specs.Counts.{halt_no, of_halt, stmt_no, of_stmt}
use Rattle.number.specs.Number.{pick}
use Rattle.sheet.specs.declared.Leaf.{Leaf}
use Rattle.sheet.specs.declared.Leaf.TheVariants.{Nothing, Halt, Emit, Exit}
use Rattle.sheet.specs.declared.Binary.{Binary}
use Rattle.sheet.specs.declared.Binary.TheVariants.{Sequence, Present, Parallel}
use Rattle.sheet.specs.Stmt.{Stmt, leaf, one, two, size, halt_count}
use Rattle.sheet.specs.Rows.{stmt_span, Holds, halts_on}
use Rattle.sets.specs.Words.{Low, Kept}
use Rattle.rules.specs.declared.Yield.{Yield}
use Rattle.rules.specs.Rules.{Signals, Halts, Outcome, idle, start, active, resume}
use Rattle.rules.specs.States.{halts_of, react, next_state, may_end, apart, fits}
use Rattle.sets.specs.declared.Entry.{Entry}
use Rattle.sheet.specs.declared.Row.{Row}

-- the halts in a state
abbrev pub halts_in : ℕ → Halts
halts_in w = halts_of (has w)

-- The sets of a yield mean the outcome o. Its halts stand at the bits that a state has for them, with boot off.
pub record Means (r : Yield) (o : Outcome) : Type 0 where
  pub emits : (s : SignalNo) → has (whole r.emits) (signal_bit s) ≡ o.emits s
  pub code : r.code ≡ o.code
  pub halts : (h : HaltNo) → has (whole r.halts) (halt_bit h) ≡ o.halts h
  pub unbooted : has (whole r.halts) boot ≡ false

-- A statement that can be run in sets of bits: what it emits and where it halts has a bit, and its halts are numbered from a on.
abbrev pub LeafInBits : Leaf → Type 0
LeafInBits Nothing = Unit
LeafInBits (Halt h) = halt_bit h < width
LeafInBits (Emit s) = signal_bit s < width
LeafInBits (Exit k) = Unit

abbrev pub LeafFrom : HaltNo → Leaf → Type 0
LeafFrom a Nothing = Unit
LeafFrom a (Halt h) = h ≡ a
LeafFrom a (Emit s) = Unit
LeafFrom a (Exit k) = Unit

unfoldable pub InBits : HaltNo → Stmt → Type 0
InBits a (leaf l) = LeafInBits l × LeafFrom a l
InBits a (one u p) = InBits a p
InBits a (two b p q) = InBits a p × InBits (halts_on a (halt_count p)) q

-- such a statement stands at row n, its halts among those that a state has bits for
pub record Runnable (rows : List Row) (n : StmtNo) : Type 0 where
  pub first : HaltNo
  pub stmt : Stmt
  pub holds : Holds rows n first stmt
  pub small : of_stmt n + size stmt < stmt_span
  pub bits : InBits first stmt
  pub few : of_halt first + halt_count stmt ≤ max_halts

-- "Resumed (only where one of the state's halts lies inside).": elsewhere nothing is done
abbrev pub resumed : Signals → Halts → Stmt → Outcome
resumed E H t = pick (active H t) (resume E H t) idle

-- What a run of the statement at row n answers, for the set e of present signals and the state w.
pub record Started (rows : List Row) (n : StmtNo) (e : ℕ) (r : Yield) : Type 0 where
  pub means : (a : HaltNo) (t : Stmt) → Holds rows n a t → Means r (start (signals_in e) t)

pub record Resumed (rows : List Row) (n : StmtNo) (e w : ℕ) (r : Yield) : Type 0 where
  pub means : (a : HaltNo) (t : Stmt) → Holds rows n a t → Means r (resumed (signals_in e) (halts_in w) t)

-- "no sequence or present has halts on both sides; where one side alone of a parallel has halts, the other has 0 in K or R": whether p and q have
-- halts, and whether each may end
abbrev pub sides_fit : Binary → Bool → Bool → Bool → Bool → Bool
sides_fit Sequence p q ends_p ends_q = not (p && q)
sides_fit (Present s) p q ends_p ends_q = not (p && q)
sides_fit Parallel p q ends_p ends_q = (not p || (q || ends_q)) && (not q || (p || ends_p))

-- the root's number
abbrev pub root : StmtNo
root = stmt_no 0

pub record Reacted (rows : List Row) (e w : ℕ) (r : Yield) : Type 0 where
  pub means : (a : HaltNo) (t : Stmt) → Holds rows root a t → Means r (react (signals_in e) (has w) t)

-- w is the next state
pub record Next (r : Yield) (w : ℕ) : Type 0 where
  pub state : (o : Outcome) → Means r o → (k : ℕ) → has w k ≡ next_state o k

-- whether one of the state's halts lies inside the statement at row n
pub record Inside (rows : List Row) (n : StmtNo) (w : ℕ) (r : Bool) : Type 0 where
  pub answer : (a : HaltNo) (t : Stmt) → Holds rows n a t → r ≡ active (halts_in w) t

-- the column has K and R of the statement at row n and of its parts
pub record Known (rows : List Row) (statics : List Entry) (n : StmtNo) : Type 0 where
  pub run : Runnable rows n
  pub low : Low run.stmt
  pub kept : Kept statics n run.stmt

-- whether the parts of a statement of kind b, which stand at rows m and n, may have the halts of the state w that they have
pub record PartsFit (rows : List Row) (b : Binary) (m n : StmtNo) (w : ℕ) (r : Bool) : Type 0 where
  pub answer : (a c : HaltNo) (p q : Stmt) → Holds rows m a p → Holds rows n c q
      → r ≡ sides_fit b (active (halts_in w) p) (active (halts_in w) q) (may_end p) (may_end q)

-- whether the state keeps the halts inside the statement at row n apart
pub record ToldApart (rows : List Row) (n : StmtNo) (w : ℕ) (r : Bool) : Type 0 where
  pub answer : (a : HaltNo) (t : Stmt) → Holds rows n a t → r ≡ apart (halts_in w) t

-- the whole sheet, whose halts are numbered from 0 on
pub record KnownRoot (rows : List Row) (statics : List Entry) : Type 0 where
  pub known : Known rows statics root
  pub from_zero : known.run.first ≡ halt_no 0

pub record Fitted (rows : List Row) (w : ℕ) (r : Bool) : Type 0 where
  pub answer : (t : Stmt) → Holds rows root (halt_no 0) t → r ≡ fits (has w) t
