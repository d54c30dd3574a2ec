-- Not to be believed: what the code keeps to; the proofs check it.
-- Which signals a program asks for. What a reaction does depends on E at these alone, so a round that changes none of them is the last.
use Rattle.std.specs.Prelude.{◌≡◌, true, false, ◌||◌, List, ℕ, ◌<◌}
use Rattle.number.specs.declared.HaltNo.{HaltNo}
use Rattle.number.specs.declared.SignalNo.{SignalNo}
use Rattle.number.specs.declared.StmtNo.{StmtNo}
use Rattle.bits.specs.Bits.{signal_bit, signals_in, width}
use Rattle.sheet.specs.declared.Unary.{Unary}
use Rattle.sheet.specs.declared.Unary.TheVariants.{Loop, Watching, Trap, Signal}
use Rattle.sheet.specs.declared.Binary.{Binary}
use Rattle.sheet.specs.declared.Binary.TheVariants.{Sequence, Present, Parallel}
use Rattle.sheet.specs.Stmt.{Stmt, leaf, one, two}
use Rattle.sheet.specs.Rows.{Holds}
use Rattle.sheet.specs.Read.{only}
use Rattle.sets.specs.Codes.{empty}
use Rattle.rules.specs.Rules.{Signals}
use Rattle.sheet.specs.declared.Row.{Row}

-- "Watching: s in E ..", "Present: p if s is in E"
abbrev pub asks_one : Unary → Signals
asks_one Loop = empty
asks_one (Watching s) = only s
asks_one Trap = empty
asks_one (Signal s) = empty

abbrev pub asks_two : Binary → Signals
asks_two Sequence = empty
asks_two (Present s) = only s
asks_two Parallel = empty

unfoldable pub asks : Stmt → Signals
asks (leaf l) s = false
asks (one u p) s = asks_one u s || asks p s
asks (two b p q) s = asks_two b s || (asks p s || asks q s)

-- the set w has what of the signals X has a bit
pub record Covers (w : ℕ) (X : Signals) : Type 0 where
  pub covers : (s : SignalNo) → X s ≡ true → signal_bit s < width → signals_in w s ≡ true

-- the set has what the statement at row n asks for
pub record Tested (rows : List Row) (n : StmtNo) (w : ℕ) : Type 0 where
  pub tested : (a : HaltNo) (t : Stmt) → Holds rows n a t → Covers w (asks t)
