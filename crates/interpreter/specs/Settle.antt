-- Not to be believed: what the code keeps to; the proofs check it.
-- The rules applied round by round, on sets of bits.
use Rattle.std.specs.Prelude.{◌≡◌, List, ℕ, suc, ◌<◌}
use Rattle.number.specs.declared.HaltNo.{HaltNo}
use Rattle.number.specs.declared.SignalNo.{SignalNo}
use Rattle.limits.specs.Limits.{max_signals}
use Rattle.bits.specs.Bits.{has, signals_in}
use Rattle.sheet.specs.Stmt.{Stmt}
use Rattle.sheet.specs.Rows.{Holds}
use Rattle.rules.specs.declared.Yield.{Yield}
use Rattle.rules.specs.Rules.{Signals}
use Rattle.rules.specs.States.{react, Agrees}
use Rattle.rules.specs.Words.{Means, Runnable, root}
use Rattle.agreement.specs.Rounds.{rounds}
use Rattle.sheet.specs.declared.Row.{Row}

-- after `limit` rounds from tick and the event's inputs on, E repeats
pub record Settling (rows : List Row) (state event : ℕ) : Type 0 where
  pub run : Runnable rows root
  pub limit : ℕ
  pub few : limit < max_signals
  pub repeats : (s : SignalNo)
      → rounds (signals_in event) (has state) run.stmt (suc limit) s ≡ rounds (signals_in event) (has state) run.stmt limit s

-- E "agrees with the rules", and r is the yield under it
pub record Agreed (t : Stmt) (state event : ℕ) (r : Yield) : Type 0 where
  pub present : Signals
  pub agrees : Agrees (signals_in event) (has state) present t
  pub means : Means r (react present (has state) t)

pub record AgreedAt (rows : List Row) (state event : ℕ) (r : Yield) : Type 0 where
  pub agreed : (a : HaltNo) (t : Stmt) → Holds rows root a t → Agreed t state event r
