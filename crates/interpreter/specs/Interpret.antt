-- The reaction of a sheet: "The interpreter answers the emissions, .. signal s at bit s, and .. the next state".
use Rattle.std.specs.Prelude.{◌≡◌, ℕ}
use Rattle.number.specs.declared.SignalNo.{SignalNo}
use Rattle.bits.specs.Bits.{has, signals_in}
use Rattle.sheet.specs.Stmt.{Stmt}
use Rattle.rules.specs.Rules.{Signals}
use Rattle.rules.specs.States.{react, next_state, Agrees}

-- one reaction: the emissions, locals too, and the next state under a set E that "agrees with the rules". There is one such E (`reaction`, agreement)
pub record Moment (t : Stmt) (state event emissions next : ℕ) : Type 0 where
  pub present : Signals
  pub agrees : Agrees (signals_in event) (has state) present t
  pub emits : (s : SignalNo) → signals_in emissions s ≡ (react present (has state) t).emits s
  pub keeps : (b : ℕ) → has next b ≡ next_state (react present (has state) t) b
