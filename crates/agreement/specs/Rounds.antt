-- Applying the rules round by round: how an interpreter may come to the set of signals that agrees.
use Rattle.std.specs.Prelude.{◌≡◌, ◌||◌, ℕ, zero, suc, ◌≤◌}
use Rattle.number.specs.declared.SignalNo.{SignalNo}
use Rattle.sheet.specs.Stmt.{Stmt}
use Rattle.sheet.specs.Read.{only}
use Rattle.rules.specs.Rules.{Signals}
use Rattle.rules.specs.States.{State, tick, react}

-- E made anew: "tick, the event's inputs and the emissions", those under the old E. Emissions of earlier rounds are dropped. A set agrees with the
-- rules when it is made of itself.
abbrev pub renewed : Signals → State → Stmt → Signals → Signals
renewed J S t E s = (only tick s || J s) || (react E S t).emits s

-- from tick and the event's inputs on, k times
unfoldable pub rounds : Signals → State → Stmt → ℕ → Signals
rounds J S t zero s = only tick s || J s
rounds J S t (suc k) s = renewed J S t (rounds J S t k) s

-- they come to the set E in at most u rounds, and stay there
abbrev pub ReachIn : ℕ → Signals → State → Stmt → Signals → Type 0
ReachIn u J S t E = (k : ℕ) → u ≤ k → (s : SignalNo) → rounds J S t k s ≡ E s
