-- Demand 3: rules and netlist agree. For every accepted sheet, every state that fits and every event of its own inputs "exactly one set of present
-- signals agrees with the rules", and the netlist gives its outputs and the rules' next state, at each clock, for any run.
use Rattle.std.specs.Prelude.{◌≡◌, Bool, true, List, [], ◌∷◌, ℕ, ◌+◌, ◌<◌}
use Rattle.number.specs.declared.CellNo.{CellNo}
use Rattle.number.specs.declared.SignalNo.{SignalNo}
use Rattle.number.specs.Counts.{of_signal}
use Rattle.sheet.specs.Stmt.{Stmt, local_count}
use Rattle.sheet.specs.Read.{Sheet}
use Rattle.rules.specs.Rules.{Signals}
use Rattle.rules.specs.States.{State, react, next_state, Event, Agrees, fits}
use Rattle.cells.specs.declared.Cell.{Cell}
use Rattle.cells.specs.Cells.{signal_cell}
use Rattle.cells.specs.Values.{Solves, next_of}
use Rattle.builder.specs.Netlist.{sheet_netlist}

-- the sheet's outputs and locals, which are the signals that it may emit
abbrev pub others : Sheet → ℕ
others w = w.outputs + local_count w.root

-- "Signal 0 is tick, then I inputs, O outputs, then locals": how many there are
abbrev pub signals_of : Sheet → ℕ
signals_of w = 1 + w.inputs + others w

-- What is so of one reaction of the sheet w to the event J in the state S.
pub record WholeReaction (w : Sheet) (J : Signals) (S : State) : Type 0 where
  -- exactly one set of signals agrees with the rules
  pub present : Signals
  pub agrees : Agrees J S present w.root
  pub alone : (E : Signals) → Agrees J S E w.root → (s : SignalNo) → E s ≡ present s
  -- the netlist has exactly one solution
  pub values : CellNo → Bool
  pub solves : Solves J S (sheet_netlist w) values
  pub single : (v : CellNo → Bool) → Solves J S (sheet_netlist w) v → (x : CellNo) → v x ≡ values x
  -- "cell 1+s is signal s": it shows that set
  pub shown : (s : SignalNo) → of_signal s < signals_of w → values (signal_cell s) ≡ present s
  -- the registers' operands are the rules' next state: "The next state has boot on", "bit 1+h halt h", and no bit past the last halt
  pub next : (b : ℕ) → next_of values (sheet_netlist w) b ≡ next_state (react present S w.root) b
  -- and that fits again
  pub again : fits (next_state (react present S w.root)) w.root ≡ true

-- a run of the rules: to each event a set of signals that agrees, the next reaction from the next state
unfoldable pub RuleRun : Stmt → State → List Signals → List Signals → Type 0
unfolding react
RuleRun t S [] [] = Unit
RuleRun t S [] (E ∷ Es) = ⊥
RuleRun t S (J ∷ Js) [] = ⊥
RuleRun t S (J ∷ Js) (E ∷ Es) = Agrees J S E t × RuleRun t (next_state (react E S t)) Js Es

-- a run of a netlist: to each event a solution, the next reaction from its registers' operands
unfoldable pub NetRun : List Cell → State → List Signals → List (CellNo → Bool) → Type 0
NetRun cells S [] [] = Unit
NetRun cells S [] (v ∷ vs) = ⊥
NetRun cells S (J ∷ Js) [] = ⊥
NetRun cells S (J ∷ Js) (v ∷ vs) = Solves J S cells v × NetRun cells (next_of v cells) Js vs

-- clock by clock: the first n signals are present in the netlist where they are by the rules, and the states after it are the same
unfoldable pub Shows : ℕ → Stmt → List Cell → State → List (CellNo → Bool) → List Signals → Type 0
unfolding react
Shows n t cells S [] [] = Unit
Shows n t cells S [] (E ∷ Es) = ⊥
Shows n t cells S (v ∷ vs) [] = ⊥
Shows n t cells S (v ∷ vs) (E ∷ Es) =
    ((s : SignalNo) → of_signal s < n → v (signal_cell s) ≡ E s)
    × ((b : ℕ) → next_of v cells b ≡ next_state (react E S t) b)
    × Shows n t cells (next_state (react E S t)) vs Es

-- each is an event of I inputs
unfoldable pub Events : ℕ → List Signals → Type 0
Events I [] = Unit
Events I (J ∷ Js) = Event I J × Events I Js

-- What is so of a run of the sheet w from the state S over the events Js.
pub record WholeRun (w : Sheet) (S : State) (Js : List Signals) : Type 0 where
  -- exactly one run of the rules
  pub present : List Signals
  pub agrees : RuleRun w.root S Js present
  pub alone : (Es : List Signals) → RuleRun w.root S Js Es → Es ≡ present
  -- exactly one of the netlist
  pub values : List (CellNo → Bool)
  pub solves : NetRun (sheet_netlist w) S Js values
  pub single : (vs : List (CellNo → Bool)) → NetRun (sheet_netlist w) S Js vs → vs ≡ values
  -- and it shows the rules' signals and goes through the rules' states
  pub shown : Shows (signals_of w) w.root (sheet_netlist w) S values present
