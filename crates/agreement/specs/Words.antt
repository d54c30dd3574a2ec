-- Demand 3 over sets as numbers: "A state is 64 bits: bit 0 boot, bit 1+h halt h.", "signal s at bit s".
use Rattle.std.specs.Prelude.{◌≡◌, true, ◌&&◌, List, ◌∷◌, ℕ, ◌^◌, ◌<◌}
use Rattle.number.specs.declared.SignalNo.{SignalNo}
use Rattle.bits.specs.Bits.{has, signals_in, width}
use Rattle.sheet.specs.Read.{Sheet}
use Rattle.rules.specs.Rules.{Signals}
use Rattle.rules.specs.States.{react, next_state, Agrees, fits}
use Rattle.cells.specs.Values.{registers}
use Rattle.builder.specs.Netlist.{sheet_netlist}
use Rattle.run.specs.Words.{is_output, event_ok, state_ok}
use Rattle.run.specs.React.{Clock}
use Rattle.run.specs.Many.{Step, Steps, each}

-- one clock by the rules: a set of present signals that agrees, its outputs, and the next state
pub record RuleClock (w : Sheet) (state event outputs next : ℕ) : Type 0 where
  pub present : ℕ
  pub agrees : Agrees (signals_in event) (has state) (signals_in present) w.root
  pub shows : (s : SignalNo) → signals_in outputs s ≡ (is_output w.inputs w.outputs s && signals_in present s)
  pub keeps : (b : ℕ) → has next b ≡ next_state (react (signals_in present) (has state) w.root) b

-- one clock of the netlist
abbrev pub NetClock : Sheet → Step
NetClock w state event outputs next = Clock w.inputs w.outputs (sheet_netlist w) state event outputs next

-- What is so of one reaction of the sheet w to an event in a state.
pub record WordReaction (w : Sheet) (state event : ℕ) : Type 0 where
  -- exactly one answer by the rules, and exactly one set of signals that gives it
  pub outputs : ℕ
  pub next : ℕ
  pub rules : RuleClock w state event outputs next
  pub alone : (o n : ℕ) → RuleClock w state event o n → (o ≡ outputs) × (n ≡ next)
  pub one_set : (E : Signals) → Agrees (signals_in event) (has state) E w.root → (s : SignalNo) → E s ≡ signals_in rules.present s
  -- the netlist gives that answer and no other, and refuses neither the event nor the state
  pub netlist : NetClock w state event outputs next
  pub single : (o n : ℕ) → NetClock w state event o n → (o ≡ outputs) × (n ≡ next)
  pub event_taken : event_ok w.inputs event ≡ true
  pub state_taken : state_ok (registers (sheet_netlist w)) state ≡ true
  -- the next state has no bit past a state's, and fits again
  pub small : next < 2 ^ width
  pub again : fits (has next) w.root ≡ true

-- "EVENT: a bit outside 1..I" is in none of them
abbrev pub EventWords : ℕ → List ℕ → Type 0
EventWords I events = each (event_ok I) events ≡ true

-- What is so of a run of the sheet w from a state over any events: program and netlist go through the same outputs and states, and the netlist refuses none of
-- the states.
pub record WordRun (w : Sheet) (state : ℕ) (events : List ℕ) : Type 0 where
  pub shown : List ℕ
  pub states : List ℕ
  pub rules : Steps (RuleClock w) state events shown states
  pub alone : (os ns : List ℕ) → Steps (RuleClock w) state events os ns → (os ≡ shown) × (ns ≡ states)
  pub netlist : Steps (NetClock w) state events shown states
  pub single : (os ns : List ℕ) → Steps (NetClock w) state events os ns → (os ≡ shown) × (ns ≡ states)
  pub taken : each (state_ok (registers (sheet_netlist w))) (state ∷ states) ≡ true
