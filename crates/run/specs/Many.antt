-- Many events: a reaction to each, the next one from the state after it.
use Rattle.std.specs.Prelude.{◌≡◌, Bool, true, ◌&&◌, List, [], ◌∷◌, ℕ, ◌*◌, ◌/◌, ◌≤◌, length}
use Rattle.std.proofs.lemmas.List.Edits.{sets}
use Rattle.bits.specs.Bits.{words, is_whole, sets_in, column_of}
use Rattle.run.specs.Words.{event_ok}

-- one reaction in sets, of a state and an event to the signals and the next state: a clock of a netlist, or a moment of the rules
abbrev pub Step : Type 1
Step = ℕ → ℕ → ℕ → ℕ → Type 0

-- a run over events: a step for each, the first from the state handed in, each other from the state after the one before; its signals and its states
pub data Steps (step : Step) : ℕ → List ℕ → List ℕ → List ℕ → Type 0 where
  ended : {state : ℕ} → Steps step state [] [] []
  goes : {state event signals next : ℕ} {events shown states : List ℕ} → step state event signals next → Steps step next events shown states
      → Steps step state (event ∷ events) (signals ∷ shown) (next ∷ states)

-- the last of the states, or the one handed in
unfoldable pub last_state : ℕ → List ℕ → ℕ
last_state state [] = state
last_state state (next ∷ states) = last_state next states

-- each of the sets passes the test
unfoldable pub each : (ℕ → Bool) → List ℕ → Bool
each test [] = true
each test (w ∷ ws) = test w && each test ws

-- "EVENT: a bit outside 1..I": none of the events has one, and there is no part of another
abbrev pub events_ok : ℕ → List ℕ → Bool
events_ok I events = is_whole events && each (event_ok I) (sets_in events)

-- What an engine is held to, which nobody has to believe: the lent slices have an entry for each event ..
pub record Room (events signals states : List ℕ) : Type 0 where
  pub signals_long : length events / words * words ≤ length signals
  pub states_long : length events / words * words ≤ length states

-- .. and a run leaves an entry for each event in the first places of both and nothing behind them, and the last state.
pub record Ran (step : Step) (state : ℕ) (events signals signals' states states' : List ℕ) (last : ℕ) : Type 0 where
  pub shown : List ℕ
  pub passed : List ℕ
  pub steps : Steps step state (sets_in events) shown passed
  pub signals_left : signals' ≡ sets signals 0 (column_of shown)
  pub states_left : states' ≡ sets states 0 (column_of passed)
  pub ends : last ≡ last_state state passed
