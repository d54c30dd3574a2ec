-- A run over events, by the rules or by a netlist, as an entry answers it: one answer, and an entry for each event in both lent slices.
use Rattle.std.specs.Prelude.{◌≡◌, Bool, ◌&&◌, List, ℕ, ◌*◌, ◌/◌, leb, length, take}
use Rattle.bits.specs.Bits.{words, whole_in, words_of, sets_in, column_of}
use Rattle.run.specs.Many.{Step, Steps, last_state}
use Rattle.verdicts.specs.declared.Answer.{Answer}
use Rattle.verdicts.specs.declared.Course.{Course}
use Rattle.verdicts.specs.declared.Reaction.{Reaction}
use Rattle.verdicts.specs.Answers.{Verdict, passes, stops, answer_of, buffer_after, with_state, reaction_of}

-- what is handed in: a state, events, and a slice each for the signals and the states that come of them
pub record Asked : Type 0 where
  pub state : ℕ
  pub events : List ℕ
  pub signals : List ℕ
  pub states : List ℕ

-- what is handed back: the answer, and the two slices
pub record Told : Type 0 where
  pub course : Course
  pub signals : List ℕ
  pub states : List ℕ

-- the length that the lent slices need: an entry for each event
abbrev pub needed : Asked → ℕ
needed ask = length ask.events / words * words

-- neither of them is shorter
abbrev pub has_room : Asked → Bool
has_room ask = leb (needed ask) (length ask.signals) && leb (needed ask) (length ask.states)

-- "any refusal returns the state handed in"
unfoldable pub state_after : Verdict → ℕ → List ℕ → ℕ
state_after (stops f) state states = state
state_after passes state states = last_state state states

-- What a run answers, where v says what stops it. On acceptance there is a run, a step for each event, and its signals and its states stand in the first places
-- of the lent slices; a refusal writes nothing.
pub record Runs (step : Step) (accepted : Answer) (v : Verdict) (ask : Asked) (told : Told) : Type 0 where
  pub shown : List ℕ
  pub passed : List ℕ
  pub steps : v ≡ passes → Steps step ask.state (sets_in ask.events) shown passed
  pub answer : told.course ≡ with_state (answer_of v accepted) (state_after v ask.state passed)
  pub signals_left : told.signals ≡ buffer_after v (column_of shown) ask.signals
  pub states_left : told.states ≡ buffer_after v (column_of passed) ask.states

-- one event, and room for what comes of it
abbrev pub one : ℕ → ℕ → Asked
one state event = record { state = state; events = words_of words event; signals = words_of words 0; states = words_of words 0 }

-- A reaction is a run over one event: `many` says what a run answers.
pub record Once (many : Asked → Told → Type 0) (state event : ℕ) (r : Reaction) : Type 0 where
  pub told : Told
  pub ran : many (one state event) told
  pub is : r ≡ reaction_of told.course (whole_in (take words told.signals))
