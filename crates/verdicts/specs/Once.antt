-- Not to be believed: what the code keeps to; the proofs check it.
-- A run over one event that is handed in as a function.
use Rattle.std.specs.Prelude.{◌≡◌, List, ℕ, take}
use denote.Ref.{Bor, MutBor}
use denote.Param.Members.{Once}
use Rattle.bits.specs.Bits.{words, whole_in, words_of}
use Rattle.verdicts.specs.declared.Course.{Course}
use Rattle.verdicts.specs.declared.Reaction.{Reaction}
use Rattle.verdicts.specs.Answers.{reaction_of}

-- a function of events and of a slice each for the signals and the states
abbrev pub Run : Type 0 → Type 1
Run F =
    Once F (Bor (List ℕ) × (MutBor (List ℕ) × (MutBor (List ℕ) × Unit {0}))) (Course × (MutBor (List ℕ) × (MutBor (List ℕ) × Unit {0})))

-- it was called with the event, and room for what comes of it; what it left is the reaction
pub record RanOnce {F : Type 0} (g : Run F) (run : F) (event : ℕ) (r : Reaction) : Type 0 where
  pub events : Bor (List ℕ)
  pub signals : MutBor (List ℕ)
  pub states : MutBor (List ℕ)
  pub one_event : events.now ≡ words_of words event
  pub no_signals : signals.now ≡ words_of words 0
  pub no_states : states.now ≡ words_of words 0
  pub course : Course
  pub signals_left : MutBor (List ℕ)
  pub states_left : MutBor (List ℕ)
  pub ran : g.post run (events, (signals, (states, tt))) (course, (signals_left, (states_left, tt)))
  pub is : r ≡ reaction_of course (whole_in (take words signals_left.now))
