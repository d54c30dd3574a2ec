-- What was written as the event is its words alone, and what was lent for the rest has nothing in it; the reaction is read from what the run left.
use mathlib.Core.Path.{◌∙◌, ap}
use Rattle.verdicts.specs.Answers.{reaction_of}
use Rattle.verdicts.proofs.Running.{event_alone, nothing_lent}
use Rattle.verdicts.proofs.once.run_once.Goals as goal

pub returns : goal.returns
returns g c =
    record {
      events = _;
      signals = _;
      states = _;
      one_event = event_alone _ c.write.ensures;
      no_signals = nothing_lent;
      no_states = nothing_lent;
      course = c.run-c.result;
      signals_left = _;
      states_left = _;
      ran = c.run-c.ensures;
      is = c.reaction_of.ensures ∙ ap (reaction_of c.run-c.result) c.read.ensures;
    }
