-- A run over one event.
use borrow.Author.Rules.{rules}
use Rattle.verdicts.proofs.Running.{once_of}
use Rattle.interpreter.specs.Program.{AcceptedRuns}
use Rattle.interpreter.proofs.react.Goals as goal

pub returns : goal.returns
returns c =
    let once = c.run_once.ensures in
    let ran = once.ran in
    record {
      program_reacts =
          record { reacts = λ w is. once_of (AcceptedRuns w) once (λ events signals states signals' states' course h. search rules) };
      fitted = rw once.is (search rules);
    }
