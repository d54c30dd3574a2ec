-- What is in the signals and in the set of all outputs is printed.
use mathlib.Core.Path.{sym, ◌∙◌}
use Rattle.tracing.specs.Steps.{counted}
use Rattle.tracing.proofs.instant.Goals as goal

pub returns : goal.returns
unfolding counted
returns c =
    record {
      next = rw c.saturating_add-instants.ensures;
      written = λ I O outs.
          rw (← c.outputs_in-shown.ensures I O outs, ← c.saturating_add-instants.ensures, ← c.rest.ensures) c.instant_line.ensures;
    }
