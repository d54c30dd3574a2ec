-- Each part is what the functions behind it answer.
use mathlib.Core.Path.{refl}
use Rattle.tracing.proofs.ready.Goals as goal

pub returns : goal.returns
returns c = record { prepares = c.prepare.ensures; outputs = c.outputs_of.ensures; fresh = c.empty.ensures; none = refl }
