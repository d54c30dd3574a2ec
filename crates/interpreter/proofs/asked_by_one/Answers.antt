-- Only a watching asks.
use mathlib.Core.Path.{refl}
use Rattle.interpreter.proofs.Asking.{covers_none}
use Rattle.interpreter.proofs.asked_by_one.Goals as goal

pub returns-in-Watching : goal.returns-in-Watching
returns-in-Watching c =
    rw c.in-Watching.is c.asked.ensures
