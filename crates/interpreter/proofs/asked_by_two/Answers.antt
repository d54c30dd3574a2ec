-- Only a present asks.
use mathlib.Core.Path.{refl}
use Rattle.interpreter.proofs.Asking.{covers_none}
use Rattle.interpreter.proofs.asked_by_two.Goals as goal

pub returns-in-Present : goal.returns-in-Present
returns-in-Present c =
    rw c.in-Present.is c.asked.ensures
