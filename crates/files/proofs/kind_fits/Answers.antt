-- The cell's number says which kinds may stand there.
use Rattle.cells.proofs.Fitting.{at_low, at_high, at_input, at_gate}
use native.Mathlib.Omega.{arith}
use mathlib.Core.Path.{sym}
use Rattle.files.proofs.kind_fits.Goals as goal

pub returns-in-0 : goal.returns-in-0
returns-in-0 c = sym (at_low _ _ _ (omega arith))

pub returns-in-1 : goal.returns-in-1
returns-in-1 c = sym (at_high _ _ _ (omega arith))

pub returns-in_default : goal.returns-in_default
returns-in_default c = sym (at_input _ _ _ (omega arith) (omega arith))

pub returns-in_default-2 : goal.returns-in_default-2
returns-in_default-2 c = sym (at_gate _ _ _ (omega arith))
