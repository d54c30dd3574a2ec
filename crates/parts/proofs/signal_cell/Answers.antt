-- The number after the signal's.
use mathlib.Core.Path.{◌∙◌}
use native.Mathlib.Numerals.{add-one}
use Rattle.parts.proofs.signal_cell.Goals as goal

pub returns : goal.returns
returns c = c.new.ensures ∙ rw (c.number.ensures, add-one)
