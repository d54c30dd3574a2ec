-- The loop's invariant: the pieces of the cells passed are written.
use mathlib.Core.List.{map}
use lib.ListN.{take}
use Rattle.number.specs.Counts.{of_cell}
use Rattle.texts.specs.Puts.{Writes}
use Rattle.answers.specs.Texts.{parts}
use Rattle.answers.proofs.ordering.put_pins.Given as goal

abbrev pub invariant-loop-cell : goal.invariant-loop-cell
invariant-loop-cell l = Writes (parts (take l.cell-index (map of_cell l.cell-items))) l.initial.page l.page
