use mathlib.Core.List.{map}
use native.Mathlib.Omega.{arith}
use lib.ListN.{length-map, get_or-map}
use Rattle.number.specs.Counts.{of_cell, cell_no}
use Rattle.texts.proofs.Putting.{pieces_none, pieces_next, pieces_done}
use Rattle.answers.specs.Texts.{parts}
use Rattle.answers.proofs.Saying.{parts_join}
use borrow.Author.Rules.{rules}
use Rattle.answers.proofs.ordering.put_pins.Goals as goal

pub loop-cell-init : goal.loop-cell-init
loop-cell-init c = pieces_none parts parts_join _ (search rules)

pub loop-cell-preserved : goal.loop-cell-preserved
loop-cell-preserved c =
    let pins = c.args.pins in
    let long = length-map pins of_cell in
    let this = get_or-map of_cell pins c.loop-cell.cell-index (cell_no 0) in
    pieces_next parts parts_join (map of_cell pins) (search rules) c.loop-cell.invariant (omega arith) (rw (this, ← c.number.ensures) c.put_part.ensures)

pub returns : goal.returns
returns c = pieces_done parts parts_join _ c.loop-cell.invariant (omega (arith, length-map c.args.pins of_cell))
