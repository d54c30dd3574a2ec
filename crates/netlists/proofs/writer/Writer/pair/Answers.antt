-- One number behind the other.
use Rattle.number.specs.Counts.{of_cell}
use Rattle.number.specs.Number.{number_bytes}
use Rattle.netlists.proofs.Laying.{first_room, still_room, lays_more}
use Rattle.netlists.proofs.writer.Writer.pair.Goals as goal

pub number-requires-2 : goal.number-requires-2
number-requires-2 c =
    let pre = c.requires in
    rw c.number.ensures (pre.0.0, first_room (number_bytes (of_cell c.args.x)) (number_bytes (of_cell c.args.y)) pre.1)

pub number-requires-4 : goal.number-requires-4
number-requires-4 c =
    let pre = c.requires in
    let first = rw c.number.ensures at c.number-2.ensures in
    rw c.number-3.ensures (pre.0.1, still_room (number_bytes (of_cell c.args.y)) first pre.1)

pub returns : goal.returns
returns c = lays_more (rw c.number.ensures at c.number-2.ensures) (rw c.number-3.ensures at c.number-4.ensures)
