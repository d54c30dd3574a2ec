-- The truth table, and the operands behind it.
use Rattle.files.specs.File.{pair_bytes}
use Rattle.netlists.proofs.Laying.{table_lays, table_room, lays_more, still_room}
use Rattle.netlists.proofs.writer.Writer.gate.Goals as goal

pub byte-requires : goal.byte-requires
byte-requires c = let a = c.args in table_room a.g a.x a.y c.requires.1

pub pair-requires : goal.pair-requires
pair-requires c =
    let a = c.args in
    let table = table_lays a.g (rw c.truth_table.ensures at c.byte.ensures) in
    (c.requires.0, still_room (pair_bytes a.x a.y) table c.requires.1)

pub returns : goal.returns
returns c = lays_more (table_lays c.args.g (rw c.truth_table.ensures at c.byte.ensures)) c.pair.ensures
