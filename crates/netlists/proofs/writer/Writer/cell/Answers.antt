-- The kind, and the operands behind it.
use Rattle.files.specs.File.{operand_bytes}
use Rattle.netlists.proofs.Laying.{kind_lays, kind_room, lays_more, still_room}
use Rattle.netlists.proofs.writer.Writer.cell.Goals as goal

pub byte-requires : goal.byte-requires
byte-requires c = kind_room c.args.c c.requires.1

pub operands-requires : goal.operands-requires
operands-requires c =
    let kind = kind_lays c.args.c (rw c.written_kind.ensures at c.byte.ensures) in
    (c.requires.0, still_room (operand_bytes c.args.c) kind c.requires.1)

pub returns : goal.returns
returns c = lays_more (kind_lays c.args.c (rw c.written_kind.ensures at c.byte.ensures)) c.operands.ensures
