-- The length first; then the header's numbers and the cells, one behind the other.
use Rattle.netlists.proofs.Laying.{few_words, all_small, too_short, inputs_room, outputs_room, count_room, cells_room, file_laid}
use borrow.Author.Rules.{rules}
use mathlib.Core.Path.{refl, sym, ◌∙◌}
use native.Mathlib.Omega.{arith}
use Rattle.netlists.proofs.writer.write_file.Goals as goal

pub returns-then-buffer-length : goal.returns-then-buffer-length
returns-then-buffer-length c =
    rw c.at.ensures (too_short _ _ _ c.requires _ c.file_length-length.ensures c.if-buffer-length.true)

pub number-requires : goal.number-requires
number-requires c = inputs_room _ _ _ c.requires c.file_length-length.ensures c.if-buffer-length.false refl

pub number-requires-2 : goal.number-requires-2
number-requires-2 c =
    outputs_room _ _ _ c.requires c.file_length-length.ensures c.if-buffer-length.false refl c.number.ensures

pub number-requires-3 : goal.number-requires-3
number-requires-3 c =
    count_room _ _ _ c.requires c.file_length-length.ensures c.if-buffer-length.false refl c.number.ensures c.number-2.ensures

pub overflow_cast-words : goal.overflow_cast-words
overflow_cast-words c = omega (arith, few_words _ _ _ c.requires)

pub cells-requires : goal.cells-requires
cells-requires c =
    let counted = c.number-3.ensures in
    let room =
    cells_room _ _ _ c.requires c.file_length-length.ensures c.if-buffer-length.false refl c.number.ensures c.number-2.ensures counted in
    (all_small _ _ _ c.requires, room)

pub returns : goal.returns
returns c =
    let counted = c.number-3.ensures in
    let laid =
    file_laid _ _ _ c.requires c.file_length-length.ensures c.if-buffer-length.false refl c.number.ensures c.number-2.ensures counted c.cells.ensures in
    let lent = sym (c.cells.ensures.lent ∙ counted.lent ∙ c.number-2.ensures.lent ∙ c.number.ensures.lent) in
    search (rules, laid, lent)
