-- `pins_at` meets its contract: the cell that is read is that of the column's word.
use mathlib.Core.Path.{sym, ap, ◌∙◌}
use Rattle.cells.specs.Needs.{pins_of}
use Rattle.cells.proofs.Words.{cell_at_word}
use Rattle.cells.proofs.pins_at.Goals as goal

pub returns : goal.returns
returns c =
    let args = c.args in
    c.pins_of.ensures ∙ ap pins_of (c.cell_at.ensures ∙ sym (cell_at_word args.cells.now args.x))
