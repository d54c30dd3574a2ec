-- Cells 0 and 1, the inputs, then cells n+1 and n+2.
use Rattle.builder.proofs.Ends.{head_wrote}
use Rattle.builder.proofs.head_cells.Goals as goal

pub returns : goal.returns
returns c =
    let a = c.args in
    head_wrote a.inputs a.signals a.cells.now (rw c.low.ensures at c.fill.ensures)
    (rw c.high.ensures at c.fill-2.ensures) c.input_cells.ensures
    (rw (c.new-boot.ensures, c.high-2.ensures) at c.fill-3.ensures)
    (rw (c.new.ensures, c.new-boot.ensures, c.high-3.ensures) at c.fill-4.ensures)
