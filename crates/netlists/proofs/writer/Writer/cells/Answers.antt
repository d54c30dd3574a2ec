-- What is left to write completes the cells.
use Rattle.cells.proofs.Words.{word_cell}
use Rattle.netlists.proofs.Laying.{begins, writable, goes_on, ends}
use Rattle.netlists.proofs.writer.Writer.cells.Goals as goal

pub loop-w-init : goal.loop-w-init
loop-w-init c = begins _ _ c.requires.0 c.requires.1

pub cell-requires : goal.cell-requires
cell-requires c =
    writable _ _ c.loop-w.invariant c.loop-w-test.true (word_cell c.args.words.now c.loop-w.w-index c.cell_in.ensures)

pub loop-w-preserved : goal.loop-w-preserved
loop-w-preserved c =
    let cell = word_cell c.args.words.now c.loop-w.w-index c.cell_in.ensures in
    goes_on _ _ c.loop-w.invariant c.loop-w-test.true cell c.cell.ensures

pub returns : goal.returns
returns c = ends _ _ c.loop-w.invariant c.loop-w-test.false
