-- The loop writes one input after another; its invariant says that those left, once written, make the whole.
use native.Mathlib.Omega.{arith}
use Rattle.builder.proofs.Ends.{inputs_start, inputs_step, inputs_end}
use Rattle.builder.proofs.input_cells.Goals as goal

pub loop-s-init : goal.loop-s-init
loop-s-init c = (inputs_start _ _, c.requires)

pub signal_cell-requires : goal.signal_cell-requires
signal_cell-requires c = rw c.new-input.ensures (omega (arith, c.loop-s.invariant.1))

pub loop-s-preserved : goal.loop-s-preserved
loop-s-preserved c =
    let left = c.loop-s.invariant in
    let filled = rw (c.signal_cell.ensures, c.new-input.ensures) at c.fill.ensures in
    (inputs_step left.0 (omega arith) filled, left.1)

pub returns : goal.returns
returns c = inputs_end c.loop-s.invariant.0 (omega arith)

-- after the last input
pub returns-2 : goal.returns-2
returns-2 c =
    let filled = rw (c.signal_cell.ensures, c.new-input.ensures) at c.fill.ensures in
    inputs_end (inputs_step c.loop-s.invariant.0 (omega arith) filled) (omega arith)
