-- The loop writes one signal's cell after another; its invariant says that those left, once written, make the whole.
use mathlib.Core.Path.{refl, sym, ◌∙◌}
use native.Mathlib.Omega.{arith}
use Rattle.parts.proofs.Laws.{nets_at}
use Rattle.builder.proofs.Ends.{signals_step, signals_end}
use Rattle.builder.proofs.signal_cells.Goals as goal

pub loop-s-init : goal.loop-s-init
loop-s-init c = (record { rest = refl }, c.requires.0, c.requires.1)

pub signal_cell-requires : goal.signal_cell-requires
signal_cell-requires c = rw c.new.ensures (omega (arith, c.loop-s.invariant.1))

pub loop-s-preserved : goal.loop-s-preserved
loop-s-preserved c =
    let left = c.loop-s.invariant in
    let list = c.new-list.ensures ∙ sym (nets_at c.args.lists.now c.loop-s.s) in
    let filled = rw (c.signal_cell.ensures, c.new.ensures, list, c.low.ensures) at c.fill.ensures in
    (signals_step left.0 (omega arith) filled, left.1, left.2)

pub returns : goal.returns
returns c = signals_end c.loop-s.invariant.0 (omega arith)
