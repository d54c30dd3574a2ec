-- Either the cells are in an order, or the lowest cell on a cycle is the place.
use mathlib.Core.Path.{refl}
use Rattle.files.proofs.Judging.{handed_on}
use Rattle.compiler.proofs.Finishing.{orderable, finishes_found, finishes_cycle}
use Rattle.compiler.proofs.ordered.Goals as goal

pub order_cells-requires : goal.order_cells-requires
order_cells-requires c = let pre = c.requires in orderable c.args.cells.now pre.0 pre.1 refl

pub returns-in_err-order_cells : goal.returns-in_err-order_cells
returns-in_err-order_cells c = rw (handed_on c.from_residual.ensures.1) (finishes_cycle _ c.in_err-order_cells.ensures)

pub returns : goal.returns
returns c = finishes_found _ c.in_ok-order_cells.ensures
