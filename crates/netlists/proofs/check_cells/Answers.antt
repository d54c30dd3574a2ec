-- The words were refused; or they are searched for an order.
use mathlib.Core.Path.{sym}
use Rattle.files.proofs.Judging.{handed_on}
use Rattle.netlists.proofs.Checking.{check_stop, cells_orderable, cells_cyclic, cells_in_order}
use Rattle.netlists.proofs.check_cells.Goals as goal

pub returns-in_err-h : goal.returns-in_err-h
returns-in_err-h c = rw (handed_on c.from_residual.ensures.1) (check_stop (sym c.in_err-h.ensures))

pub order_cells-requires : goal.order_cells-requires
order_cells-requires c = cells_orderable _ _ _ c.judge_cells.ensures c.in_ok-h.was c.requires

pub returns-in_err-order_cells : goal.returns-in_err-order_cells
returns-in_err-order_cells c =
    rw (handed_on c.from_residual-in_err-order_cells.ensures.1)
    (cells_cyclic _ _ _ c.judge_cells.ensures c.in_ok-h.was c.in_err-order_cells.ensures)

pub returns : goal.returns
returns c = cells_in_order _ _ _ c.judge_cells.ensures c.in_ok-h.was c.in_ok-order_cells.ensures
