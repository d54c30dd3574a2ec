-- The first m cells are as many as m.
use mathlib.Core.Path.{sym}
use lib.Seq.{length-take-le}
use Rattle.netlists.proofs.order_first.Goals as goal

pub slice_bounds-order_cells-end : goal.slice_bounds-order_cells-end
slice_bounds-order_cells-end c =
    sym (length-take-le _ _ c.requires.0)
