use mathlib.Core.Path.{◌≡◌}
use Rattle.cells.specs.Words.{cells_of}
use Rattle.order.specs.Search.{left}
use Rattle.order.proofs.Searches.{Under}
use Rattle.order.proofs.Search.visit.Given as goal

abbrev pub invariant-loop-top : goal.invariant-loop-top
invariant-loop-top l = record {
  same : l.self.cells ≡ l.fn.self.cells;
  lent : l.self.column.ghost_name ≡ l.fn.self.column.ghost_name;
  under : Under (cells_of l.fn.self.cells.now) l.initial.self.marks l.self.marks l.self.column.now l.top l.done;
}

abbrev pub decreases-loop-top : goal.decreases-loop-top
decreases-loop-top l = left (cells_of l.self.cells.now) l.self.marks l.top
