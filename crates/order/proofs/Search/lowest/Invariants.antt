use mathlib.Core.Path.{◌≡◌}
use Rattle.cells.specs.Words.{cells_of}
use Rattle.order.proofs.Hunts.{Passed}
use Rattle.order.proofs.Search.lowest.Given as goal

abbrev pub invariant-loop-low : goal.invariant-loop-low
invariant-loop-low l = record {
  same : l.self.cells ≡ l.fn.self.cells;
  passed : Passed (cells_of l.fn.self.cells.now) l.low;
}
