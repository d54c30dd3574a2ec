use Prim.Native.Nat.{◌+◌}
use mathlib.Core.Path.{◌≡◌}
use lib.ListN.{length}
use Rattle.cells.specs.Words.{cells_of}
use Rattle.order.specs.Search.{unmet}
use Rattle.order.proofs.Hunts.{Between}
use Rattle.order.proofs.Search.on_cycle.Given as goal

abbrev pub invariant-loop-top : goal.invariant-loop-top
invariant-loop-top l = record {
  same : l.self.cells ≡ l.fn.self.cells;
  between : Between (cells_of l.fn.self.cells.now) l.c l.self.marks l.self.column.now l.top;
}

abbrev pub decreases-loop-top : goal.decreases-loop-top
decreases-loop-top l = l.top + unmet (length (cells_of l.self.cells.now)) l.self.marks
