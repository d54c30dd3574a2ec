use mathlib.Core.Path.{◌≡◌}
use Rattle.cells.specs.Words.{cells_of}
use Rattle.order.proofs.Searches.{Upto}
use Rattle.order.proofs.Search.place_all.Given as goal

abbrev pub invariant-loop-i : goal.invariant-loop-i
invariant-loop-i l = record {
  same : l.self.cells ≡ l.fn.self.cells;
  lent : l.self.column.ghost_name ≡ l.fn.self.column.ghost_name;
  upto : Upto (cells_of l.fn.self.cells.now) l.self.marks l.self.column.now l.count l.i;
}
