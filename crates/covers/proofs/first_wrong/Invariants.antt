use Prim.Native.Nat.{ℕ, ◌*◌, ◌<◌}
use mathlib.Core.Path.{◌≡◌}
use Rattle.cells.specs.Words.{cells_of}
use Rattle.cuts.specs.Cutting.{AllNew}
use Rattle.covers.specs.Covers.{table_count, RightTable}
use Rattle.covers.specs.Checking.{Tabled}
use Rattle.covers.proofs.first_wrong.Given as goal

abbrev pub invariant-loop-k : goal.invariant-loop-k
invariant-loop-k l = record {
  cells : l.cutter.cells.now ≡ l.initial.cutter.cells.now;
  fresh : AllNew (2 * l.k) l.cutter.marks.now;
  listed : Tabled l.cover (table_count l.cover) l.k l.tabled;
  before : (j : ℕ) → j < l.k → RightTable (cells_of l.initial.cutter.cells.now) l.cover j;
}
