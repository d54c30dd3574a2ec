-- `check` meets its contract: the first wrong table, then what is asked once all are right.
use native.Mathlib.Omega.{arith}
use Rattle.number.specs.Counts.{of_cell}
use Rattle.covers.proofs.check.Goals as goal

pub first_wrong-requires : goal.first_wrong-requires
first_wrong-requires c = (
  omega (arith, c.list_tables.auto.tabled, c.requires.1.listed),
  λ x. omega (arith, c.requires.3 (of_cell x)),
  c.list_tables.ensures,
)
