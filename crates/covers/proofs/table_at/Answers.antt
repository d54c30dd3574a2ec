-- `table_at` meets its contract: the numbers of table k lie in the cover.
use native.Mathlib.Omega.{arith}
use Rattle.covers.proofs.table_at.Goals as goal

pub overflow_mul-at : goal.overflow_mul-at
overflow_mul-at c = omega (arith, c.requires)

pub offset_bounds-cover-at : goal.offset_bounds-cover-at
offset_bounds-cover-at c = omega (arith, c.requires)

pub bounds-cover-at : goal.bounds-cover-at
bounds-cover-at c =
    omega (arith, c.requires)

pub pins_at-requires : goal.pins_at-requires
pins_at-requires c =
    omega (arith, c.requires)

pub overflow_add-at : goal.overflow_add-at
overflow_add-at c =
    omega (arith, c.requires)

pub overflow_add-at-2 : goal.overflow_add-at-2
overflow_add-at-2 c =
    omega (arith, c.requires)

pub offset_bounds-cover-at-2 : goal.offset_bounds-cover-at-2
offset_bounds-cover-at-2 c =
    omega (arith, c.requires)

pub bounds-cover-at-2 : goal.bounds-cover-at-2
bounds-cover-at-2 c =
    omega (arith, c.requires)

pub returns : goal.returns
returns c =
    rw (c.new-2.ensures, c.new.ensures, c.pins_at.ensures)
