-- `cell_at` meets its contract: past the end `get_or` reads 0, which is low.
use native.Mathlib.Omega.{arith}
use lib.ListN.{get_or-eq_default}
use Rattle.number.specs.Counts.{of_cell}
use Rattle.number.specs.Number.{pick}
use Rattle.cells.specs.Words.{cell_in}
use Rattle.cells.proofs.cell_at.Goals as goal

pub returns-in-Some : goal.returns-in-Some
returns-in-Some c =
    let read = c.in-Some.ensures.lookup in
    rw (← c.number.ensures, ← (read.3.1 0)) c.cell_in.ensures

pub returns-in-None : goal.returns-in-None
unfolding cell_in pick
returns-in-None c =
    let args = c.args in
    rw (get_or-eq_default args.cells.now 0 {n = of_cell args.n} (omega (arith, c.number.ensures, c.in-None.ensures.lookup.3)))
