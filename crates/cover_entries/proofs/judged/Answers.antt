-- `judged` meets its contract: the work columns are as long as a netlist can be and hold zeros; what the check finds is the verdict.
use native.Mathlib.Omega.{arith}
use Rattle.limits.specs.Limits.{max_cells}
use Rattle.cells.proofs.Words.{cells_length}
use Rattle.order.proofs.Columns.{blank}
use Rattle.cover_entries.proofs.Entries.{judgeable, is_right, is_wrong}
use borrow.Author.Rules.{rules}
use Rattle.cover_entries.proofs.judged.Goals as goal

pub check-requires : goal.check-requires
check-requires c =
    let formed = c.requires.0 in
    let cells = c.args.cells.now in (
      formed,
      judgeable cells formed c.requires.1 (search rules) (search rules) (search rules) (search rules),
      blank max_cells,
      blank max_cells,
    )

pub overflow_cast-h : goal.overflow_cast-h
overflow_cast-h c =
    omega (arith, c.requires.0.few, cells_length c.args.cells.now, c.requires.2)

pub returns-in-Ok : goal.returns-in-Ok
returns-in-Ok c =
    let right = rw c.in-Ok.is at c.check.ensures in
    rw c.acceptance.ensures (is_right c.args.cells.now c.requires.2 right)

pub returns-in-Err : goal.returns-in-Err
returns-in-Err c =
    rw (c.refusal.ensures, c.at.ensures) (is_wrong c.args.cells.now (rw c.in-Err.is at c.check.ensures))
