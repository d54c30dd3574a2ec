-- `cell_in` meets its contract: an arm for each kind, and one for 7, which is no kind.
use native.Mathlib.Omega.{arith}
use Rattle.number.specs.Number.{pick}
use Rattle.cells.specs.Words.{gate_in, cell_in}
use Rattle.cells.proofs.Words.{no_kind}
use Rattle.cells.proofs.cell_in.Goals as goal

pub returns-in-0 : goal.returns-in-0
unfolding cell_in gate_in pick
returns-in-0 c = simp c.in-0.is

pub returns-in-1 : goal.returns-in-1
unfolding cell_in gate_in pick
returns-in-1 c = simp c.in-1.is

pub returns-in-2 : goal.returns-in-2
unfolding cell_in gate_in pick
returns-in-2 c = simp (c.in-2.is, c.new.ensures)

pub returns-in-3 : goal.returns-in-3
unfolding cell_in gate_in pick
returns-in-3 c = simp (c.in-3.is, c.new-x.ensures, c.new-y.ensures)

pub returns-in-4 : goal.returns-in-4
unfolding cell_in gate_in pick
returns-in-4 c = simp (c.in-4.is, c.new-x.ensures, c.new-y.ensures)

pub returns-in-5 : goal.returns-in-5
unfolding cell_in gate_in pick
returns-in-5 c = simp (c.in-5.is, c.new-x.ensures, c.new-y.ensures)

pub returns-in-6 : goal.returns-in-6
unfolding cell_in gate_in pick
returns-in-6 c = simp (c.in-6.is, c.new-x.ensures)

pub returns-in_default : goal.returns-in_default
returns-in_default c =
    no_kind c.args.w (omega arith) (omega arith) (omega arith) (omega arith) (omega arith) (omega arith) (omega arith)
