-- `gate_in` meets its contract: its arms are the definition's tests.
use Rattle.std.proofs.Common.{◌≢◌}
use native.Mathlib.Omega.{arith}
use borrow.Author.Tests.{ne_eqb}
use Rattle.number.specs.Number.{pick}
use Rattle.cells.specs.Words.{gate_in}
use Rattle.cells.proofs.gate_in.Goals as goal

pub returns-in-3 : goal.returns-in-3
unfolding gate_in pick
returns-in-3 c = simp c.in-3.is

pub returns-in-4 : goal.returns-in-4
unfolding gate_in pick
returns-in-4 c = simp c.in-4.is

pub returns-in_default : goal.returns-in_default
unfolding gate_in pick
returns-in_default c =
    let not_or : c.args.kind ≢ 3 = omega arith in
    let not_and : c.args.kind ≢ 4 = omega arith in
    simp (ne_eqb _ _ not_or, ne_eqb _ _ not_and)
