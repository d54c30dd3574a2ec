-- The truth table is read, and is one of the three or none of them.
use Rattle.std.proofs.Common.{◌≢◌}
use native.Mathlib.Omega.{arith}
use mathlib.Core.Path.{sym, ◌∙◌}
use borrow.Author.Tests.{ne_eqb}
use Rattle.number.specs.Number.{pick}
use Rattle.files.specs.Read.{table_of}
use Rattle.files.proofs.Judging.{handed_on}
use Rattle.files.proofs.read_table.Goals as goal

pub returns-in_err-t : goal.returns-in_err-t
unfolding table_of
returns-in_err-t c = rw (handed_on c.from_residual.ensures.1, ← c.in_err-t.ensures)

pub returns-in-14 : goal.returns-in-14
unfolding table_of pick
returns-in-14 c = c.read_gate.ensures ∙ simp (sym c.in_ok-t.ensures, c.in-14.is)

pub returns-in-8 : goal.returns-in-8
unfolding table_of pick
returns-in-8 c = c.read_gate-in-8.ensures ∙ simp (sym c.in_ok-t.ensures, c.in-8.is)

pub returns-in-2 : goal.returns-in-2
unfolding table_of pick
returns-in-2 c = c.read_gate-in-2.ensures ∙ simp (sym c.in_ok-t.ensures, c.in-2.is)

pub returns-in_default : goal.returns-in_default
unfolding table_of pick
returns-in_default c =
    let t = c.in_ok-t.t in
    let not_or : t ≢ 14 = omega arith in
    let not_and : t ≢ 8 = omega arith in
    let not_butnot : t ≢ 2 = omega arith in
    simp (c.at.ensures, sym c.in_ok-t.ensures, ne_eqb _ 14 not_or, ne_eqb _ 8 not_and, ne_eqb _ 2 not_butnot)
