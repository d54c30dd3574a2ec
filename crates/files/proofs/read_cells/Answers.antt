-- What is left to read decides, from each cell on.
use Rattle.files.proofs.Reading.{begins, stops, goes_on, ends}
use mathlib.Core.Path.{sym}
use native.Mathlib.Omega.{arith}
use Rattle.files.proofs.Judging.{handed_on}
use Rattle.files.proofs.read_cells.Goals as goal

pub loop-n-init : goal.loop-n-init
loop-n-init c = begins _ _ _ _ _

pub returns-in_err-c : goal.returns-in_err-c
returns-in_err-c c =
    let cell = rw c.new-x.ensures at (sym c.in_err-c.ensures) in
    rw (handed_on c.from_residual.ensures.1) (stops _ _ _ _ _ c.loop-n.invariant c.loop-n-test.true cell)

pub loop-n-preserved : goal.loop-n-preserved
loop-n-preserved c =
    let cell = rw c.new-x.ensures at (sym c.in_ok-c.ensures) in
    let next = goes_on _ _ _ _ _ c.loop-n.invariant c.loop-n-test.true cell in
    rw (c.tally-registers.ensures, c.fill.ensures, c.new-x.ensures) next

pub returns : goal.returns
returns c = ends _ _ _ _ _ c.loop-n.invariant (omega arith)
