-- The sheet's fault first, then whether its rows say that the state fits.
use Rattle.interpreter.proofs.Interpreting.{was_refused, was_compiled, compiled_known}
use Rattle.sheet_entries.proofs.SheetEntries.{fitting_refused, fitting_accepted, fitting_state}
use Rattle.sheet_entries.proofs.fits.Goals as goal

pub fits-requires : goal.fits-requires
fits-requires c =
    compiled_known (was_compiled c.compile.ensures c.in-Ok.is)

pub returns-then-fits : goal.returns-then-fits
returns-then-fits c =
    rw c.acceptance.ensures (fitting_accepted (was_compiled c.compile.ensures c.in-Ok.is)
    c.fits.ensures c.if-fits.true)

pub returns-in-Err : goal.returns-in-Err
returns-in-Err c =
    rw c.refusal.ensures (fitting_refused (was_refused c.compile.ensures c.in-Err.is))

pub returns-else-fits : goal.returns-else-fits
returns-else-fits c =
    rw (c.refusal-else-fits.ensures, c.at.ensures) (fitting_state (was_compiled c.compile.ensures c.in-Ok.is) c.fits.ensures c.if-fits.false)
