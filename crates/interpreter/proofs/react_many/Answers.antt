-- The state is asked whether it fits.
use Rattle.interpreter.proofs.Reacting.{prepared_known}
use Rattle.interpreter.proofs.react_many.Goals as goal

pub fits-fit-requires : goal.fits-fit-requires
fits-fit-requires c =
    prepared_known c.requires.is

pub run_from-requires : goal.run_from-requires
run_from-requires c =
    (c.requires, c.fits-fit.ensures)

pub returns : goal.returns
returns c =
    c.run_from.ensures.program_runs
