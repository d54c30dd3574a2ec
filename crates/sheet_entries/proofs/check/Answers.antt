-- What the compiler answers, in the paper's numbers.
use Rattle.interpreter.proofs.Interpreting.{was_refused, was_compiled}
use Rattle.sheet_entries.proofs.SheetEntries.{checked_refused, checked_accepted}
use Rattle.sheet_entries.proofs.check.Goals as goal

pub returns-in-Err : goal.returns-in-Err
returns-in-Err c =
    rw c.refusal.ensures (checked_refused (was_refused c.compile.ensures c.in-Err.is))

pub returns-in-Ok : goal.returns-in-Ok
returns-in-Ok c =
    rw c.acceptance.ensures (checked_accepted (was_compiled c.compile.ensures c.in-Ok.is))
