-- BUFFER, or the counts, in the paper's numbers.
use Rattle.netlist_entries.proofs.FileEntries.{filed}
use Rattle.netlist_entries.proofs.written.Goals as goal

pub returns-in-Err : goal.returns-in-Err
returns-in-Err c =
    filed c.write_file.ensures (rw c.in-Err.is c.refusal.ensures)

pub returns-in-Ok : goal.returns-in-Ok
returns-in-Ok c =
    filed c.write_file.ensures (rw c.in-Ok.is c.acceptance.ensures)
