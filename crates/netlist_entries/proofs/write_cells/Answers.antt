-- The netlist's fault answers and nothing is written; otherwise its file, or BUFFER.
use Rattle.netlists.proofs.Running.{cells_formed}
use Rattle.netlists.specs.Words.{judge_cells}
use Rattle.netlist_entries.proofs.NetEntries.{net_refused, words_few}
use Rattle.netlist_entries.proofs.FileEntries.{net_written_refused, words_written}
use Rattle.netlist_entries.proofs.write_cells.Goals as goal

pub written-requires : goal.written-requires
written-requires c =
    let did = rw c.in-Ok.is at c.check_cells.ensures in
    (cells_formed _ _ _ did, words_few _ _ _ did)

pub returns-in-Err : goal.returns-in-Err
returns-in-Err c =
    rw c.refusal.ensures (net_written_refused {found = judge_cells _ _ _} (net_refused c.check_cells.ensures c.in-Err.is))

pub returns-in-Ok : goal.returns-in-Ok
returns-in-Ok c =
    let did = rw c.in-Ok.is at c.check_cells.ensures in
    words_written _ _ _ did c.written.ensures
