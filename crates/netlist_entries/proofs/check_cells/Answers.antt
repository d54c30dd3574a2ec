-- What the check of a netlist answers, in the paper's numbers.
use native.Mathlib.Omega.{arith}
use Rattle.netlists.specs.Words.{judge_cells}
use Rattle.netlist_entries.proofs.NetEntries.{net_refused, checked_refused, words_few, words_checked}
use Rattle.netlist_entries.proofs.check_cells.Goals as goal

pub overflow_cast-words : goal.overflow_cast-words
overflow_cast-words c =
    let did = rw c.in-Ok.is at c.check_cells.ensures in
    omega (arith, words_few _ _ _ did)

pub returns-in-Err : goal.returns-in-Err
returns-in-Err c =
    rw c.refusal.ensures (checked_refused {found = judge_cells _ _ _} (net_refused c.check_cells.ensures c.in-Err.is))

pub returns-in-Ok : goal.returns-in-Ok
returns-in-Ok c =
    let did = rw c.in-Ok.is at c.check_cells.ensures in
    rw c.acceptance.ensures (words_checked _ _ _ did)
