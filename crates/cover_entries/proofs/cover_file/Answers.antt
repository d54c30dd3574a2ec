-- The file's fault answers; otherwise its cover is judged.
use native.Mathlib.Omega.{arith}
use Rattle.netlists.proofs.Running.{file_formed, file_ordered}
use Rattle.netlist_entries.proofs.NetEntries.{net_refused, file_few}
use Rattle.netlist_entries.proofs.CellEntries.{file_whole}
use Rattle.cover_entries.proofs.Entries.{cover_refused, cover_file_checked}
use borrow.Author.Rules.{rules}
use Rattle.cover_entries.proofs.cover_file.Goals as goal

pub slice_bounds-cells-end : goal.slice_bounds-cells-end
slice_bounds-cells-end c =
    let did = rw c.in-Ok.is at c.check_file.ensures in
    omega (arith, file_few _ did (search rules), c.check_file.auto)

pub slice_bounds-judged-end : goal.slice_bounds-judged-end
slice_bounds-judged-end c =
    file_whole _ (rw c.in-Ok.is at c.check_file.ensures) (search rules)

pub judged-requires : goal.judged-requires
judged-requires c =
    let did = rw c.in-Ok.is at c.check_file.ensures in
    (file_formed _ did (search rules), (_, file_ordered _ did (search rules)), file_whole _ did (search rules))

pub returns-in-Err : goal.returns-in-Err
returns-in-Err c =
    rw c.refusal.ensures (cover_refused (net_refused c.check_file.ensures.check c.in-Err.is))

pub returns-in-Ok : goal.returns-in-Ok
returns-in-Ok c =
    cover_file_checked _ (rw c.in-Ok.is at c.check_file.ensures) (search rules) c.judged.ensures
