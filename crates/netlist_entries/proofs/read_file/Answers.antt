-- The file's fault answers and nothing is written; otherwise the words of its cells, or BUFFER.
use native.Mathlib.Omega.{arith}
use Rattle.netlist_entries.proofs.NetEntries.{net_refused, file_few}
use Rattle.netlist_entries.proofs.CellEntries.{net_listed_refused, file_packed, file_whole, few_signals, listed_file}
use borrow.Author.Rules.{rules}
use Rattle.netlist_entries.proofs.read_file.Goals as goal

pub overflow_cast-h : goal.overflow_cast-h
overflow_cast-h c =
    let did = rw c.in-Ok.is at c.check_file.ensures in
    omega (arith, few_signals _ did (search rules))

pub overflow_cast-h-in-Ok : goal.overflow_cast-h-in-Ok
overflow_cast-h-in-Ok c =
    let did = rw c.in-Ok.is at c.check_file.ensures in
    omega (arith, few_signals _ did (search rules))

pub slice_bounds-cells-end : goal.slice_bounds-cells-end
slice_bounds-cells-end c =
    let did = rw c.in-Ok.is at c.check_file.ensures in
    let few = file_few _ did (search rules) in
    omega (arith, few, c.check_file.auto)

pub slice_bounds-handed-end : goal.slice_bounds-handed-end
slice_bounds-handed-end c =
    let did = rw c.in-Ok.is at c.check_file.ensures in
    file_whole _ did (search rules)

pub handed-requires : goal.handed-requires
handed-requires c =
    let did = rw c.in-Ok.is at c.check_file.ensures in
    let few = file_few _ did (search rules) in
    let long = file_whole _ did (search rules) in
    (file_packed _ did (search rules), omega (arith, few, long))

pub returns-in-Err : goal.returns-in-Err
returns-in-Err c =
    rw (c.with_signals.ensures, c.refusal.ensures)
    (net_listed_refused (net_refused c.check_file.ensures.check c.in-Err.is))

pub returns-in-Ok : goal.returns-in-Ok
returns-in-Ok c =
    let did = rw c.in-Ok.is at c.check_file.ensures in
    listed_file _ did (search rules) c.handed.ensures
