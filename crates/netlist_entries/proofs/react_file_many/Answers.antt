-- The file's fault answers; otherwise its netlist has a clock for each event.
use mathlib.Core.Path.{sym}
use native.Mathlib.Omega.{arith}
use lib.Seq.{length-take-le}
use Rattle.netlists.proofs.Running.{file, file_is}
use Rattle.netlist_entries.proofs.NetEntries.{net_refused, file_few, file_checked}
use Rattle.netlist_entries.proofs.NetRuns.{net_many_refused, net_many_ran}
use borrow.Author.Rules.{rules}
use Rattle.netlist_entries.proofs.react_file_many.Goals as goal

pub slice_bounds-cells-end : goal.slice_bounds-cells-end
slice_bounds-cells-end c =
    let did = rw c.in-Ok.is at c.check_file.ensures in
    let few = file_few _ did (search rules) in
    omega (arith, few, c.check_file.auto)

pub slice_bounds-clocks-end : goal.slice_bounds-clocks-end
slice_bounds-clocks-end c =
    let did = rw c.in-Ok.is at c.check_file.ensures in
    let few = file_few _ did (search rules) in
    sym (length-take-le _ _ (omega (arith, few, c.check_file.auto)))

pub slice_bounds-values-end : goal.slice_bounds-values-end
slice_bounds-values-end c =
    let did = rw c.in-Ok.is at c.check_file.ensures in
    let few = file_few _ did (search rules) in
    omega (arith, few)

pub slice_bounds-clocks-end-in-Ok-2 : goal.slice_bounds-clocks-end-in-Ok-2
slice_bounds-clocks-end-in-Ok-2 c =
    let did = rw c.in-Ok.is at c.check_file.ensures in
    let few = file_few _ did (search rules) in
    sym (length-take-le _ _ (omega (arith, few)))

pub clocks-requires : goal.clocks-requires
clocks-requires c =
    let did = rw c.in-Ok.is at c.check_file.ensures in
    let few = file_few _ did (search rules) in
    file_checked _ did (search rules) (search rules) (length-take-le _ _ (omega (arith, few, c.check_file.auto))) (length-take-le _ _ (omega (arith, few)))

pub returns-in-Err : goal.returns-in-Err
returns-in-Err c =
    rw (c.with_state.ensures, c.refusal.ensures) (net_many_refused (net_refused c.check_file.ensures.check c.in-Err.is))

pub returns-in-Ok : goal.returns-in-Ok
returns-in-Ok c =
    let did = rw c.in-Ok.is at c.check_file.ensures in
    net_many_ran (file _ did (search rules)) (rw (file_is _ did (search rules)) at c.clocks.ensures)
