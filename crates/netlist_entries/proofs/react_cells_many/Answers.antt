-- The netlist's fault answers; otherwise it has a clock for each event.
use mathlib.Core.Path.{sym}
use native.Mathlib.Omega.{arith}
use lib.Seq.{length-take-le}
use Rattle.netlists.specs.Words.{judge_cells}
use Rattle.netlists.proofs.Running.{accepts}
use Rattle.netlist_entries.proofs.NetEntries.{net_refused, words_count, words_few, words_are_checked, words_are}
use Rattle.netlist_entries.proofs.NetRuns.{net_many_refused, net_many_ran}
use borrow.Author.Rules.{rules}
use Rattle.netlist_entries.proofs.react_cells_many.Goals as goal

pub slice_bounds-values-end : goal.slice_bounds-values-end
slice_bounds-values-end c =
    let did = rw c.in-Ok.is at c.check_cells.ensures in
    omega (arith, words_count _ _ _ did, words_few _ _ _ did)

pub slice_bounds-clocks-end-in-Ok : goal.slice_bounds-clocks-end-in-Ok
slice_bounds-clocks-end-in-Ok c =
    let did = rw c.in-Ok.is at c.check_cells.ensures in
    sym (length-take-le _ _ (omega (arith, words_count _ _ _ did, words_few _ _ _ did)))

pub clocks-requires : goal.clocks-requires
clocks-requires c =
    let did = rw c.in-Ok.is at c.check_cells.ensures in
    words_are_checked _ _ _ did (search rules) (length-take-le _ _ (omega (arith, words_count _ _ _ did, words_few _ _ _ did)))

pub returns-in-Err : goal.returns-in-Err
returns-in-Err c =
    rw (c.with_state.ensures, c.refusal.ensures) (net_many_refused {found = judge_cells _ _ _} (net_refused c.check_cells.ensures c.in-Err.is))

pub returns-in-Ok : goal.returns-in-Ok
returns-in-Ok c =
    let did = rw c.in-Ok.is at c.check_cells.ensures in
    net_many_ran (accepts did) (rw (words_are _ _ _ did) at c.clocks.ensures)
