-- The sheet's fault answers and nothing is written; otherwise the words of its cells, or BUFFER.
use native.Mathlib.Omega.{arith}
use Rattle.interpreter.proofs.Interpreting.{was_refused, was_compiled}
use Rattle.compile_entries.proofs.CompileEntries.{n_few, prefix_long, sheet_packed, listed_refused, listed_accepted}
use borrow.Author.Rules.{rules}
use Rattle.compile_entries.proofs.compile_cells.Goals as goal

pub slice_bounds-cells-end : goal.slice_bounds-cells-end
slice_bounds-cells-end c =
    let a = was_compiled c.compile.ensures c.in-Ok.is in
    omega (arith, n_few a, c.compile.auto)

pub slice_bounds-handed-end : goal.slice_bounds-handed-end
slice_bounds-handed-end c =
    let a = was_compiled c.compile.ensures c.in-Ok.is in
    prefix_long a (search rules)

pub handed-requires : goal.handed-requires
handed-requires c =
    let a = was_compiled c.compile.ensures c.in-Ok.is in
    let long = prefix_long a (search rules) in
    (sheet_packed a, omega (arith, n_few a, long))

pub returns-in-Err : goal.returns-in-Err
returns-in-Err c =
    rw (c.with_signals.ensures, c.refusal.ensures) (listed_refused (was_refused c.compile.ensures c.in-Err.is))

pub returns-in-Ok : goal.returns-in-Ok
returns-in-Ok c =
    let a = was_compiled c.compile.ensures c.in-Ok.is in
    listed_accepted a (search rules) c.handed.ensures
