-- The sheet's fault answers and nothing is written; otherwise its file, or BUFFER.
use native.Mathlib.Omega.{arith}
use Rattle.interpreter.proofs.Interpreting.{was_refused, was_compiled}
use Rattle.compile_entries.proofs.CompileEntries.{written_refused, n_few, prefix_long, sheet_well_formed, written_accepted}
use borrow.Author.Rules.{rules}
use Rattle.compile_entries.proofs.compile.Goals as goal

pub slice_bounds-cells-end : goal.slice_bounds-cells-end
slice_bounds-cells-end c =
    let a = was_compiled c.compile.ensures c.in-Ok.is in
    omega (arith, n_few a, c.compile.auto)

pub slice_bounds-written-end : goal.slice_bounds-written-end
slice_bounds-written-end c =
    let a = was_compiled c.compile.ensures c.in-Ok.is in
    prefix_long a (search rules)

pub written-requires : goal.written-requires
written-requires c =
    let a = was_compiled c.compile.ensures c.in-Ok.is in
    let long = prefix_long a (search rules) in
    (sheet_well_formed a, omega (arith, n_few a, long))

pub returns-in-Err : goal.returns-in-Err
returns-in-Err c =
    rw c.refusal.ensures (written_refused (was_refused c.compile.ensures c.in-Err.is))

pub returns-in-Ok : goal.returns-in-Ok
returns-in-Ok c =
    let a = was_compiled c.compile.ensures c.in-Ok.is in
    written_accepted a (search rules) c.written.ensures
