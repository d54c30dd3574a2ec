-- A sheet that is refused, or the netlist of one that is accepted.
use native.Mathlib.Omega.{arith}
use Rattle.interpreter.proofs.Interpreting.{was_refused, was_compiled}
use Rattle.compile_entries.proofs.CompileEntries.{n_few, prefix_long, sheet_well_formed}
use Rattle.answers.proofs.Filing.{wrote_none, wrote_file}
use borrow.Author.Rules.{rules}
use Rattle.answers.proofs.questions.write_file.Goals as goal

pub slice_bounds-cells-end : goal.slice_bounds-cells-end
slice_bounds-cells-end c =
    let a = was_compiled c.compile.ensures c.in-Ok.is in
    omega (arith, n_few a, c.compile.auto)

pub slice_bounds-print_file-end : goal.slice_bounds-print_file-end
slice_bounds-print_file-end c =
    let a = was_compiled c.compile.ensures c.in-Ok.is in
    prefix_long a (search rules)

pub print_file-requires : goal.print_file-requires
print_file-requires c =
    let a = was_compiled c.compile.ensures c.in-Ok.is in
    let long = prefix_long a (search rules) in
    (sheet_well_formed a, omega (arith, n_few a, long))

pub returns-in-Err : goal.returns-in-Err
returns-in-Err c =
    let was = was_refused c.compile.ensures c.in-Err.is in
    λ n lends. wrote_none c.args.lent.now was lends (rw c.refusal.ensures at c.without_file.ensures)

pub returns-in-Ok : goal.returns-in-Ok
returns-in-Ok c =
    let a = was_compiled c.compile.ensures c.in-Ok.is in
    λ n lends. wrote_file a (search rules) c.args.lent.now c.print_file.ensures lends
