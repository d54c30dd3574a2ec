-- What the check of a netlist answers, in the paper's numbers.
use native.Mathlib.Omega.{arith}
use Rattle.netlists.proofs.Running.{accepts}
use Rattle.netlist_entries.proofs.NetEntries.{net_refused, checked_refused, net_checked, file_few}
use borrow.Author.Rules.{rules}
use Rattle.netlist_entries.proofs.check_file.Goals as goal

pub overflow_cast-h : goal.overflow_cast-h
overflow_cast-h c =
    let did = rw c.in-Ok.is at c.check_file.ensures in
    let few = file_few _ did (search rules) in
    omega (arith, few)

pub returns-in-Err : goal.returns-in-Err
returns-in-Err c =
    rw c.refusal.ensures (checked_refused (net_refused c.check_file.ensures.check c.in-Err.is))

pub returns-in-Ok : goal.returns-in-Ok
returns-in-Ok c =
    let did = rw c.in-Ok.is at c.check_file.ensures in
    rw c.acceptance.ensures (net_checked (accepts did.check))
