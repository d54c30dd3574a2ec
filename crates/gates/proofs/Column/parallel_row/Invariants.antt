use Rattle.bits.specs.Bits.{has}
use Rattle.gates.proofs.ParallelRow.{Looping}
use Rattle.gates.proofs.Column.parallel_row.Given as goal

abbrev pub invariant-loop-j : goal.invariant-loop-j
invariant-loop-j l = Looping l.initial.self (has l.keep) l.a l.b l.self l.nets l.x l.j
