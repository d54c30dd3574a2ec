use Rattle.gates.proofs.OrRow.{Rowing}
use Rattle.gates.proofs.Column.or_row.Given as goal

abbrev pub invariant-loop-j : goal.invariant-loop-j
invariant-loop-j l = Rowing l.initial.self l.a l.b l.self l.nets l.j
