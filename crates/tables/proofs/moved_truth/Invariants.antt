use Rattle.tables.proofs.Moving.{Placed}
use Rattle.tables.proofs.moved_truth.Given as goal

abbrev pub invariant-loop-b : goal.invariant-loop-b
invariant-loop-b l = Placed l.order l.truth l.moved l.b
