use Rattle.netlists.proofs.Laying.{Laying}
use Rattle.netlists.proofs.writer.Writer.cells.Given as goal

abbrev pub invariant-loop-w : goal.invariant-loop-w
invariant-loop-w l = Laying l.words l.initial.self l.w-index l.self
