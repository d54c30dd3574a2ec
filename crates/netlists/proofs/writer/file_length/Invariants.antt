use Rattle.netlists.proofs.Laying.{Measuring}
use Rattle.netlists.proofs.writer.file_length.Given as goal

abbrev pub invariant-loop-w : goal.invariant-loop-w
invariant-loop-w l = Measuring l.i l.o l.words l.length l.w-index
