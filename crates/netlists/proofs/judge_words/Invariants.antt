use Rattle.netlists.proofs.Words.{Judging}
use Rattle.netlists.proofs.judge_words.Given as goal

abbrev pub invariant-loop-n : goal.invariant-loop-n
invariant-loop-n l = Judging l.h.inputs l.h.cells l.words l.n l.registers
