-- The loop's invariant: the numbers passed are read.
use Rattle.answers.proofs.Tabling.{Reading}
use Rattle.answers.proofs.numbers.read.Given as goal

abbrev pub invariant-loop-i : goal.invariant-loop-i
invariant-loop-i l = Reading l.text l.numbers l.i l.at
