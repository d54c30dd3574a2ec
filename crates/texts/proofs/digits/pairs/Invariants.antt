-- The loop's invariant: the bytes of the pairs passed are there, and those of the digits left follow.
use Rattle.texts.proofs.Pairs.{Passing}
use Rattle.texts.proofs.digits.pairs.Given as goal

abbrev pub invariant-loop-i : goal.invariant-loop-i
invariant-loop-i l = Passing l.text l.initial.out l.i l.out
