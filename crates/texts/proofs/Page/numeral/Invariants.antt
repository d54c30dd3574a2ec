-- The loop's invariant: the digits from i on, behind the numeral of what is left, are the number's. The last digit is put when what is left is below the base.
use Rattle.texts.proofs.Numerals.{Spelled}
use Rattle.texts.proofs.Page.numeral.Given as goal

abbrev pub invariant-loop-rest : goal.invariant-loop-rest
invariant-loop-rest l = Spelled l.base l.n l.digits l.i l.rest

abbrev pub decreases-loop-rest : goal.decreases-loop-rest
decreases-loop-rest l = l.i
