use native.Mathlib.Omega.{arith}
use Rattle.texts.proofs.Pairs.{pair_next, pair_bad, pairs_end}
use Rattle.texts.proofs.digits.pairs.Goals as goal

pub loop-i-preserved : goal.loop-i-preserved
loop-i-preserved c = pair_next c.loop-i.invariant (omega arith) c.byte_of.ensures c.in-Some.is

pub returns-in_default : goal.returns-in_default
returns-in_default c = pair_bad c.loop-i.invariant (omega arith) c.byte_of.ensures c.in_default.is

pub returns : goal.returns
returns c = pairs_end c.loop-i.invariant (omega arith) (omega arith)
