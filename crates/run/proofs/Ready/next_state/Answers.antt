-- `next_state` meets its contract: bit by bit.
use native.Mathlib.Omega.{arith}
use Rattle.run.proofs.Numbering.{feeding_none, feeding_next, feeding_all}
use Rattle.run.proofs.Ready.next_state.Goals as goal

pub loop-k-init : goal.loop-k-init
loop-k-init c = rw c.empty-w.ensures feeding_none

pub overflow_cast-k : goal.overflow_cast-k
overflow_cast-k c =
    omega (arith, c.requires.0)

pub bounds-values-x : goal.bounds-values-x
bounds-values-x c =
    c.requires.1 c.loop-k.k c.loop-k-test.true

pub with_bit-w-requires : goal.with_bit-w-requires
with_bit-w-requires c =
    omega (arith, c.requires.0)

pub loop-k-preserved : goal.loop-k-preserved
loop-k-preserved c =
    feeding_next _ c.loop-k.invariant c.loop-k-test.true c.with_bit-w.ensures

pub returns : goal.returns
returns c = feeding_all c.loop-k.invariant c.loop-k-test.false
