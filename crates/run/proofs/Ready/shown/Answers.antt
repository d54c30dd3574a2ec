-- `outputs` meets its contract: signal by signal, from 1+I on.
use native.Mathlib.Omega.{arith}
use Rattle.run.proofs.Showing.{shown_none, shown_next, shown_all}
use Rattle.run.proofs.Ready.shown.Goals as goal

pub loop-s-init : goal.loop-s-init
loop-s-init c = rw c.empty-w.ensures (shown_none _ _ _)

pub bounds-values-s : goal.bounds-values-s
bounds-values-s c = omega (arith, c.requires.enough)

pub with_bit-w-requires : goal.with_bit-w-requires
with_bit-w-requires c = omega (arith, c.requires.few)

pub loop-s-preserved : goal.loop-s-preserved
loop-s-preserved c = shown_next _ c.loop-s.invariant (omega arith) c.with_bit-w.ensures

pub returns : goal.returns
returns c = shown_all c.loop-s.invariant (omega arith)
