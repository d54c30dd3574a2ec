use Rattle.bits.specs.Bits.{whole}
use Rattle.interpreter.proofs.Following.{Followed}
use Rattle.interpreter.proofs.moments.Given as goal

abbrev pub invariant-loop-j : goal.invariant-loop-j
invariant-loop-j l =
    Followed l.rows (whole l.asks) (whole l.initial.last) l.events l.initial.emissions l.initial.states l.emissions l.states (whole l.last) l.j
