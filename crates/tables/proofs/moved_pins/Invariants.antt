use Rattle.tables.proofs.Moving.{Carried}
use Rattle.tables.proofs.moved_pins.Given as goal

abbrev pub invariant-loop-q : goal.invariant-loop-q
invariant-loop-q l = Carried l.order l.old l.new l.q
