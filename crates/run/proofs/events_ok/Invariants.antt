use mathlib.Core.Path.{◌≡◌}
use lib.ListN.{drop}
use Rattle.bits.specs.Bits.{sets_in}
use Rattle.run.specs.Words.{event_ok}
use Rattle.run.specs.Many.{each}
use Rattle.run.proofs.events_ok.Given as goal

abbrev pub invariant-loop-j : goal.invariant-loop-j
invariant-loop-j l = each (event_ok l.i) (sets_in l.events) ≡ each (event_ok l.i) (drop l.j (sets_in l.events))
