use Prim.Native.Nat.{◌-◌}
use lib.ListN.{length}
use Rattle.number.specs.Counts.{of_stmt}
use Rattle.sets.proofs.+first_led.Given as goal

abbrev pub decreases-first_led : goal.decreases-first_led
decreases-first_led l = length l.rows.now - of_stmt l.n
