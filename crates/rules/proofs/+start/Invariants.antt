use lib.ListN.{length}
use Rattle.number.specs.Counts.{of_stmt}
use Prim.Native.Nat.{◌-◌}
use Rattle.rules.proofs.+start.Given as goal

abbrev pub decreases-start : goal.decreases-start
decreases-start l = length l.rows.now - of_stmt l.n
