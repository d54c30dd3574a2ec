use Prim.Native.Nat.{◌-◌}
use lib.ListN.{length}
use Rattle.number.specs.Counts.{of_stmt}
use Rattle.sets.proofs.+fill.Given as goal

abbrev pub decreases-fill : goal.decreases-fill
decreases-fill l = length l.rows.now - of_stmt l.n
