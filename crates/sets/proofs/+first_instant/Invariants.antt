use Prim.Native.Nat.{◌-◌}
use lib.ListN.{length}
use Rattle.number.specs.Counts.{of_stmt}
use Rattle.sets.proofs.+first_instant.Given as goal

abbrev pub decreases-first_instant : goal.decreases-first_instant
decreases-first_instant l = length l.rows.now - of_stmt l.n
