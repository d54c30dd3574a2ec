use lib.ListN.{length}
use Rattle.number.specs.Counts.{of_stmt}
use Prim.Native.Nat.{◌-◌}
use Rattle.rules.proofs.+apart.Given as goal

abbrev pub decreases-apart : goal.decreases-apart
decreases-apart l = length l.rows.now - of_stmt l.n
