use lib.ListN.{length}
use Rattle.number.specs.Counts.{of_stmt}
use Prim.Native.Nat.{◌-◌}
use Rattle.builder.proofs.+statement.Given as goal

abbrev pub decreases-statement : goal.decreases-statement
decreases-statement l = length l.rows.now - of_stmt l.n
