use lib.ListN.{length}
use Rattle.number.specs.Counts.{of_stmt}
use Prim.Native.Nat.{◌-◌}
use Rattle.interpreter.proofs.+tested.Given as goal

abbrev pub decreases-tested : goal.decreases-tested
decreases-tested l = length l.rows.now - of_stmt l.n
