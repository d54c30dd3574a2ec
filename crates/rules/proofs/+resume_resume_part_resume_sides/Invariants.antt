use lib.ListN.{length}
use Rattle.number.specs.Counts.{of_stmt}
use Prim.Native.Nat.{◌-◌, ◌*◌}
use Rattle.rules.proofs.+resume_resume_part_resume_sides.Given as goal

abbrev pub decreases-resume : goal.decreases-resume
decreases-resume l = 2 * (length l.rows.now - of_stmt l.n)

abbrev pub decreases-resume_part : goal.decreases-resume_part
decreases-resume_part l = 2 * (length l.rows.now - of_stmt l.n) - 1

abbrev pub decreases-resume_sides : goal.decreases-resume_sides
decreases-resume_sides l = 2 * (length l.rows.now - of_stmt l.n) - 1
