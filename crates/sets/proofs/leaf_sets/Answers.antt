-- `leaf_sets` meets its contract: each arm is the law of its statement.
use native.Mathlib.Omega.{arith}
use Rattle.sets.proofs.Meaning.{means_nothing, means_halt, means_emit, means_exit}
use Rattle.sets.proofs.leaf_sets.Goals as goal

pub add-requires : goal.add-requires
add-requires c = let low = rw c.in-Exit.is at c.requires in omega arith

pub returns-in-Nothing : goal.returns-in-Nothing
returns-in-Nothing c = rw c.in-Nothing.is means_nothing

pub returns-in-Halt : goal.returns-in-Halt
returns-in-Halt c = rw c.in-Halt.is (means_halt _)

pub returns-in-Emit : goal.returns-in-Emit
returns-in-Emit c = rw c.in-Emit.is (means_emit _)

pub returns-in-Exit : goal.returns-in-Exit
returns-in-Exit c = rw c.in-Exit.is (means_exit _ _ c.add.ensures)
