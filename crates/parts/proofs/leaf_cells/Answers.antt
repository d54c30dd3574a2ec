-- Each arm is its case of `build`.
use native.Mathlib.Omega.{arith}
use Rattle.parts.proofs.Laws.{nothing_builds, exit_builds, halt_leaf, emit_leaf}
use Rattle.parts.proofs.leaf_cells.Goals as goal

pub emit_cells-requires : goal.emit_cells-requires
emit_cells-requires c =
    (omega arith, omega (arith, c.requires.1, rw c.in-Emit.is at c.requires.3))

pub only-requires-in-Exit : goal.only-requires-in-Exit
only-requires-in-Exit c = rw c.in-Exit.is at c.requires.2

pub returns-in-Nothing : goal.returns-in-Nothing
returns-in-Nothing c = rw (c.in-Nothing.is, c.low.ensures) (nothing_builds _ _ _ _ _ c.only.ensures)

pub returns-in-Halt : goal.returns-in-Halt
returns-in-Halt c = rw (c.in-Halt.is, halt_leaf) c.halt_cells.ensures

pub returns-in-Emit : goal.returns-in-Emit
returns-in-Emit c =
    rw (c.in-Emit.is, emit_leaf) c.emit_cells.ensures

pub returns-in-Exit : goal.returns-in-Exit
returns-in-Exit c = rw (c.in-Exit.is, c.low-in-Exit.ensures) (exit_builds _ _ _ _ _ _ c.only-in-Exit.ensures)
