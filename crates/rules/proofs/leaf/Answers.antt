-- A leaf's outcome has one signal, one halt or neither.
use Rattle.rules.specs.Rules.{start}
use Rattle.rules.proofs.Meanings.{halt_means, emit_means, exit_means}
use Rattle.rules.proofs.leaf.Goals as goal

pub add-requires : goal.add-requires
add-requires c =
    let bit = rw c.in-Halt.is at c.requires in
    rw c.halt_bit.ensures bit

pub add-requires-in-Emit : goal.add-requires-in-Emit
add-requires-in-Emit c =
    let bit = rw c.in-Emit.is at c.requires in
    rw c.signal_bit.ensures bit

pub returns-in-Nothing : goal.returns-in-Nothing
unfolding start
returns-in-Nothing c = λ E. rw c.in-Nothing.is c.idle.ensures

pub returns-in-Halt : goal.returns-in-Halt
returns-in-Halt c =
    let added = rw c.halt_bit.ensures at c.add.ensures in
    λ E. rw c.in-Halt.is (halt_means E c.in-Halt.h _ c.empty.ensures c.empty-in-Halt.ensures added)

pub returns-in-Emit : goal.returns-in-Emit
returns-in-Emit c =
    let added = rw c.signal_bit.ensures at c.add-in-Emit.ensures in
    λ E. rw c.in-Emit.is (emit_means E c.in-Emit.s _ c.empty-in-Emit.ensures added c.empty-in-Emit-2.ensures)

pub returns-in-Exit : goal.returns-in-Exit
returns-in-Exit c =
    λ E. rw c.in-Exit.is (exit_means E c.in-Exit.k c.empty-in-Exit.ensures c.empty-in-Exit-2.ensures)
