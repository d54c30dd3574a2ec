-- A loop and a watching leave what holds; a trap adds one; a signal statement adds its local, by what `add` ensures.
use Rattle.sheet.proofs.Reading.{inside_signal}
use Rattle.sheet.specs.Read.{inside}
use native.Mathlib.Omega.{arith}
use mathlib.Core.Path.{refl}
use Rattle.sheet.proofs.inner.Goals as goal

pub add-requires : goal.add-requires
add-requires c =
    let local = rw c.in-Signal.is at c.requires.1 in
    rw c.signal_bit.ensures (omega (arith, local))

pub returns-in-Loop : goal.returns-in-Loop
unfolding inside
returns-in-Loop c = rw c.in-Loop.is (refl, omega arith)

pub returns-in-Watching : goal.returns-in-Watching
unfolding inside
returns-in-Watching c = rw c.in-Watching.is (refl, omega arith)

pub returns-in-Trap : goal.returns-in-Trap
unfolding inside
returns-in-Trap c = rw c.in-Trap.is (refl, omega arith)

pub returns-in-Signal : goal.returns-in-Signal
returns-in-Signal c =
    let scope = rw c.signal_bit.ensures at c.add.ensures in
    rw c.in-Signal.is (inside_signal c.args.e c.in-Signal.x c.add.result scope, omega arith)
