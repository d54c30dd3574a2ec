-- `moved_truth` meets its contract: with each turn one bit more stands at its place.
use mathlib.Core.Path.{◌≡◌}
use Prim.Native.Nat.{ℕ, ◌<◌}
use native.Mathlib.Omega.{arith}
use Rattle.tables.specs.Answering.{settings}
use Rattle.tables.specs.Orders.{orders, order_at, place}
use Rattle.tables.proofs.OrderLaws.{place_small}
use Rattle.tables.proofs.Moving.{none_placed, one_placed, all_placed}
use Rattle.tables.proofs.moved_truth.Goals as goal

-- a place is one of the truth table's
small : {p o b : ℕ} → p ≡ place (order_at o) b → o < orders → b < settings → p < settings
small {p} {o} {b} e ho hb = rw e (place_small o b ho hb)

pub loop-b-init : goal.loop-b-init
loop-b-init c = none_placed c.args.order c.args.truth

pub overflow_cast-moved : goal.overflow_cast-moved
overflow_cast-moved c = omega (arith, small (c.places-places.ensures c.loop-b.b c.loop-b-test.true) c.requires c.loop-b-test.true)

pub overflow_shr-moved : goal.overflow_shr-moved
overflow_shr-moved c = omega (arith, small (c.places-places.ensures c.loop-b.b c.loop-b-test.true) c.requires c.loop-b-test.true)

pub overflow_cast-moved-in-loop-b : goal.overflow_cast-moved-in-loop-b
overflow_cast-moved-in-loop-b c = omega (arith, small (c.places-places.ensures c.loop-b.b c.loop-b-test.true) c.requires c.loop-b-test.true)

pub overflow_shl-moved : goal.overflow_shl-moved
overflow_shl-moved c = omega (arith, small (c.places-places.ensures c.loop-b.b c.loop-b-test.true) c.requires c.loop-b-test.true)

pub overflow_add-moved : goal.overflow_add-moved
overflow_add-moved c =
    let more = one_placed _ c.requires c.loop-b-test.true c.loop-b.invariant (c.places-places.ensures c.loop-b.b c.loop-b-test.true) in
    omega (arith, more.1)

pub loop-b-preserved : goal.loop-b-preserved
loop-b-preserved c =
    (one_placed _ c.requires c.loop-b-test.true c.loop-b.invariant (c.places-places.ensures c.loop-b.b c.loop-b-test.true)).0

pub returns : goal.returns
returns c = all_placed c.requires (omega arith) c.loop-b.invariant
