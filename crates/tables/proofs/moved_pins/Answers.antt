-- `moved_pins` meets its contract: with each turn one pin more is carried.
use mathlib.Core.Path.{◌≡◌, refl, ap}
use Prim.Native.Nat.{ℕ, ◌<◌}
use mathlib.Core.List.{List}
use native.Mathlib.Omega.{arith}
use lib.ListN.{get_or}
use borrow.Author.Rules.{rules}
use Rattle.tables.specs.Answering.{pins}
use Rattle.tables.specs.Orders.{orders, order_at}
use Rattle.tables.proofs.OrderLaws.{pin_small}
use Rattle.tables.proofs.Moving.{carried_more, carried_all}
use Rattle.tables.proofs.moved_pins.Goals as goal

-- what an order carries is a pin
small : {carried : List ℕ} {o q : ℕ} → carried ≡ order_at o → o < orders → q < pins → get_or carried q 0 < pins
small {carried} {o} {q} e ho hq = rw e (pin_small o q ho hq)

pub loop-q-init : goal.loop-q-init
loop-q-init c = record { few = omega arith; long = search rules; so_far = refl }

pub offset_bounds-old-p : goal.offset_bounds-old-p
offset_bounds-old-p c = omega (arith, small c.carried-carried.ensures c.requires c.loop-q-test.true)

pub bounds-old-p : goal.bounds-old-p
bounds-old-p c = small c.carried-carried.ensures c.requires c.loop-q-test.true

pub loop-q-preserved : goal.loop-q-preserved
loop-q-preserved c =
    let carried = c.carried-carried.ensures in
    let pin = ap (λ (order : List ℕ). get_or order c.loop-q.q 0) carried in
    carried_more _ c.requires c.loop-q-test.true c.loop-q.invariant pin

pub returns : goal.returns
returns c = (carried_all c.requires (omega arith) c.loop-q.invariant, search rules)
