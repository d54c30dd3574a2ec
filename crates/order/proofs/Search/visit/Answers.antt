-- `visit` meets its contract: each step goes on with the search that began at x, until the stack is empty.
use mathlib.Core.Path.{◌≡◌, refl, ap}
use native.Mathlib.Omega.{arith}
use Rattle.order.specs.Search.{progress, reached}
use Rattle.order.proofs.Searches.{place_free, under_begins, under_ends}
use Rattle.order.proofs.Search.visit.Goals as goal

pub loop-top-init : goal.loop-top-init
loop-top-init c =
    let x = c.args.x in
    let pre = c.requires in
    let new : progress c.args.self.now.marks x ≡ 0 = ap reached (rw c.number-n.ensures at c.in-New.is) in
    let next = place_free pre.0 x pre.1 new in
    record { same = refl; lent = refl; under = rw c.number-n.ensures (under_begins _ x pre.0 pre.1 new (omega (arith, next))) }

pub returns-clause-visited : goal.returns-clause-visited
returns-clause-visited c =
    let pre = c.requires in
    let now = c.loop-top.invariant in
    let none : c.loop-top.top ≡ 0 = omega (arith, c.loop-top-test.false) in
    under_ends _ (omega (arith, pre.1, pre.0.lent.wide)) (rw (c.number-n.ensures, none) at now.under)
