-- `advance` meets its contract: what is next for the cell on top says which law of the search applies.
use mathlib.Core.Path.{refl}
use native.Mathlib.Omega.{arith}
use Rattle.order.proofs.Searches.{place_free, goes_deeper, places_top, comes_back}
use Rattle.order.proofs.Search.advance.Goals as goal

pub overflow_sub-self : goal.overflow_sub-self
overflow_sub-self c =
    let pre = c.requires in
    let next = rw c.new.ensures at c.in-Fresh.ensures in
    omega (arith, place_free pre.0 _ (c.args.self.now.closed.gates _ _ next.0) next.1)

pub returns-in-Fresh-clause-stepped : goal.returns-in-Fresh-clause-stepped
returns-in-Fresh-clause-stepped c =
    let pre = c.requires in
    let next = rw c.new.ensures at c.in-Fresh.ensures in
    let is = c.args.self.now.closed.gates _ _ next.0 in
    let free = place_free pre.0 _ is next.1 in
    rw c.number-n.ensures (goes_deeper pre.0 pre.1 _ _ is next.1 (omega (arith, free)) next.0)

pub returns-in-Back-clause-stepped : goal.returns-in-Back-clause-stepped
returns-in-Back-clause-stepped c =
    let pre = c.requires in
    let next = rw c.new.ensures at c.in-Back.ensures in
    (next.0, comes_back pre.0 _ pre.1 refl next.0 next.1 next.2)

pub returns-in-Clear-clause-stepped : goal.returns-in-Clear-clause-stepped
returns-in-Clear-clause-stepped c =
    let pre = c.requires in
    places_top pre.0 pre.1 (rw c.new.ensures at c.in-Clear.ensures)
