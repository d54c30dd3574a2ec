-- `visit` meets its contract: a law for each kind of the cell on top.
use mathlib.Core.Path.{ap, subst}
use native.Mathlib.Omega.{arith}
use Rattle.cuts.specs.Cut.{is_source}
use Rattle.cuts.specs.Cutting.{Meets, on, stray}
use Rattle.cuts.proofs.Visits.{read_as, last_low, last_cell, visits_low, visits_high, strays}
use Rattle.cuts.proofs.Visits.{is_a, is_b, deep_enough, inside, goes_first, goes_second, visits_gate}
use borrow.Author.Rules.{rules}
use Rattle.cuts.proofs.Cutter.visit.Goals as goal

pub offset_bounds-self-at : goal.offset_bounds-self-at
offset_bounds-self-at c = let low = last_low c.requires.1.2 c.requires.0 c.args.self.now.order in search rules

pub bounds-self-at : goal.bounds-self-at
bounds-self-at c = last_low c.requires.1.2 c.requires.0 c.args.self.now.order

pub settle-requires : goal.settle-requires
settle-requires c = rw c.new-x.ensures (last_cell c.requires.1.2 c.requires.0 c.args.self.now.order)

pub settle-requires-in-High : goal.settle-requires-in-High
settle-requires-in-High c = rw c.new-x.ensures (last_cell c.requires.1.2 c.requires.0 c.args.self.now.order)

pub meet-requires : goal.meet-requires
meet-requires c =
    let pre = c.requires in
    let self = c.args.self.now in
    let gate = read_as self.cells.now c.new-x.ensures c.cell_at.ensures c.in-Gate.is in
    is_a pre.1.2 pre.0 self.order self.closed _ _ _ gate

pub offset_bounds-self-top : goal.offset_bounds-self-top
offset_bounds-self-top c =
    let pre = c.requires in
    let self = c.args.self.now in
    let gate = read_as self.cells.now c.new-x.ensures c.cell_at.ensures c.in-Gate.is in
    omega (arith, deep_enough pre.1.2 pre.0 self.order self.closed _ _ _ gate, self.lent.deep)

pub bounds-self-top : goal.bounds-self-top
bounds-self-top c =
    let pre = c.requires in
    let self = c.args.self.now in
    let gate = read_as self.cells.now c.new-x.ensures c.cell_at.ensures c.in-Gate.is in
    rw c.meet.ensures.stack (inside pre.1.2 pre.0 self.order self.closed _ _ _ gate)

pub overflow_add-result : goal.overflow_add-result
overflow_add-result c =
    let pre = c.requires in
    let self = c.args.self.now in
    let gate = read_as self.cells.now c.new-x.ensures c.cell_at.ensures c.in-Gate.is in
    omega (arith, deep_enough pre.1.2 pre.0 self.order self.closed _ _ _ gate, self.lent.few)

pub returns-then-not-meet-clause-stepped : goal.returns-then-not-meet-clause-stepped
returns-then-not-meet-clause-stepped c =
    let pre = c.requires in
    let self = c.args.self.now in
    let gate = read_as self.cells.now c.new-x.ensures c.cell_at.ensures c.in-Gate.is in
    let one = c.meet.ensures in
    let first = subst (Meets _ _ _ _) c.if-not-meet.true one.met in
    λ cut c' k. rw (one.values, one.stack, c.number.ensures) (on (goes_first k pre.0 self.order self.closed _ _ _ gate first))

pub meet-requires-in-Gate : goal.meet-requires-in-Gate
meet-requires-in-Gate c =
    let pre = c.requires in
    let self = c.args.self.now in
    let gate = read_as self.cells.now c.new-x.ensures c.cell_at.ensures c.in-Gate.is in
    rw c.meet.ensures.kept.cells (is_b pre.1.2 pre.0 self.order self.closed _ _ _ gate)

pub offset_bounds-self-top-then-not-meet-2 : goal.offset_bounds-self-top-then-not-meet-2
offset_bounds-self-top-then-not-meet-2 c =
    let pre = c.requires in
    let self = c.args.self.now in
    let gate = read_as self.cells.now c.new-x.ensures c.cell_at.ensures c.in-Gate.is in
    omega (arith, deep_enough pre.1.2 pre.0 self.order self.closed _ _ _ gate, self.lent.deep)

pub bounds-self-top-then-not-meet-2 : goal.bounds-self-top-then-not-meet-2
bounds-self-top-then-not-meet-2 c =
    let pre = c.requires in
    let self = c.args.self.now in
    let gate = read_as self.cells.now c.new-x.ensures c.cell_at.ensures c.in-Gate.is in
    rw (c.meet-in-Gate.ensures.stack, c.meet.ensures.stack) (inside pre.1.2 pre.0 self.order self.closed _ _ _ gate)

pub overflow_add-result-then-not-meet-2 : goal.overflow_add-result-then-not-meet-2
overflow_add-result-then-not-meet-2 c =
    let pre = c.requires in
    let self = c.args.self.now in
    let gate = read_as self.cells.now c.new-x.ensures c.cell_at.ensures c.in-Gate.is in
    omega (arith, deep_enough pre.1.2 pre.0 self.order self.closed _ _ _ gate, self.lent.few)

pub returns-then-not-meet-2-clause-stepped : goal.returns-then-not-meet-2-clause-stepped
returns-then-not-meet-2-clause-stepped c =
    let pre = c.requires in
    let self = c.args.self.now in
    let gate = read_as self.cells.now c.new-x.ensures c.cell_at.ensures c.in-Gate.is in
    let one = c.meet.ensures in
    let two = c.meet-in-Gate.ensures in
    let first = subst (Meets _ _ _ _) c.if-not-meet.false one.met in
    let second = rw one.kept.base at (subst (Meets _ _ _ _) c.if-not-meet-2.true two.met) in
    λ cut c' k. rw (two.values, one.values, two.stack, one.stack, c.number-then-not-meet-2.ensures)
    (on (goes_second k pre.0 self.order self.closed _ _ _ gate first second))

pub bounds-self-number : goal.bounds-self-number
bounds-self-number c =
    let pre = c.requires in
    let self = c.args.self.now in
    let gate = read_as self.cells.now c.new-x.ensures c.cell_at.ensures c.in-Gate.is in
    let is = is_a pre.1.2 pre.0 self.order self.closed _ _ _ gate in
    rw (c.number-in-Gate.ensures, c.meet-in-Gate.ensures.values, c.meet.ensures.values) (omega (arith, is, self.lent.valued))

pub bounds-self-number-in-Gate : goal.bounds-self-number-in-Gate
bounds-self-number-in-Gate c =
    let pre = c.requires in
    let self = c.args.self.now in
    let gate = read_as self.cells.now c.new-x.ensures c.cell_at.ensures c.in-Gate.is in
    let is = is_b pre.1.2 pre.0 self.order self.closed _ _ _ gate in
    rw (c.number-in-Gate-2.ensures, c.meet-in-Gate.ensures.values, c.meet.ensures.values) (omega (arith, is, self.lent.valued))

pub settle-requires-in-Gate : goal.settle-requires-in-Gate
settle-requires-in-Gate c =
    let one = c.meet.ensures.kept in
    let two = c.meet-in-Gate.ensures.kept in
    rw (two.cells, one.cells, c.new-x.ensures) (last_cell c.requires.1.2 c.requires.0 c.args.self.now.order)

pub returns-in-Low-clause-stepped : goal.returns-in-Low-clause-stepped
returns-in-Low-clause-stepped c =
    let pre = c.requires in
    let self = c.args.self.now in
    let after = c.settle.ensures in
    let low = read_as self.cells.now c.new-x.ensures c.cell_at.ensures c.in-Low.is in
    λ cut c' k. rw after.stack (on (visits_low k pre.0 self.order c.new-x.ensures after.marks after.values low))

pub returns-in-High-clause-stepped : goal.returns-in-High-clause-stepped
returns-in-High-clause-stepped c =
    let pre = c.requires in
    let self = c.args.self.now in
    let after = c.settle-in-High.ensures in
    let high = read_as self.cells.now c.new-x.ensures c.cell_at.ensures c.in-High.is in
    λ cut c' k. rw after.stack (on (visits_high k pre.0 self.order c.new-x.ensures after.marks after.values high))

pub returns-in-Input-clause-stepped : goal.returns-in-Input-clause-stepped
returns-in-Input-clause-stepped c =
    let self = c.args.self.now in
    let input = read_as self.cells.now c.new-x.ensures c.cell_at.ensures c.in-Input.is in
    λ cut c' k. stray (strays k c.requires.0 self.order (ap is_source input))

pub returns-else-not-meet-2-clause-stepped : goal.returns-else-not-meet-2-clause-stepped
returns-else-not-meet-2-clause-stepped c =
    let pre = c.requires in
    let self = c.args.self.now in
    let gate = read_as self.cells.now c.new-x.ensures c.cell_at.ensures c.in-Gate.is in
    let one = c.meet.ensures in
    let two = c.meet-in-Gate.ensures in
    let after = c.settle-in-Gate.ensures in
    let first = subst (Meets _ _ _ _) c.if-not-meet.false one.met in
    let second = rw one.kept.base at (subst (Meets _ _ _ _) c.if-not-meet-2.false two.met) in
    let marks = rw (two.kept.base, one.kept.base) at after.marks in
    let values = rw (two.values, one.values) at after.values in
    let word = rw (c.number-in-Gate.ensures, c.number-in-Gate-2.ensures, two.values, one.values) at c.gate_word-word.ensures in
    λ cut c' k. rw (after.stack, two.stack, one.stack)
    (on (visits_gate k pre.0 self.order self.closed _ _ _ gate first second c.gate_word-word.result c.new-x.ensures marks values word))

pub returns-in-Register-clause-stepped : goal.returns-in-Register-clause-stepped
returns-in-Register-clause-stepped c =
    let self = c.args.self.now in
    let register = read_as self.cells.now c.new-x.ensures c.cell_at.ensures c.in-Register.is in
    λ cut c' k. stray (strays k c.requires.0 self.order (ap is_source register))
