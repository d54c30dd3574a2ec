-- `settle` meets its contract: each cell in its turn, after those that it needs.
use Prim.Native.Nat.{ℕ, ◌<◌, ◌≤◌}
use mathlib.Core.Path.{◌≡◌, sym, ◌∙◌, subst}
use mathlib.Core.List.{List}
use native.Mathlib.Omega.{arith}
use borrow.Author.Rules.{rules}
use lib.ListN.{length, get_or, take}
use Rattle.std.proofs.lemmas.List.{length-take, get_or-take}
use Rattle.number.specs.Counts.{cell_no}
use Rattle.cells.specs.declared.Cell.{Cell}
use Rattle.cells.specs.Words.{cells_of}
use Rattle.cells.specs.Needs.{pins_of, Among}
use Rattle.cells.proofs.Words.{cells_length, inside, at_end, word_cell}
use Rattle.order.specs.Paths.{placed, Ordered}
use Rattle.run.proofs.Passes.{settling_none, settling_next, settling_all}
use Rattle.run.proofs.Ready.settle.Goals as goal

-- the loop goes over the places of the cells, and the column may be longer
module _ (words order : List ℕ) {j : ℕ} (turn : j < length (take (length words) order)) where
  place : j < length (cells_of words)
  place = inside words (omega (arith, length-take (length words) order))

  same : get_or (take (length words) order) j 0 ≡ get_or order j 0
  same = get_or-take (length words) order j 0 (omega (arith, length-take (length words) order))

  is_cell : Ordered (cells_of words) order → get_or (take (length words) order) j 0 < length words
  is_cell o = rw same (omega (arith, cells_length words, o.cell j place))

pub loop-n-init : goal.loop-n-init
loop-n-init c =
    settling_none _ _ _ _ _ c.requires.0.judged.long

pub offset_bounds-self-x : goal.offset_bounds-self-x
offset_bounds-self-x c =
    let self = c.args.self.now in
    let low = is_cell self.cells.now self.order.now c.loop-n-test.true c.requires.0.ordered in
    search rules

pub bounds-self-x : goal.bounds-self-x
bounds-self-x c = let self = c.args.self.now in is_cell self.cells.now self.order.now c.loop-n-test.true c.requires.0.ordered

pub offset_bounds-self-x-in-loop-n : goal.offset_bounds-self-x-in-loop-n
offset_bounds-self-x-in-loop-n c =
    let self = c.args.self.now in
    let words = self.cells.now in
    let cell = is_cell words self.order.now c.loop-n-test.true c.requires.0.ordered in
    let low : get_or (take (length words) self.order.now) c.loop-n.n-index 0 < length self.places.now =
    omega (arith, c.requires.1.long, cells_length words) in
    search rules

pub bounds-self-x-in-loop-n : goal.bounds-self-x-in-loop-n
bounds-self-x-in-loop-n c =
    let self = c.args.self.now in
    let cell = is_cell self.cells.now self.order.now c.loop-n-test.true c.requires.0.ordered in
    omega (arith, c.requires.1.long, cells_length self.cells.now)

pub value_of-v-requires : goal.value_of-v-requires
value_of-v-requires c =
    let x = cell_no (get_or (take (length c.args.self.now.cells.now) c.args.self.now.order.now) c.loop-n.n-index 0) in
    let cell = word_cell c.args.self.now.cells.now _ c.cell_in.ensures in
    λ y n. omega (
      arith,
      c.loop-n.invariant.long,
      c.requires.0.judged.closed.gates x y (record { among = subst (λ (k : Cell). Among (pins_of k) y) cell n }),
    )

pub bounds-values-x : goal.bounds-values-x
bounds-values-x c =
    let self = c.args.self.now in
    let cell = is_cell self.cells.now self.order.now c.loop-n-test.true c.requires.0.ordered in
    omega (arith, c.loop-n.invariant.long, cells_length self.cells.now)

pub loop-n-preserved : goal.loop-n-preserved
loop-n-preserved c =
    let words = c.args.self.now.cells.now in
    let order = c.args.self.now.order.now in
    let turn = c.loop-n-test.true in
    let here = place words order turn in
    let x = placed order c.loop-n.n-index in
    let at = same words order turn in
    let cell = word_cell words _ (rw at at c.cell_in.ensures) in
    let bit = c.requires.1.bit x (c.requires.0.ordered.cell c.loop-n.n-index here) in
    rw at (settling_next _ _ _ _ c.requires.0.ordered _ _ _ c.loop-n.invariant here (c.value_of-v.ensures ∙ rw (at, bit, cell)))

pub shape_of-values : goal.shape_of-values
shape_of-values c =
    c.loop-n.invariant.long ∙ sym c.requires.0.judged.long

pub returns : goal.returns
returns c =
    let words = c.args.self.now.cells.now in
    let all : length words ≤ c.loop-n.n-index =
    omega (arith, length-take (length words) c.args.self.now.order.now, cells_length words, c.requires.0.places, c.loop-n-test.false) in
    settling_all _ _ _ _ c.requires.0.ordered _ _ c.loop-n.invariant (at_end words all)
