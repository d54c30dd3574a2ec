-- `number_registers` meets its contract: cell by cell, with the count of the registers passed.
use mathlib.Core.Path.{refl, ap, ◌∙◌}
use native.Mathlib.Omega.{arith}
use lib.ListN.{length, length-set}
use mathlib.Core.List.{[], ◌∷◌}
use lib.Seq.{length-sets}
use Rattle.cells.specs.Values.{operands_of}
use Rattle.cells.proofs.Words.{inside, at_end, word_cell}
use Rattle.run.proofs.Counting.{counted_room}
use Rattle.run.proofs.Numbering.{numbering_none, numbering_next, numbering_all}
use Rattle.run.proofs.number_registers.Goals as goal

pub loop-i-init : goal.loop-i-init
loop-i-init c =
    (numbering_none c.requires, refl, refl)

pub overflow_cast-places : goal.overflow_cast-places
overflow_cast-places c =
    omega (arith, c.requires.few, inside c.args.cells.now c.loop-i-test.true, c.loop-i.invariant.0.counted.few)

pub bounds-places-i : goal.bounds-places-i
bounds-places-i c =
    omega (arith, inside c.args.cells.now c.loop-i-test.true, c.loop-i.invariant.0.places)

pub with_operand-k-requires : goal.with_operand-k-requires
with_operand-k-requires c =
    let words = c.args.cells.now in
    let cell = word_cell words _ c.cell_in.ensures in
    let here = inside words c.loop-i-test.true in
    omega (arith, counted_room c.cell_in.result c.loop-i.invariant.0.counted here cell, c.loop-i.invariant.0.room)

pub loop-i-preserved : goal.loop-i-preserved
loop-i-preserved c =
    let words = c.args.cells.now in
    let cell = word_cell words _ c.cell_in.ensures in
    let here = inside words c.loop-i-test.true in
    let laid = c.with_operand-k.ensures in
    let wide = length-set c.loop-i.places c.loop-i.i c.loop-i.k ∙ c.loop-i.invariant.1 in
    let room = ap length laid.1 ∙ length-sets c.loop-i.operands c.loop-i.k (operands_of (c.cell_in.result ∷ [])) ∙ c.loop-i.invariant.2 in
    rw laid.0 (numbering_next c.cell_in.result c.loop-i.invariant.0 here cell laid.1, wide, room)

pub shape_of-places : goal.shape_of-places
shape_of-places c = c.loop-i.invariant.1

pub shape_of-operands : goal.shape_of-operands
shape_of-operands c = c.loop-i.invariant.2

pub returns : goal.returns
returns c =
    numbering_all c.loop-i.invariant.0 (at_end c.args.cells.now c.loop-i-test.false)
