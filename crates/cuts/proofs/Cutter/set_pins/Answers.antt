-- `set_pins` meets its contract: with each turn one pin more is set.
use mathlib.Core.Path.{◌≡◌, refl, ◌∙◌}
use native.Mathlib.Omega.{arith}
use Rattle.tables.specs.Answering.{pins}
use Rattle.cuts.proofs.Keeping.{at_first, and_then}
use Rattle.cuts.proofs.Setting.{pinned_none, pinned_more}
use Rattle.cuts.proofs.Cutter.set_pins.Goals as goal

pub loop-p-init : goal.loop-p-init
loop-p-init c = record { kept = at_first; pinned = pinned_none _ _ _ _ c.requires.0; stack = refl }

pub set_pin-counts-requires : goal.set_pin-counts-requires
set_pin-counts-requires c =
    let kept = c.loop-p.invariant.kept in
    let in_marks = c.requires.1 c.loop-p.p c.loop-p-test.true in
    let in_values = c.requires.2 c.loop-p.p c.loop-p-test.true in
    (omega (arith, in_marks, kept.marks.long), omega (arith, in_values, kept.values.long))

pub loop-p-preserved : goal.loop-p-preserved
loop-p-preserved c =
    let inv = c.loop-p.invariant in
    let in_marks = c.requires.1 c.loop-p.p c.loop-p-test.true in
    let in_values = c.requires.2 c.loop-p.p c.loop-p-test.true in
    let set = c.set_pin-counts.ensures in
    record {
      kept = and_then inv.kept set.kept;
      pinned =
          pinned_more inv.pinned (omega (arith, in_marks, inv.kept.marks.long)) (omega (arith, in_values, inv.kept.values.long))
          c.pin_word.ensures (rw inv.kept.base at set.set);
      stack = set.stack ∙ inv.stack;
    }

pub returns-clause-pinned : goal.returns-clause-pinned
returns-clause-pinned c = let all : c.loop-p.p ≡ pins = omega arith in rw all at c.loop-p.invariant.pinned
