use native.Mathlib.Nat.{mod-lt}
use native.Mathlib.Omega.{arith}
use lib.ListN.{length-set}
use Rattle.texts.proofs.Numerals.{none_spelled, more_places, digit_spelled, last_spelled}
use borrow.Author.Rules.{rules}
use Rattle.texts.proofs.Page.numeral.Goals as goal

pub loop-rest-init : goal.loop-rest-init
loop-rest-init c = none_spelled _ _ c.requires.0 _ (search rules) (search rules)

pub overflow_sub-i : goal.overflow_sub-i
overflow_sub-i c =
    let two = more_places _ _ c.requires.0 c.loop-rest.invariant (omega arith) in
    omega arith

pub glyph-requires : goal.glyph-requires
glyph-requires c =
    let under = mod-lt c.loop-rest.rest {m = c.args.base} (omega (arith, c.requires)) in
    omega (arith, c.requires)

pub bounds-digits-i : goal.bounds-digits-i
bounds-digits-i c =
    let two = more_places _ _ c.requires.0 c.loop-rest.invariant (omega arith) in
    omega (arith, c.loop-rest.invariant.places, c.loop-rest.invariant.long)

pub loop-rest-smaller : goal.loop-rest-smaller
loop-rest-smaller c =
    let two = more_places _ _ c.requires.0 c.loop-rest.invariant (omega arith) in
    omega arith

pub loop-rest-preserved : goal.loop-rest-preserved
loop-rest-preserved c =
    rw c.glyph.ensures (digit_spelled _ _ c.requires.0 c.loop-rest.invariant (omega arith))

pub overflow_sub-i-2 : goal.overflow_sub-i-2
overflow_sub-i-2 c = omega (arith, c.loop-rest.invariant.places)

pub bounds-digits-i-2 : goal.bounds-digits-i-2
bounds-digits-i-2 c = omega (arith, c.loop-rest.invariant.places, c.loop-rest.invariant.long)

pub slice_bounds-bytes-count : goal.slice_bounds-bytes-count
slice_bounds-bytes-count c = omega (arith, c.loop-rest.invariant.places)

pub slice_bounds-bytes-start : goal.slice_bounds-bytes-start
slice_bounds-bytes-start c = omega (arith, c.loop-rest.invariant.places)

pub slice_bounds-bytes-end : goal.slice_bounds-bytes-end
slice_bounds-bytes-end c = simp length-set (omega (arith, c.loop-rest.invariant.long))

pub returns : goal.returns
returns c =
    let digits = last_spelled _ _ c.requires.0 c.loop-rest.invariant (omega arith) in
    rw (digits, ← c.glyph-2.ensures) c.bytes.ensures
