-- Word by word.
use borrow.Author.Rules.{rules}
use mathlib.Core.Path.{◌≡◌}
use native.Mathlib.Omega.{arith}
use Rattle.bits.specs.Bits.{words}
use Rattle.bits.proofs.Whole.{Proper, fits}
use Rattle.bits.proofs.Making.{alike_none, alike_more, alike_all, alike_stop}
use Rattle.bits.proofs.Bits.same_at.Goals as goal

pub loop-i-init : goal.loop-i-init
loop-i-init c = alike_none _ _ _

pub returns-then-not-same_at : goal.returns-then-not-same_at
returns-then-not-same_at c =
    let g = c.args in
    let pw : Proper g.self.words = record { long = search rules; small = λ p. fits (search rules) } in
    let pa : Proper g.a.words = record { long = search rules; small = λ p. fits (search rules) } in
    let pb : Proper g.b.words = record { long = search rules; small = λ p. fits (search rules) } in
    alike_stop {w = g.self} {a = g.a} {b = g.b} pw pa pb c.loop-i.i c.same_at.ensures c.if-not-same_at.true

pub loop-i-preserved : goal.loop-i-preserved
loop-i-preserved c =
    alike_more c.loop-i.invariant c.same_at.ensures c.if-not-same_at.false

pub returns : goal.returns
returns c =
    let g = c.args in
    let pw : Proper g.self.words = record { long = search rules; small = λ p. fits (search rules) } in
    let pa : Proper g.a.words = record { long = search rules; small = λ p. fits (search rules) } in
    let pb : Proper g.b.words = record { long = search rules; small = λ p. fits (search rules) } in
    let all : c.loop-i.i ≡ words = omega arith in
    alike_all {w = g.self} {a = g.a} {b = g.b} pw pa pb (rw all at c.loop-i.invariant)
