-- Word by word, from k less 64 i on.
use borrow.Author.Rules.{rules}
use Prim.Native.Nat.{ℕ}
use mathlib.Core.Path.{◌≡◌, sym, ap, ◌∙◌}
use native.Mathlib.Omega.{arith}
use lib.ListN.{get_or}
use Rattle.bits.specs.declared.Bits.{Bits}
use Rattle.bits.specs.Bits.{none_from, words}
use Rattle.bits.proofs.Whole.{Proper, fits}
use Rattle.bits.proofs.Making.{off_none, none_more, none_stop, none_all}
use Rattle.bits.proofs.Bits.none_from.Goals as goal

pub loop-i-init : goal.loop-i-init
loop-i-init c = off_none _ _ _

pub returns-then-not-none_from : goal.returns-then-not-none_from
returns-then-not-none_from c =
    let s : Bits = c.args.self in
    let proper : Proper s.words = record { long = search rules; small = λ p. fits (search rules) } in
    let asked = c.none_from.ensures ∙ ap (λ (m : ℕ). none_from m (get_or s.words c.loop-i.i 0)) c.saturating_sub.ensures in
    sym (none_stop {s = s} proper c.loop-i.i c.args.k (sym asked ∙ c.if-not-none_from.true))

pub loop-i-preserved : goal.loop-i-preserved
loop-i-preserved c =
    let s : Bits = c.args.self in
    let proper : Proper s.words = record { long = search rules; small = λ p. fits (search rules) } in
    let asked = c.none_from.ensures ∙ ap (λ (m : ℕ). none_from m (get_or s.words c.loop-i.i 0)) c.saturating_sub.ensures in
    none_more {s = s} proper c.loop-i.i c.loop-i.invariant (sym asked ∙ c.if-not-none_from.false)

pub returns : goal.returns
returns c =
    let s : Bits = c.args.self in
    let proper : Proper s.words = record { long = search rules; small = λ p. fits (search rules) } in
    let all : c.loop-i.i ≡ words = omega arith in
    sym (none_all {s = s} proper (rw all at c.loop-i.invariant))
