-- Word by word, each asked for what of the numbers it has.
use borrow.Author.Rules.{rules}
use Prim.Native.Nat.{ℕ, ◌+◌, ◌*◌, ◌-◌, min}
use mathlib.Core.Path.{◌≡◌, sym, ap, ◌∙◌}
use native.Mathlib.Omega.{arith}
use lib.ListN.{get_or}
use Rattle.bits.specs.declared.Bits.{Bits}
use Rattle.bits.specs.Bits.{has, no_bits, words, whole}
use Rattle.bits.proofs.Whole.{Proper, fits}
use Rattle.bits.proofs.Making.{off_none, bits_more, bits_stop, bits_all}
use Rattle.bits.proofs.Bits.none_across.Goals as goal

pub loop-i-init : goal.loop-i-init
loop-i-init c = off_none _ _ _

pub returns-then-not-none_in : goal.returns-then-not-none_in
returns-then-not-none_in c =
    let a = c.args in
    let s : Bits = a.self in
    let proper : Proper s.words = record { long = search rules; small = λ p. fits (search rules) } in
    let i : ℕ = c.loop-i.i in
    let first = c.min-first.ensures ∙ ap (λ (m : ℕ). min m 64) c.saturating_sub.ensures in
    let past = c.min-past.ensures ∙ ap (λ (m : ℕ). min m 64) c.saturating_sub-in-loop-i.ensures in
    let from : ℕ = min (a.from - 64 * i) 64 in
    let to : ℕ = min (a.from + a.count - 64 * i) 64 in
    let answer : c.none_in.result ≡ no_bits (to - from) from (has (get_or s.words i 0)) =
    c.none_in.ensures ∙ rw (first, past) in
    sym (bits_stop {s = s} proper i a.from a.count (sym answer ∙ c.if-not-none_in.true))

pub loop-i-preserved : goal.loop-i-preserved
loop-i-preserved c =
    let a = c.args in
    let s : Bits = a.self in
    let proper : Proper s.words = record { long = search rules; small = λ p. fits (search rules) } in
    let i : ℕ = c.loop-i.i in
    let first = c.min-first.ensures ∙ ap (λ (m : ℕ). min m 64) c.saturating_sub.ensures in
    let past = c.min-past.ensures ∙ ap (λ (m : ℕ). min m 64) c.saturating_sub-in-loop-i.ensures in
    let from : ℕ = min (a.from - 64 * i) 64 in
    let to : ℕ = min (a.from + a.count - 64 * i) 64 in
    let answer : c.none_in.result ≡ no_bits (to - from) from (has (get_or s.words i 0)) =
    c.none_in.ensures ∙ rw (first, past) in
    bits_more {s = s} proper i a.from a.count c.loop-i.invariant (sym answer ∙ c.if-not-none_in.false)

pub returns : goal.returns
returns c =
    let a = c.args in
    let all : c.loop-i.i ≡ words = omega arith in
    sym (bits_all (whole a.self) a.from a.count c.requires (rw all at c.loop-i.invariant))
