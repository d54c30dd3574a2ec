-- The lowest word's bits are the set's.
use mathlib.Core.Path.{refl, ◌∙◌}
use Rattle.bits.specs.declared.Bits.{Bits}
use Rattle.bits.proofs.Whole.{Proper, fits}
use Rattle.bits.proofs.Making.{bits_within}
use borrow.Author.Rules.{rules}
use Rattle.bits.proofs.Bits.none_in.Goals as goal

pub returns-then-from-count-gt64 : goal.returns-then-from-count-gt64
returns-then-from-count-gt64 c = c.none_across.ensures

pub returns : goal.returns
returns c =
    let a = c.args in
    let s : Bits = a.self in
    let proper : Proper s.words = record { long = search rules; small = λ p. fits (search rules) } in
    c.none_in.ensures ∙ bits_within {s = s} proper 0 a.from a.count refl c.if-from-count-gt64.false
