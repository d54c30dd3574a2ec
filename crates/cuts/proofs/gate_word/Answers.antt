-- `gate_word` meets its contract: at each setting the gate is asked of the words' bits.
use Prim.Native.Nat.{◌-◌, ◌^◌}
use mathlib.Core.Path.{sym, ap, ◌∙◌}
use mathlib.Core.Bool.{◌&&◌}
use Rattle.tables.specs.Answering.{settings, bit}
use Rattle.cells.specs.Cells.{truth}
use Rattle.cuts.proofs.Words.{bit_or_lem, bit_and_lem, bit_not}
use borrow.Author.Rules.{rules}
use Rattle.cuts.proofs.gate_word.Goals as goal

pub returns-in-Or : goal.returns-in-Or
returns-in-Or c =
    let a = c.args.a in
    let b = c.args.b in
    λ k h. bit_or_lem a b k ∙ ap (λ g. truth g (bit a k) (bit b k)) (sym c.in-Or.is)

pub returns-in-And : goal.returns-in-And
returns-in-And c =
    let a = c.args.a in
    let b = c.args.b in
    λ k h. bit_and_lem a b k ∙ ap (λ g. truth g (bit a k) (bit b k)) (sym c.in-And.is)

pub returns-in-Butnot : goal.returns-in-Butnot
returns-in-Butnot c =
    let a = c.args.a in
    let b = c.args.b in
    λ k h.
    bit_and_lem a (2 ^ settings - 1 - b) k
    ∙ ap (λ x. bit a k && x) (bit_not settings b k (search rules) h)
    ∙ ap (λ g. truth g (bit a k) (bit b k)) (sym c.in-Butnot.is)
