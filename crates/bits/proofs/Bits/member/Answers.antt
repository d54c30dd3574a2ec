-- The word at k / 64 has bit k % 64; past the words there is nothing.
use mathlib.Core.Path.{sym, ◌∙◌}
use native.Mathlib.Omega.{arith}
use borrow.Author.Rules.{rules}
use borrow.Author.Tests.{le-ltb}
use Rattle.bits.proofs.Whole.{Proper, fits, has_whole, has_wide}
use Rattle.bits.proofs.Bits.member.Goals as goal

pub returns-then-at-lt-WORDS : goal.returns-then-at-lt-WORDS
returns-then-at-lt-WORDS c = let s = c.args.self in
    let proper : Proper s.words = record { long = search rules; small = λ p. fits (search rules) } in
    c.member.ensures ∙ sym (has_whole {b = s} proper _)

pub returns-else-at-lt-WORDS : goal.returns-else-at-lt-WORDS
returns-else-at-lt-WORDS c = let s = c.args.self in
    let proper : Proper s.words = record { long = search rules; small = λ p. fits (search rules) } in
    le-ltb _ _ c.if-at-lt-WORDS.false ∙ sym (has_wide {b = s} proper _ (omega arith))
