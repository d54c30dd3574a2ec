-- The library's search stops at the first.
use mathlib.Core.Path.{◌≡◌, sym, ◌∙◌}
use borrow.Author.Rules.{rules}
use borrow.Author.Tests.{tests}
use Rattle.std.proofs.lemmas.Iterator.{IsFirst-from_position, YieldsList-from_slice}
use Rattle.io.proofs.Counting.{prefix_len_of_le}
use Rattle.answers.specs.Words.{part_end}
use Rattle.answers.proofs.Blanks.{part_end_is, part_end_few}
use Rattle.answers.proofs.words.part_end.Goals as goal

pub returns : goal.returns
returns c =
    let sign = c.args.sign in
    let first = IsFirst-from_position _ _ _ (λ x. x ≡ sign) (λ x. x ≡ sign → ⊥) c.position.ensures.ran (YieldsList-from_slice c.args.text.now cc)
    (λ x q k. search (rules, tests)) (λ x q k. search (rules, tests)) in
    let value = c.unwrap_or.ensures ∙ sym (part_end_is sign c.args.text.now c.position.result first) in
    record { prefix_len = prefix_len_of_le _ _ (rw value (part_end_few sign c.args.text.now)); value = value }
