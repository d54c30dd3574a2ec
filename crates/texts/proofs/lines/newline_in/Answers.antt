-- The library's search stops at the first.
use borrow.Author.Rules.{rules}
use borrow.Author.Tests.{tests}
use Rattle.std.proofs.lemmas.Iterator.{IsFirst-from_position, YieldsList-from_slice}
use Rattle.std.proofs.Common.{◌≡◌}
use Rattle.texts.proofs.Reading.{newline_is}
use Rattle.texts.proofs.lines.newline_in.Goals as goal

pub returns : goal.returns
returns c =
    newline_is _ _ (IsFirst-from_position _ _ _ (λ x. x ≡ 10) (λ x. x ≡ 10 → ⊥) c.position.ensures.ran (YieldsList-from_slice c.args.bytes.now cc)
    (λ x q k. search (rules, tests)) (λ x q k. search (rules, tests)))
