-- The joined sets hold what both sides emit and keep; with a code over 1 nothing is kept.
use mathlib.Core.Path.{◌∙◌}
use Rattle.rules.proofs.Meanings.{beside_exits, beside_stays, max_larger}
use Rattle.rules.proofs.beside.Goals as goal

pub returns-then-code-gt1 : goal.returns-then-code-gt1
returns-then-code-gt1 c =
    let a = c.args in
    let code = c.max-code.ensures ∙ max_larger a.a.code a.b.code in
    λ p q ma mb. beside_exits a.a a.b p q ma mb _ _ c.join-emits.ensures code c.empty.ensures c.if-code-gt1.true

pub returns : goal.returns
returns c =
    let a = c.args in
    let joined = c.max-code.ensures ∙ max_larger a.a.code a.b.code in
    λ p q ma mb. beside_stays a.a a.b p q ma mb _ _ c.join-emits.ensures joined _ c.if-code-gt1.false c.join.ensures
