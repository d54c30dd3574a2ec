use mathlib.Core.Path.{◌≡◌, sym, ◌∙◌}
use native.Mathlib.Omega.{arith}
use borrow.Author.Tests.{eqb-true, eqb-false}
use lib.ListN.{length, get_or}
use Rattle.texts.specs.Digits.{digit_of}
use Rattle.texts.proofs.Values.{none_bad, many_bad, some_value, value_step, value_bad, value_end, joined}
use Rattle.texts.proofs.digits.value_of.Goals as goal
use Rattle.texts.proofs.digits.value_of.Goals.{then-is_empty-via-then-is_empty, then-is_empty-via-else-is_empty+then-most-text}

pub returns-then-is_empty : goal.returns-then-is_empty
returns-then-is_empty c =
    elim c.then-is_empty.branch [
      | then-is_empty-via-then-is_empty w ↦ none_bad _ _ _ (eqb-true _ _ (sym c.is_empty.ensures ∙ w.if-is_empty.true))
      | then-is_empty-via-else-is_empty+then-most-text w ↦ many_bad _ _ _ w.if-most-text.true
    ]

pub loop-b-preserved : goal.loop-b-preserved
loop-b-preserved c =
    let args = c.args in
    let d : c.from-d.result ≡ digit_of (get_or args.text.now c.loop-b.b-index 0) = c.from-d.ensures ∙ c.digit.ensures.0 in
    let step = value_step args.base c.loop-b.value args.text.now c.loop-b.b-index (omega arith) _ d (omega arith) in
    rw (c.saturating_add-value.ensures, c.saturating_mul.ensures, joined args.base c.loop-b.value c.from-d.result) (sym step ∙ c.loop-b.invariant)

pub returns-then-d-base : goal.returns-then-d-base
returns-then-d-base c =
    let args = c.args in
    let some : length args.text.now ≡ 0 → ⊥ = eqb-false _ 0 (sym c.is_empty.ensures ∙ c.if-is_empty.false) in
    let d : c.from-d.result ≡ digit_of (get_or args.text.now c.loop-b.b-index 0) = c.from-d.ensures ∙ c.digit.ensures.0 in
    sym (value_bad _ _ args.text.now c.loop-b.b-index (omega arith) _ d (omega arith)) ∙ c.loop-b.invariant ∙ some_value _ _ _ (omega arith) (omega arith)

pub returns : goal.returns
returns c =
    let args = c.args in
    let some : length args.text.now ≡ 0 → ⊥ = eqb-false _ 0 (sym c.is_empty.ensures ∙ c.if-is_empty.false) in
    value_end args.base c.loop-b.value args.text.now c.loop-b.b-index (omega arith) ∙ c.loop-b.invariant ∙ some_value _ _ _ (omega arith) (omega arith)
