-- `rest_right` meets its contract: an incomplete table, the outputs, the registers' operands.
use mathlib.Core.Path.{sym, ◌∙◌}
use borrow.Author.Tests.{eqb-true}
use Rattle.covers.proofs.Carrying.{decides_no, decides_as}
use Rattle.covers.proofs.Listing.rest_right.Goals as goal
use Rattle.covers.proofs.Listing.rest_right.Goals.{then-cover-eq0, else-cover-eq0}

pub returns-then-outputs_carried : goal.returns-then-outputs_carried
returns-then-outputs_carried c =
    let yes_is = c.if-outputs_carried.true in
    λ k l. elim c.if-cover-eq0.branch [
      | then-cover-eq0 w ↦
          let whole = w.if-cover-eq0.true in
          let outputs = (w.outputs_carried.ensures _ k l).holds (sym w.value-is ∙ yes_is) in
          decides_as (c.operands_carried.ensures _ k l) (λ all. record { whole = whole; outputs = outputs; operands = all }) (λ h. h.operands)
      | else-cover-eq0 w ↦ absurd (w.if-cover-eq0.false (eqb-true _ _ (sym w.value-is ∙ yes_is)))
    ]

pub returns-else-outputs_carried : goal.returns-else-outputs_carried
returns-else-outputs_carried c =
    let no_is = c.if-outputs_carried.false in
    λ k l. rw no_is (decides_no (elim c.if-cover-eq0.branch [
      | then-cover-eq0 w ↦ λ h. (w.outputs_carried.ensures _ k l).fails (sym w.value-is ∙ no_is) h.outputs
      | else-cover-eq0 w ↦ λ h. w.if-cover-eq0.false h.whole
    ]))
