-- By the row's head, by what the walks of the parts ensure. The rows from n on become fewer.
use native.Mathlib.Omega.{arith}
use Rattle.rules.proofs.Walks.{run_within, run_number, run_left, right_further}
use Rattle.rules.proofs.Fitting.{known_one, known_left, known_right, apart_leaf, apart_one}
use Rattle.rules.proofs.Fitting.{apart_unfit, apart_left_unfit, apart_rest}
use Rattle.rules.proofs.+apart.Goals as goal
use Rattle.rules.proofs.+apart.Goals.{then-parts_fit, else-parts_fit}
use mathlib.Core.Path.{sym, ◌∙◌}
use mathlib.Core.Bool.{false≢true}

pub row_at-row-requires : goal.row_at-row-requires
row_at-row-requires t c = run_within c.requires.run

pub first_part-requires : goal.first_part-requires
first_part-requires t c =
    run_number c.requires.run

pub apart-requires : goal.apart-requires
apart-requires t c =
    let head = rw c.row_at-row.ensures at c.in-One.is in
    let here = run_within c.requires.run in
    rw c.first_part.ensures (omega (arith, c.decreases, here), known_one c.requires head)

pub first_part-first-requires : goal.first_part-first-requires
first_part-first-requires t c =
    run_number c.requires.run

pub second_part-second-requires : goal.second_part-second-requires
second_part-second-requires t c =
    let head = rw c.row_at-row.ensures at c.in-Two.is in
    (run_number c.requires.run, run_within (run_left c.requires.run head))

pub parts_fit-requires : goal.parts_fit-requires
parts_fit-requires t c =
    let head = rw c.row_at-row.ensures at c.in-Two.is in
    let known = c.requires in
    rw (c.first_part-first.ensures, c.second_part-second.ensures) (known_left known head, known_right known head)

pub apart-requires-then-parts_fit : goal.apart-requires-then-parts_fit
apart-requires-then-parts_fit t c =
    let head = rw c.row_at-row.ensures at c.in-Two.is in
    let here = run_within c.requires.run in
    rw c.first_part-first.ensures (omega (arith, c.decreases, here), known_left c.requires head)

pub apart-requires-then-apart : goal.apart-requires-then-apart
apart-requires-then-apart t c =
    let head = rw c.row_at-row.ensures at c.in-Two.is in
    let here = run_within c.requires.run in
    let further = right_further c.requires.run head in
    rw c.second_part-second.ensures (omega (arith, c.decreases, here, further), known_right c.requires head)

pub returns-in-Zero : goal.returns-in-Zero
returns-in-Zero t c = apart_leaf _ _ _ (rw c.row_at-row.ensures at c.in-Zero.is)

pub returns-in-One : goal.returns-in-One
returns-in-One t c =
    let head = rw c.row_at-row.ensures at c.in-One.is in
    apart_one _ _ _ head (rw c.first_part.ensures at c.apart.ensures)

-- the parts fit, and so does what is kept apart in the first
pub returns-then-apart : goal.returns-then-apart
returns-then-apart t c =
    let head = rw c.row_at-row.ensures at c.in-Two.is in
    let parts = rw (c.first_part-first.ensures, c.second_part-second.ensures) at c.parts_fit.ensures in
    let right = rw c.second_part-second.ensures at c.apart-then-apart.ensures in
    elim c.if-parts_fit.branch [
      | then-parts_fit w ↦
          let fit = sym w.value-is ∙ c.if-apart.true in
          apart_rest _ _ head parts w.if-parts_fit.true (rw (c.first_part-first.ensures, fit) at w.apart-then-parts_fit.ensures) right
      | else-parts_fit w ↦ absurd (false≢true (sym w.if-parts_fit.false ∙ sym w.value-is ∙ c.if-apart.true))
    ]

-- the first does not, or the parts do not
pub returns-else-apart : goal.returns-else-apart
returns-else-apart t c =
    let head = rw c.row_at-row.ensures at c.in-Two.is in
    let parts = rw (c.first_part-first.ensures, c.second_part-second.ensures) at c.parts_fit.ensures in
    rw c.if-apart.false
    (elim c.if-parts_fit.branch [
      | then-parts_fit w ↦
          let unfit = sym w.value-is ∙ c.if-apart.false in
          apart_left_unfit _ _ head parts (rw (c.first_part-first.ensures, unfit) at w.apart-then-parts_fit.ensures)
      | else-parts_fit w ↦ apart_unfit _ _ head parts w.if-parts_fit.false
    ])
