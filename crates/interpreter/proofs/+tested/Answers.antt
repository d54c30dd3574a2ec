-- By the row's head: what the statement asks for is its own signal and what its parts ask for. The rows from n on become fewer.
use native.Mathlib.Omega.{arith}
use Rattle.rules.proofs.Walks.{run_within, run_number, run_one, run_left, run_right, right_further}
use Rattle.interpreter.proofs.Asking.{tested_leaf, tested_one, tested_two}
use Rattle.interpreter.proofs.+tested.Goals as goal

pub row_at-requires : goal.row_at-requires
row_at-requires t c = run_within c.requires

pub first_part-requires : goal.first_part-requires
first_part-requires t c =
    run_number c.requires

pub tested-p-requires : goal.tested-p-requires
tested-p-requires t c =
    let head = rw c.row_at.ensures at c.in-One.is in
    let run = c.requires in
    rw c.first_part.ensures (omega (arith, c.decreases, run_within run), run_one run head)

pub first_part-requires-in-Two : goal.first_part-requires-in-Two
first_part-requires-in-Two t c =
    run_number c.requires

pub tested-p-requires-in-Two : goal.tested-p-requires-in-Two
tested-p-requires-in-Two t c =
    let head = rw c.row_at.ensures at c.in-Two.is in
    let run = c.requires in
    rw c.first_part-in-Two.ensures (omega (arith, c.decreases, run_within run), run_left run head)

pub second_part-requires : goal.second_part-requires
second_part-requires t c =
    let head = rw c.row_at.ensures at c.in-Two.is in
    let run = c.requires in
    (run_number run, run_within (run_left run head))

pub tested-q-requires : goal.tested-q-requires
tested-q-requires t c =
    let head = rw c.row_at.ensures at c.in-Two.is in
    let run = c.requires in
    rw c.second_part.ensures (omega (arith, c.decreases, run_within run, right_further run head), run_right run head)

pub returns-in-Zero : goal.returns-in-Zero
returns-in-Zero t c =
    tested_leaf _ _ _ (rw c.row_at.ensures at c.in-Zero.is)

pub returns-in-One : goal.returns-in-One
returns-in-One t c =
    let head = rw c.row_at.ensures at c.in-One.is in
    let part = rw c.first_part.ensures at c.tested-p.ensures in
    tested_one _ _ head c.asked_by_one.ensures part c.join.ensures

pub returns-in-Two : goal.returns-in-Two
returns-in-Two t c =
    let head = rw c.row_at.ensures at c.in-Two.is in
    let left = rw c.first_part-in-Two.ensures at c.tested-p-in-Two.ensures in
    let right = rw c.second_part.ensures at c.tested-q.ensures in
    tested_two _ _ _ head c.asked_by_two.ensures left right c.join-in-Two.ensures c.join-in-Two-2.ensures
