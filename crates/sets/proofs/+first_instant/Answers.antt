-- `first_instant` meets its contract: at each head one law says which answer stands first. The rows that are left fall.
use native.Mathlib.Omega.{arith}
use Rattle.sets.proofs.Standing.{head_is, stands_within, stands_number, stands_one, stands_two, second_later}
use Rattle.sets.proofs.Searching.{instant_none, instant_here, instant_on, instant_left, instant_right}
use Rattle.sets.proofs.+first_instant.Goals as goal

pub row_at-row-requires : goal.row_at-row-requires
row_at-row-requires t c = stands_within c.requires.0

pub first_part-first-requires : goal.first_part-first-requires
first_part-first-requires t c = stands_number c.requires.0

pub sets_of-body-requires : goal.sets_of-body-requires
sets_of-body-requires t c =
    let s = c.requires.0 in
    let next = c.first_part-first.ensures in
    let head = head_is c.row_at-row.ensures c.in-One.is in
    rw next (omega (arith, stands_within (stands_one s head).part, c.requires.1))

pub returns-then-runs_on : goal.returns-then-runs_on
returns-then-runs_on t c =
    λ s kept.
    let next = c.first_part-first.ensures in
    let head = head_is c.row_at-row.ensures c.in-One.is in
    instant_here c.args.statics.now s kept head (rw next at c.sets_of-body.ensures) c.runs_on.ensures
    c.if-runs_on.true

pub first_instant-requires : goal.first_instant-requires
first_instant-requires t c =
    let s = c.requires.0 in
    let next = c.first_part-first.ensures in
    let head = head_is c.row_at-row.ensures c.in-One.is in
    (rw next (omega (arith, stands_within s, c.decreases)), (rw next (stands_one s head).part, c.requires.1))

pub second_part-requires : goal.second_part-requires
second_part-requires t c =
    let s = c.requires.0 in
    let head = head_is c.row_at-row.ensures c.in-Two.is in
    (stands_number s, stands_within (stands_two s head).left)

pub first_instant-requires-in-Two : goal.first_instant-requires-in-Two
first_instant-requires-in-Two t c =
    let s = c.requires.0 in
    let next = c.first_part-first.ensures in
    let head = head_is c.row_at-row.ensures c.in-Two.is in
    (rw next (omega (arith, stands_within s, c.decreases)), (rw next (stands_two s head).left, c.requires.1))

pub first_instant-requires-in-Two-2 : goal.first_instant-requires-in-Two-2
first_instant-requires-in-Two-2 t c =
    let s = c.requires.0 in
    let next = c.first_part-first.ensures in
    let head = head_is c.row_at-row.ensures c.in-Two.is in
    let end = c.second_part.ensures in
    let later = second_later s head in
    (rw end (omega (arith, stands_within s, c.decreases)), (rw end (stands_two s head).right, c.requires.1))

pub returns-in-Zero : goal.returns-in-Zero
returns-in-Zero t c =
    λ s kept. instant_none c.args.statics.now s kept (head_is c.row_at-row.ensures c.in-Zero.is)

pub returns-else-runs_on : goal.returns-else-runs_on
returns-else-runs_on t c =
    λ s kept.
    let next = c.first_part-first.ensures in
    let head = head_is c.row_at-row.ensures c.in-One.is in
    instant_on c.args.statics.now s kept head (rw next at c.sets_of-body.ensures) c.runs_on.ensures
    c.if-runs_on.false
    (rw next at c.first_instant.ensures)

pub returns-in-Some : goal.returns-in-Some
returns-in-Some t c =
    λ s kept.
    let next = c.first_part-first.ensures in
    let head = head_is c.row_at-row.ensures c.in-Two.is in
    instant_left c.args.statics.now s kept head (rw next at c.first_instant-in-Two.ensures)
    c.in-Some.is

pub returns-in_default : goal.returns-in_default
returns-in_default t c =
    λ s kept.
    let next = c.first_part-first.ensures in
    let head = head_is c.row_at-row.ensures c.in-Two.is in
    let end = c.second_part.ensures in
    instant_right c.args.statics.now s kept head (rw next at c.first_instant-in-Two.ensures)
    c.in_default.is
    (rw end at c.first_instant-in-Two-2.ensures)
