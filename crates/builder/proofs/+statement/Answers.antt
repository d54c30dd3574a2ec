-- The walk builds whichever statement stands at the row: it is a leaf, or has one or two parts, which the calls of itself build. The measure is the
-- number of rows that are left.
use mathlib.Core.Path.{refl}
use native.Mathlib.Omega.{arith}
use Rattle.builder.proofs.Walk.{leaf_does, one_does, two_does, ready_within, ready_number, ready_open, ready_leaf, ready_unary, ready_one}
use Rattle.builder.proofs.Walk.{ready_close_one, ready_binary, ready_sets, ready_first, ready_left, ready_right, further_on, ready_close_two}
use Rattle.builder.proofs.+statement.Goals as goal

pub first_part-i-requires : goal.first_part-i-requires
first_part-i-requires t c = ready_number c.requires

pub row_at-requires : goal.row_at-requires
row_at-requires t c = ready_within c.requires

pub leaf_cells-requires : goal.leaf_cells-requires
leaf_cells-requires t c =
    let ready = c.requires in
    let leaf = ready_leaf ready (rw c.row_at.ensures at c.in-Zero.is) in
    (ready_open ready, ready.lists, leaf.0, leaf.1)

pub open_one-o-requires : goal.open_one-o-requires
open_one-o-requires t c =
    let ready = c.requires in
    (ready_open ready, ready_unary ready (rw c.row_at.ensures at c.in-One.is))

pub statement-p-requires : goal.statement-p-requires
statement-p-requires t c =
    let ready = c.requires in
    let e = rw c.row_at.ensures at c.in-One.is in
    let part = ready_one ready e c.args.w refl c.open_one-o.ensures in
    rw c.first_part-i.ensures (omega (arith, ready_within ready, c.decreases), part)

pub close_one-requires : goal.close_one-requires
close_one-requires t c =
    let ready = c.requires in
    let e = rw c.row_at.ensures at c.in-One.is in
    let did = rw c.first_part-i.ensures at c.statement-p.ensures in
    (ready_close_one ready e c.args.w refl c.open_one-o.ensures did, ready_unary ready e)

pub open_two-o-requires : goal.open_two-o-requires
open_two-o-requires t c =
    let ready = c.requires in
    (ready_open ready, ready_binary ready (rw c.row_at.ensures at c.in-Two.is))

pub statement-p-requires-in-Two : goal.statement-p-requires-in-Two
statement-p-requires-in-Two t c =
    let ready = c.requires in
    let e = rw c.row_at.ensures at c.in-Two.is in
    let part = ready_left ready e c.args.w refl c.open_two-o.ensures in
    rw c.first_part-i.ensures (omega (arith, ready_within ready, c.decreases), part)

pub second_part-j-requires : goal.second_part-j-requires
second_part-j-requires t c =
    (ready_number c.requires, ready_first c.requires (rw c.row_at.ensures at c.in-Two.is))

pub statement-q-requires : goal.statement-q-requires
statement-q-requires t c =
    let ready = c.requires in
    let e = rw c.row_at.ensures at c.in-Two.is in
    let opened = c.open_two-o.ensures in
    let first = rw c.first_part-i.ensures at c.statement-p-in-Two.ensures in
    let place = c.second_part-j.ensures in
    let part = ready_right ready e c.args.w refl opened first place (omega (arith, c.statement-p-in-Two.auto.lists, ready.lists)) in
    let on = further_on ready e c.args.w refl opened first place in
    (omega (arith, on, ready_within ready, c.decreases), part)

pub given-requires : goal.given-requires
given-requires t c = ready_sets c.requires (rw c.row_at.ensures at c.in-Two.is)

pub close_two-requires : goal.close_two-requires
close_two-requires t c =
    let ready = c.requires in
    let e = rw c.row_at.ensures at c.in-Two.is in
    let opened = c.open_two-o.ensures in
    let first = rw c.first_part-i.ensures at c.statement-p-in-Two.ensures in
    let place = c.second_part-j.ensures in
    ready_close_two ready e c.args.w refl opened first place c.statement-q.ensures

pub returns-in-Zero : goal.returns-in-Zero
returns-in-Zero t c = leaf_does (rw c.row_at.ensures at c.in-Zero.is) c.leaf_cells.ensures

pub returns-in-One : goal.returns-in-One
returns-in-One t c =
    let e = rw c.row_at.ensures at c.in-One.is in
    let did = rw c.first_part-i.ensures at c.statement-p.ensures in
    one_does e c.new-start.ensures c.open_one-o.ensures did c.close_one.ensures

pub returns-in-Two : goal.returns-in-Two
returns-in-Two t c =
    let e = rw c.row_at.ensures at c.in-Two.is in
    let first = rw c.first_part-i.ensures at c.statement-p-in-Two.ensures in
    two_does c.given.result e c.new-start.ensures c.open_two-o.ensures first c.second_part-j.ensures c.go_of-go.ensures
    c.statement-q.ensures c.given.ensures c.close_two.ensures
