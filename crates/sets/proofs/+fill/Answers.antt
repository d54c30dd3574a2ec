-- `fill` meets its contract: at each head one law says what its parts' words make, and what the column then holds. The rows that are left
-- fall.
use mathlib.Core.Path.{◌≡◌}
use native.Mathlib.Omega.{arith}
use Rattle.sheet.specs.Read.{further}
use Rattle.sets.proofs.Columns.{both_small}
use Rattle.sets.proofs.Standing.{head_is, halts_asked, stands_within, stands_number, low_leaf, stands_one, stands_two, second_later}
use Rattle.sets.proofs.Filling.{leaf_means, one_means, two_means, leaf_filled, one_filled, two_filled}
use Rattle.sets.proofs.+fill.Goals as goal

pub row_at-row-requires : goal.row_at-row-requires
row_at-row-requires t c = stands_within c.requires.0

pub first_part-first-requires : goal.first_part-first-requires
first_part-first-requires t c = stands_number c.requires.0

pub leaf_sets-requires : goal.leaf_sets-requires
leaf_sets-requires t c =
    low_leaf c.requires.0 (head_is c.row_at-row.ensures c.in-Zero.is)

pub entered-requires : goal.entered-requires
entered-requires t c =
    let s = c.requires.0 in
    let head = head_is c.row_at-row.ensures c.in-Zero.is in
    let small = both_small c.leaf_sets.result s.stmt s.low (leaf_means s head c.leaf_sets.ensures) in
    (omega (arith, stands_within s, c.requires.1), small.0, small.1)

pub fill-p-requires : goal.fill-p-requires
fill-p-requires t c =
    let s = c.requires.0 in
    let next = c.first_part-first.ensures in
    let head = head_is c.row_at-row.ensures c.in-One.is in
    (rw next (omega (arith, stands_within s, c.decreases)), (rw next (stands_one s head).part, c.requires.1))

pub entered-requires-in-One : goal.entered-requires-in-One
entered-requires-in-One t c =
    let s = c.requires.0 in
    let next = c.first_part-first.ensures in
    let head = head_is c.row_at-row.ensures c.in-One.is in
    let halts = halts_asked c.number.ensures c.number-in-One.ensures c.row_at-row.ensures in
    let went = rw next at c.fill-p.ensures in
    let own = one_means s head halts went c.one_sets.ensures in
    let small = both_small c.one_sets.result s.stmt s.low own in
    (omega (arith, stands_within s, c.requires.1, c.fill-p.auto.statics), small.0, small.1)

pub fill-p-requires-in-Two : goal.fill-p-requires-in-Two
fill-p-requires-in-Two t c =
    let s = c.requires.0 in
    let next = c.first_part-first.ensures in
    let head = head_is c.row_at-row.ensures c.in-Two.is in
    (rw next (omega (arith, stands_within s, c.decreases)), (rw next (stands_two s head).left, c.requires.1))

pub second_part-requires : goal.second_part-requires
second_part-requires t c =
    let s = c.requires.0 in
    let head = head_is c.row_at-row.ensures c.in-Two.is in
    (stands_number s, stands_within (stands_two s head).left)

pub fill-q-requires : goal.fill-q-requires
fill-q-requires t c =
    let s = c.requires.0 in
    let head = head_is c.row_at-row.ensures c.in-Two.is in
    let end = c.second_part.ensures in
    let later = second_later s head in (
      rw end (omega (arith, stands_within s, c.decreases)),
      (rw end (stands_two s head).right, omega (arith, c.requires.1, c.fill-p-in-Two.auto.statics)),
    )

pub entered-requires-in-Two : goal.entered-requires-in-Two
entered-requires-in-Two t c =
    let s = c.requires.0 in
    let next = c.first_part-first.ensures in
    let head = head_is c.row_at-row.ensures c.in-Two.is in
    let end = c.second_part.ensures in
    let first = rw next at c.fill-p-in-Two.ensures in
    let second = rw end at c.fill-q.ensures in
    let own = two_means s head first second c.two_sets.ensures in
    let small = both_small c.two_sets.result s.stmt s.low own in
    (omega (arith, stands_within s, c.requires.1, c.fill-p-in-Two.auto.statics, c.fill-q.auto.statics), small.0, small.1)

pub returns-in-Zero : goal.returns-in-Zero
returns-in-Zero t c =
    λ s. leaf_filled s (head_is c.row_at-row.ensures c.in-Zero.is) c.leaf_sets.ensures
    c.entered.ensures

pub returns-in-One : goal.returns-in-One
returns-in-One t c =
    λ s. let next : c.first_part-first.result ≡ further c.args.n 1 = c.first_part-first.ensures in
    let head = head_is c.row_at-row.ensures c.in-One.is in
    let halts = halts_asked c.number.ensures c.number-in-One.ensures c.row_at-row.ensures in
    let went = rw next at c.fill-p.ensures in
    let own = one_means s head halts went c.one_sets.ensures in
    one_filled s head went own c.entered-in-One.ensures

pub returns-in-Two : goal.returns-in-Two
returns-in-Two t c =
    λ s. let next : c.first_part-first.result ≡ further c.args.n 1 = c.first_part-first.ensures in
    let head = head_is c.row_at-row.ensures c.in-Two.is in
    let end = c.second_part.ensures in
    let first = rw next at c.fill-p-in-Two.ensures in
    let second = rw end at c.fill-q.ensures in
    let own = two_means s head first second c.two_sets.ensures in
    two_filled s head first second own c.entered-in-Two.ensures
