-- By the row's head: each return is the rule of its kind, by what the walks of the parts ensure. The rows from n on become fewer.
use mathlib.Core.Path.{sym, ◌∙◌}
use native.Mathlib.Omega.{arith}
use Rattle.rules.proofs.Walks.{run_within, run_number, run_leaf, run_one, run_left, run_right, right_further}
use Rattle.rules.proofs.Walks.{start_leaf, start_part, start_trap, start_sequence, start_stopped, start_then, start_else, start_parallel}
use Rattle.rules.proofs.+start.Goals as goal

pub row_at-row-requires : goal.row_at-row-requires
row_at-row-requires t c = run_within c.requires

pub leaf-requires : goal.leaf-requires
leaf-requires t c =
    run_leaf c.requires (rw c.row_at-row.ensures at c.in-Zero.is)

pub first_part-part-requires : goal.first_part-part-requires
first_part-part-requires t c =
    run_number c.requires

pub start-requires : goal.start-requires
start-requires t c =
    let head = rw c.row_at-row.ensures at c.in-One.is in
    let here = run_within c.requires in
    rw c.first_part-part.ensures (omega (arith, c.decreases, here), run_one c.requires head)

pub returns-in-Trap : goal.returns-in-Trap
returns-in-Trap t c =
    let head = rw (c.row_at-row.ensures, c.in-Trap.is) at c.in-One.is in
    let part = rw c.first_part-part.ensures at c.start.ensures in
    start_trap _ _ _ head part c.trapped.ensures

pub start-requires-in_default : goal.start-requires-in_default
start-requires-in_default t c =
    let head = rw c.row_at-row.ensures at c.in-One.is in
    let here = run_within c.requires in
    rw c.first_part-part.ensures (omega (arith, c.decreases, here), run_one c.requires head)

pub first_part-requires : goal.first_part-requires
first_part-requires t c =
    run_number c.requires

pub start-p-requires : goal.start-p-requires
start-p-requires t c =
    let head = rw (c.row_at-row.ensures, c.in-Sequence.is) at c.in-Two.is in
    let here = run_within c.requires in
    rw c.first_part.ensures (omega (arith, c.decreases, here), run_left c.requires head)

pub returns-then-p-ne0 : goal.returns-then-p-ne0
returns-then-p-ne0 t c =
    let head = rw (c.row_at-row.ensures, c.in-Sequence.is) at c.in-Two.is in
    let left = rw c.first_part.ensures at c.start-p.ensures in
    start_stopped _ _ _ head left c.if-p-ne0.true

pub second_part-requires : goal.second_part-requires
second_part-requires t c =
    let head = rw (c.row_at-row.ensures, c.in-Sequence.is) at c.in-Two.is in
    (run_number c.requires, run_within (run_left c.requires head))

pub start-requires-in-Sequence : goal.start-requires-in-Sequence
start-requires-in-Sequence t c =
    let head = rw (c.row_at-row.ensures, c.in-Sequence.is) at c.in-Two.is in
    let here = run_within c.requires in
    let further = right_further c.requires head in
    rw c.second_part.ensures (omega (arith, c.decreases, here, further), run_right c.requires head)

pub followed-requires : goal.followed-requires
followed-requires t c = c.if-p-ne0.false

pub first_part-requires-then-member : goal.first_part-requires-then-member
first_part-requires-then-member t c =
    run_number c.requires

pub start-requires-then-member : goal.start-requires-then-member
start-requires-then-member t c =
    let head = rw (c.row_at-row.ensures, c.in-Present.is) at c.in-Two.is in
    let here = run_within c.requires in
    rw c.first_part-then-member.ensures (omega (arith, c.decreases, here), run_left c.requires head)

pub returns-then-member : goal.returns-then-member
returns-then-member t c =
    let head = rw (c.row_at-row.ensures, c.in-Present.is) at c.in-Two.is in
    let present = rw c.signal_bit.ensures at (sym c.member.ensures ∙ c.if-member.true) in
    let left = rw c.first_part-then-member.ensures at c.start-then-member.ensures in
    start_then _ _ _ head present left

pub second_part-requires-in-Present : goal.second_part-requires-in-Present
second_part-requires-in-Present t c =
    let head = rw (c.row_at-row.ensures, c.in-Present.is) at c.in-Two.is in
    (run_number c.requires, run_within (run_left c.requires head))

pub start-requires-in-Present : goal.start-requires-in-Present
start-requires-in-Present t c =
    let head = rw (c.row_at-row.ensures, c.in-Present.is) at c.in-Two.is in
    let here = run_within c.requires in
    let further = right_further c.requires head in
    rw c.second_part-in-Present.ensures (omega (arith, c.decreases, here, further), run_right c.requires head)

pub first_part-requires-in-Parallel : goal.first_part-requires-in-Parallel
first_part-requires-in-Parallel t c =
    run_number c.requires

pub start-p-requires-in-Parallel : goal.start-p-requires-in-Parallel
start-p-requires-in-Parallel t c =
    let head = rw (c.row_at-row.ensures, c.in-Parallel.is) at c.in-Two.is in
    let here = run_within c.requires in
    rw c.first_part-in-Parallel.ensures (omega (arith, c.decreases, here), run_left c.requires head)

pub second_part-requires-in-Parallel : goal.second_part-requires-in-Parallel
second_part-requires-in-Parallel t c =
    let head = rw (c.row_at-row.ensures, c.in-Parallel.is) at c.in-Two.is in
    (run_number c.requires, run_within (run_left c.requires head))

pub start-requires-in-Parallel : goal.start-requires-in-Parallel
start-requires-in-Parallel t c =
    let head = rw (c.row_at-row.ensures, c.in-Parallel.is) at c.in-Two.is in
    let here = run_within c.requires in
    let further = right_further c.requires head in
    rw c.second_part-in-Parallel.ensures (omega (arith, c.decreases, here, further), run_right c.requires head)

pub returns-in-Zero : goal.returns-in-Zero
returns-in-Zero t c =
    start_leaf _ _ _ (rw c.row_at-row.ensures at c.in-Zero.is) c.leaf.ensures

pub returns-in_default : goal.returns-in_default
returns-in_default t c =
    let head = rw c.row_at-row.ensures at c.in-One.is in
    let part = rw c.first_part-part.ensures at c.start-in_default.ensures in
    start_part _ _ _ head c.in_default.not-Trap part

pub returns-else-p-ne0 : goal.returns-else-p-ne0
returns-else-p-ne0 t c =
    let head = rw (c.row_at-row.ensures, c.in-Sequence.is) at c.in-Two.is in
    let left = rw c.first_part.ensures at c.start-p.ensures in
    let right = rw c.second_part.ensures at c.start-in-Sequence.ensures in
    start_sequence _ _ _ head left right c.followed.ensures

pub returns-else-member : goal.returns-else-member
returns-else-member t c =
    let head = rw (c.row_at-row.ensures, c.in-Present.is) at c.in-Two.is in
    let absent = rw c.signal_bit.ensures at (sym c.member.ensures ∙ c.if-member.false) in
    let right = rw c.second_part-in-Present.ensures at c.start-in-Present.ensures in
    start_else _ _ _ head absent right

pub returns-in-Parallel : goal.returns-in-Parallel
returns-in-Parallel t c =
    let head = rw (c.row_at-row.ensures, c.in-Parallel.is) at c.in-Two.is in
    let left = rw c.first_part-in-Parallel.ensures at c.start-p-in-Parallel.ensures in
    let right = rw c.second_part-in-Parallel.ensures at c.start-in-Parallel.ensures in
    start_parallel _ _ _ head left right c.beside.ensures
