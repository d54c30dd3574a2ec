-- By the row's head: each return is the rule of its kind, by what the walks of the parts ensure. The rows from n on become fewer, and a walk of the parts
-- comes between that of the statement and theirs.
use mathlib.Core.Bool.{not}
use mathlib.Core.Path.{sym, ap, ◌∙◌}
use native.Mathlib.Omega.{arith}
use Rattle.rules.proofs.Walks.{run_within, run_number, run_leaf, run_one, run_left, run_right}
use Rattle.rules.proofs.Resumes.{inside_off, inside_on, ask_part, ask_left, ask_right, ask_other}
use Rattle.rules.proofs.Resumes.{resume_off, resume_leaf, resume_cut, resume_again, resume_held, resume_watching}
use Rattle.rules.proofs.Resumes.{resume_trap, resume_signal, resume_right, resume_goes, resume_stays, resume_chosen, resume_parallel}
use Rattle.rules.proofs.+resume_resume_part_resume_sides.Goals as goal

pub resume-row_at-row-requires : goal.resume-row_at-row-requires
resume-row_at-row-requires t c = run_within c.requires.0

pub resume-leaf-requires : goal.resume-leaf-requires
resume-leaf-requires t c =
    run_leaf c.requires.0 (rw c.row_at-row.ensures at c.in-Zero.is)

pub resume-resume_part-requires : goal.resume-resume_part-requires
resume-resume_part-requires t c =
    let pre = c.requires in
    let run = pre.0 in
    let head = rw c.row_at-row.ensures at c.in-One.is in
    (omega (arith, c.decreases, run_within run), (run, pre.1, head))

pub resume-resume_sides-requires : goal.resume-resume_sides-requires
resume-resume_sides-requires t c =
    let pre = c.requires in
    let run = pre.0 in
    let head = rw c.row_at-row.ensures at c.in-Two.is in
    (omega (arith, c.decreases, run_within run), (run, pre.1, head))

pub resume-returns-in-Zero : goal.resume-returns-in-Zero
resume-returns-in-Zero t c =
    resume_leaf _ _ _ _ c.requires.1 (rw c.row_at-row.ensures at c.in-Zero.is) c.leaf.ensures

pub resume-returns-in-One : goal.resume-returns-in-One
resume-returns-in-One t c = c.resume_part.ensures

pub resume-returns-in-Two : goal.resume-returns-in-Two
resume-returns-in-Two t c = c.resume_sides.ensures

pub resume_part-first_part-part-requires : goal.resume_part-first_part-part-requires
resume_part-first_part-part-requires t c = run_number c.requires.0

pub resume_part-resume-p-requires : goal.resume_part-resume-p-requires
resume_part-resume-p-requires t c =
    let pre = c.requires in
    ask_part pre.0 c.decreases pre.2 pre.1 c.first_part-part.ensures

pub resume_part-returns-then-p-ne0 : goal.resume_part-returns-then-p-ne0
resume_part-returns-then-p-ne0 t c =
    let pre = c.requires in
    let head = rw c.in-Loop.is at pre.2 in
    let part = rw c.first_part-part.ensures at c.resume-p.ensures in
    resume_held _ _ _ _ pre.1 part head c.if-p-ne0.true

pub resume_part-start-requires : goal.resume_part-start-requires
resume_part-start-requires t c =
    let pre = c.requires in
    rw c.first_part-part.ensures (run_one pre.0 pre.2)

pub resume_part-followed-requires : goal.resume_part-followed-requires
resume_part-followed-requires t c = c.if-p-ne0.false

pub resume_part-returns-then-member : goal.resume_part-returns-then-member
resume_part-returns-then-member t c =
    let pre = c.requires in
    let head = rw c.in-Watching.is at pre.2 in
    let present = rw c.signal_bit.ensures at (sym c.member.ensures ∙ c.if-member.true) in
    resume_cut _ _ _ _ pre.1 head present c.idle.ensures

pub resume_part-resume-requires : goal.resume_part-resume-requires
resume_part-resume-requires t c =
    let pre = c.requires in
    ask_part pre.0 c.decreases pre.2 pre.1 c.first_part-part.ensures

pub resume_part-resume-requires-in-Trap : goal.resume_part-resume-requires-in-Trap
resume_part-resume-requires-in-Trap t c =
    let pre = c.requires in
    ask_part pre.0 c.decreases pre.2 pre.1 c.first_part-part.ensures

pub resume_part-resume-requires-in-Signal : goal.resume_part-resume-requires-in-Signal
resume_part-resume-requires-in-Signal t c =
    let pre = c.requires in
    ask_part pre.0 c.decreases pre.2 pre.1 c.first_part-part.ensures

pub resume_part-returns-else-p-ne0 : goal.resume_part-returns-else-p-ne0
resume_part-returns-else-p-ne0 t c =
    let pre = c.requires in
    let head = rw c.in-Loop.is at pre.2 in
    let part = rw c.first_part-part.ensures at c.resume-p.ensures in
    let begun = rw c.first_part-part.ensures at c.start.ensures in
    resume_again _ _ _ _ pre.1 part head begun c.followed.ensures

pub resume_part-returns-else-member : goal.resume_part-returns-else-member
resume_part-returns-else-member t c =
    let pre = c.requires in
    let head = rw c.in-Watching.is at pre.2 in
    let part = rw c.first_part-part.ensures at c.resume.ensures in
    let absent = rw c.signal_bit.ensures at (sym c.member.ensures ∙ c.if-member.false) in
    resume_watching _ _ _ _ pre.1 part head absent

pub resume_part-returns-in-Trap : goal.resume_part-returns-in-Trap
resume_part-returns-in-Trap t c =
    let pre = c.requires in
    let head = rw c.in-Trap.is at pre.2 in
    let part = rw c.first_part-part.ensures at c.resume-in-Trap.ensures in
    resume_trap _ _ _ _ pre.1 part head c.trapped.ensures

pub resume_part-returns-in-Signal : goal.resume_part-returns-in-Signal
resume_part-returns-in-Signal t c =
    let pre = c.requires in
    let head = rw c.in-Signal.is at pre.2 in
    let part = rw c.first_part-part.ensures at c.resume-in-Signal.ensures in
    resume_signal _ _ _ _ pre.1 part head

pub resume_sides-first_part-first-requires : goal.resume_sides-first_part-first-requires
resume_sides-first_part-first-requires t c = run_number c.requires.0

pub resume_sides-second_part-second-requires : goal.resume_sides-second_part-second-requires
resume_sides-second_part-second-requires t c =
    let pre = c.requires in
    let run = pre.0 in
    (run_number run, run_within (run_left run pre.2))

pub resume_sides-inside-requires : goal.resume_sides-inside-requires
resume_sides-inside-requires t c =
    let pre = c.requires in
    rw c.first_part-first.ensures (run_left pre.0 pre.2)

pub resume_sides-resume-q-requires : goal.resume_sides-resume-q-requires
resume_sides-resume-q-requires t c =
    let pre = c.requires in
    let off = inside_off c.first_part-first.ensures c.inside.ensures (ap not c.if-not-inside.true) in
    ask_other pre.0 c.decreases pre.2 pre.1 off c.second_part-second.ensures

pub resume_sides-returns-in-Parallel : goal.resume_sides-returns-in-Parallel
resume_sides-returns-in-Parallel t c =
    let pre = c.requires in
    let off = inside_off c.first_part-first.ensures c.inside.ensures (ap not c.if-not-inside.true) in
    let head = rw c.in-Parallel.is at pre.2 in
    let left = resume_off _ _ _ _ off c.idle.ensures in
    let right = rw c.second_part-second.ensures at c.resume-q.ensures in
    resume_parallel _ _ _ _ pre.1 head left right c.beside.ensures

pub resume_sides-returns-in_default : goal.resume_sides-returns-in_default
resume_sides-returns-in_default t c =
    let pre = c.requires in
    let off = inside_off c.first_part-first.ensures c.inside.ensures (ap not c.if-not-inside.true) in
    let right = rw c.second_part-second.ensures at c.resume-q.ensures in
    resume_right _ _ _ _ pre.1 pre.2 c.in_default.not-Parallel off right

pub resume_sides-resume-p-requires : goal.resume_sides-resume-p-requires
resume_sides-resume-p-requires t c =
    let pre = c.requires in
    ask_left pre.0 c.decreases pre.2 c.first_part-first.ensures c.inside.ensures (ap not c.if-not-inside.false)

pub resume_sides-returns-then-p-ne0 : goal.resume_sides-returns-then-p-ne0
resume_sides-returns-then-p-ne0 t c =
    let pre = c.requires in
    let head = rw c.in-Sequence.is at pre.2 in
    let in_left = inside_on c.first_part-first.ensures c.inside.ensures (ap not c.if-not-inside.false) in
    let left = rw c.first_part-first.ensures at c.resume-p.ensures in
    resume_stays _ _ _ _ pre.1 in_left left head c.if-p-ne0.true

pub resume_sides-start-requires : goal.resume_sides-start-requires
resume_sides-start-requires t c =
    let pre = c.requires in
    rw c.second_part-second.ensures (run_right pre.0 pre.2)

pub resume_sides-followed-requires : goal.resume_sides-followed-requires
resume_sides-followed-requires t c = c.if-p-ne0.false

pub resume_sides-inside-requires-in-Parallel-b : goal.resume_sides-inside-requires-in-Parallel-b
resume_sides-inside-requires-in-Parallel-b t c =
    let pre = c.requires in
    rw c.second_part-second.ensures (run_right pre.0 pre.2)

pub resume_sides-returns-then-not-inside-2 : goal.resume_sides-returns-then-not-inside-2
resume_sides-returns-then-not-inside-2 t c =
    let pre = c.requires in
    let left = rw c.first_part-first.ensures at c.resume-p.ensures in
    let off = inside_off c.second_part-second.ensures c.inside-in-Parallel-b.ensures (ap not c.if-not-inside-2.true) in
    let head = rw c.in-Parallel-b.is at pre.2 in
    let right = resume_off _ _ _ _ off c.idle-then-not-inside-2.ensures in
    resume_parallel _ _ _ _ pre.1 head left right c.beside-then-not-inside-2.ensures

pub resume_sides-resume-requires : goal.resume_sides-resume-requires
resume_sides-resume-requires t c =
    let pre = c.requires in
    ask_right pre.0 c.decreases pre.2 c.second_part-second.ensures c.inside-in-Parallel-b.ensures (ap not c.if-not-inside-2.false)

pub resume_sides-returns-else-p-ne0 : goal.resume_sides-returns-else-p-ne0
resume_sides-returns-else-p-ne0 t c =
    let pre = c.requires in
    let head = rw c.in-Sequence.is at pre.2 in
    let in_left = inside_on c.first_part-first.ensures c.inside.ensures (ap not c.if-not-inside.false) in
    let left = rw c.first_part-first.ensures at c.resume-p.ensures in
    let begun = rw c.second_part-second.ensures at c.start.ensures in
    resume_goes _ _ _ _ pre.1 in_left left head begun c.followed.ensures

pub resume_sides-returns-in-Present : goal.resume_sides-returns-in-Present
resume_sides-returns-in-Present t c =
    let pre = c.requires in
    let head = rw c.in-Present.is at pre.2 in
    let in_left = inside_on c.first_part-first.ensures c.inside.ensures (ap not c.if-not-inside.false) in
    let left = rw c.first_part-first.ensures at c.resume-p.ensures in
    resume_chosen _ _ _ _ pre.1 in_left left head

pub resume_sides-returns-else-not-inside-2 : goal.resume_sides-returns-else-not-inside-2
resume_sides-returns-else-not-inside-2 t c =
    let pre = c.requires in
    let left = rw c.first_part-first.ensures at c.resume-p.ensures in
    let right = rw c.second_part-second.ensures at c.resume.ensures in
    let head = rw c.in-Parallel-b.is at pre.2 in
    resume_parallel _ _ _ _ pre.1 head left right c.beside-in-Parallel-b.ensures
