-- `two_sets` meets its contract: each arm is the law of its statement.
use Rattle.sets.proofs.Meaning.{means_sequence, means_present, means_parallel}
use Rattle.sets.proofs.two_sets.Goals as goal

pub returns-in-Sequence : goal.returns-in-Sequence
returns-in-Sequence c =
    λ t v left right.
    rw c.in-Sequence.is
    (means_sequence c.args.p c.args.q t v left right c.replace_0.ensures
    c.replace_0-in-Sequence.ensures c.join.ensures)

pub returns-in-Present : goal.returns-in-Present
returns-in-Present c =
    λ t v left right.
    rw c.in-Present.is
    (means_present c.args.p c.args.q t v left right _ c.join-in-Present.ensures c.join-in-Present-2.ensures)

pub returns-in-Parallel : goal.returns-in-Parallel
returns-in-Parallel c =
    λ t v left right.
    rw c.in-Parallel.is
    (means_parallel c.args.p c.args.q t v left right c.maxima_of.ensures
    (c.parallel_resumes.ensures t v left right))
