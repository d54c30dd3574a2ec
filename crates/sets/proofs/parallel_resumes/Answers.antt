-- `parallel_resumes` meets its contract: the maxima, and each side alone where the other may stand ended.
use Rattle.sets.proofs.Meaning.{parallel_resumes}
use Rattle.sets.proofs.parallel_resumes.Goals as goal

pub returns : goal.returns
returns c =
    λ t v left right.
    parallel_resumes c.args.p c.args.q t v left right c.ends.ensures c.only_if.ensures
    c.ends-2.ensures c.only_if-2.ensures c.join-alone.ensures c.maxima_of.ensures c.join.ensures
