-- `leads_parallel` meets its contract: the codes of f from the other side's on, those up to a common one, and f where the other may stand
-- ended.
use Rattle.sets.proofs.Leading.{parallel_leads}
use Rattle.bits.specs.Bits.{has}
use Rattle.limits.specs.Limits.{max_codes}
use Rattle.sets.proofs.leads_parallel.Goals as goal

pub returns : goal.returns
returns c =
    λ small. let common = (c.up_to_common.ensures max_codes small).codes in
    parallel_leads (has c.args.q.r) (has c.args.f) c.at_least.ensures.0 common
    c.join-with_other.ensures c.ends.ensures c.only_if.ensures c.join.ensures
