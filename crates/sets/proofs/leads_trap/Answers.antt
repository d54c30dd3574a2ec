-- `leads_trap` meets its contract: the law of its sum.
use Rattle.sets.proofs.Leading.{trap_leads}
use Rattle.sets.proofs.leads_trap.Goals as goal

pub returns : goal.returns
returns c = trap_leads c.args.f
