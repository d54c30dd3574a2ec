-- `leads_one` meets its contract, arm by arm.
use Rattle.sets.specs.Leads.{leads_one}
use Rattle.sets.proofs.leads_one.Goals as goal

pub returns-in-Loop : goal.returns-in-Loop
unfolding leads_one
returns-in-Loop c = rw c.in-Loop.is c.with_0.ensures

pub returns-in-Watching : goal.returns-in-Watching
unfolding leads_one
returns-in-Watching c = rw c.in-Watching.is

pub returns-in-Trap : goal.returns-in-Trap
unfolding leads_one
returns-in-Trap c = rw c.in-Trap.is c.leads_trap.ensures

pub returns-in-Signal : goal.returns-in-Signal
unfolding leads_one
returns-in-Signal c = rw c.in-Signal.is
