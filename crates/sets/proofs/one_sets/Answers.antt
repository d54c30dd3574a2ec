-- `one_sets` meets its contract: each arm is the law of its statement.
use Rattle.sets.proofs.Meaning.{means_loop, means_watching, means_trap, means_signal}
use Rattle.sets.proofs.one_sets.Goals as goal

pub returns-in-Loop : goal.returns-in-Loop
returns-in-Loop c =
    λ t part halts.
    rw c.in-Loop.is (means_loop c.args.p t part c.without_0-k.ensures c.replace_0.ensures)

pub returns-in-Watching : goal.returns-in-Watching
returns-in-Watching c =
    λ t part halts.
    rw c.in-Watching.is
    (means_watching c.args.p t part _ halts c.with_0.ensures c.only_if.ensures)

pub returns-in-Trap : goal.returns-in-Trap
returns-in-Trap c =
    λ t part halts.
    rw c.in-Trap.is
    (means_trap c.args.p t part c.caught_codes.ensures c.caught_codes-in-Trap.ensures)

pub returns-in-Signal : goal.returns-in-Signal
returns-in-Signal c =
    λ t part halts.
    rw c.in-Signal.is (means_signal c.args.p t part _)
