-- Each arm is its case of `close_one`.
use Rattle.parts.proofs.Laws.{loop_closes, watching_closes, trap_closes, signal_closes}
use Rattle.parts.proofs.close_one.Goals as goal

pub returns-in-Loop : goal.returns-in-Loop
returns-in-Loop c =
    let a = c.args in
    rw c.in-Loop.is (loop_closes a.start a.w a.p c.fill.ensures (rw c.low.ensures at c.with_code0.ensures))

pub returns-in-Watching : goal.returns-in-Watching
returns-in-Watching c =
    let a = c.args in
    let gated = rw c.signal_cell.ensures at c.gate-y.ensures in
    rw c.in-Watching.is (watching_closes a.start a.w a.p _ c.gate-x.ensures gated c.gate-o.ensures c.with_code0-in-Watching.ensures)

pub returns-in-Trap : goal.returns-in-Trap
returns-in-Trap c =
    let a = c.args in
    rw c.in-Trap.is (trap_closes a.start a.w a.p c.gate-o-in-Trap.ensures c.trap_row.ensures)

pub returns-in-Signal : goal.returns-in-Signal
returns-in-Signal c =
    let a = c.args in
    rw c.in-Signal.is (signal_closes a.start a.w a.p _ _)
