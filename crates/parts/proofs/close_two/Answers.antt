-- Each arm is its case of `close_two`.
use Rattle.bits.specs.Bits.{has}
use Rattle.parts.proofs.Laws.{sequence_closes, present_closes}
use Rattle.parts.proofs.close_two.Goals as goal

pub returns-in-Sequence : goal.returns-in-Sequence
returns-in-Sequence c =
    let a = c.args in
    rw c.in-Sequence.is
    (sequence_closes (has a.keep) a.start a.w a.p a.q (rw (c.with_code0-codes.ensures, c.low.ensures) at c.join.ensures))

pub returns-in-Present : goal.returns-in-Present
returns-in-Present c =
    let a = c.args in
    rw c.in-Present.is (present_closes (has a.keep) a.start a.w a.p a.q _ c.join-in-Present.ensures)
