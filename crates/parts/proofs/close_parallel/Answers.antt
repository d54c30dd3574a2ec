-- sel, the codes from the highest down, and Q is filled with what kills the parts.
use Rattle.bits.specs.Bits.{has}
use Rattle.parts.proofs.Laws.{parallel_closes}
use Rattle.parts.proofs.close_parallel.Goals as goal

pub returns : goal.returns
returns c =
    let a = c.args in
    parallel_closes (has a.keep) a.start a.w a.p a.q c.gate-sel.ensures c.parallel_row-h.ensures c.fill.ensures
