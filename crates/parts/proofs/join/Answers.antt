-- The sels' or, then the codes'.
use Rattle.parts.proofs.Laws.{joins}
use Rattle.parts.proofs.join.Goals as goal

pub returns : goal.returns
returns c =
    let a = c.args in
    joins a.p.sel a.q.sel a.p.codes a.q.codes c.gate-sel.ensures c.or_row-codes.ensures
