-- The register is reserved, x, v and its operand are made, and it is filled.
use Rattle.parts.proofs.Laws.{halt_builds}
use Rattle.parts.proofs.halt_cells.Goals as goal

pub returns : goal.returns
returns c =
    let a = c.args in
    let reserved = rw c.low.ensures at c.push-h.ensures in
    halt_builds a.lists.now a.w.go a.w.res a.w.kill reserved c.gate-x.ensures c.gate-v.ensures c.gate-d.ensures c.fill.ensures c.only.ensures
