-- `code_zero` meets its contract: its two steps are those of `last_at`.
use Rattle.gates.proofs.ParallelRow.{last_makes}
use Rattle.gates.proofs.Column.code_zero.Goals as goal

pub returns : goal.returns
returns c =
    let args = c.args in
    last_makes args.p args.q args.x args.keep c.gate-m.ensures c.kept.ensures
