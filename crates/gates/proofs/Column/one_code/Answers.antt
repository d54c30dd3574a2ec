-- `one_code` meets its contract: its three steps are those of `level_at`.
use Rattle.gates.proofs.ParallelRow.{level_makes}
use Rattle.gates.proofs.Column.one_code.Goals as goal

pub returns : goal.returns
returns c =
    let args = c.args in
    level_makes args.p args.q args.x args.keep c.gate-m.ensures c.kept-net.ensures c.gate-above.ensures
