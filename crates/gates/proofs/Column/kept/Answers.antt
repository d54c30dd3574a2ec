-- `kept` meets its contract: `keep` decides as in `only_if`.
use Rattle.gates.proofs.Laws.{makes_old}
use Rattle.gates.proofs.Column.kept.Goals as goal

pub returns-then-keep : goal.returns-then-keep
returns-then-keep c = rw c.if-keep.true c.gate.ensures

pub returns : goal.returns
returns c = rw (c.if-keep.false, c.low.ensures) (makes_old 1 _ _)
