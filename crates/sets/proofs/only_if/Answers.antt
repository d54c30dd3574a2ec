-- `only_if` meets its contract.
use mathlib.Core.Path.{fun_ext}
use Rattle.bits.proofs.Laws.{empty}
use Rattle.sets.proofs.only_if.Goals as goal

pub returns-then-there : goal.returns-then-there
returns-then-there c = rw c.if-there.true

pub returns : goal.returns
returns c = rw c.if-there.false (fun_ext empty)
