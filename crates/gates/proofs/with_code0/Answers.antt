-- `with_code0` meets its contract: one store at code 0.
use borrow.Author.Rules.{rules}
use Rattle.gates.proofs.OrRow.{with_code0_is}
use Rattle.gates.proofs.with_code0.Goals as goal

pub returns : goal.returns
returns c = with_code0_is c.args.y c.args.c (search rules)
