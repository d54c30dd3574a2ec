-- `alike` meets its contract: the law of its word's bits.
use Rattle.cuts.proofs.Words.{alike_in}
use borrow.Author.Rules.{rules}
use Rattle.cuts.proofs.alike.Goals as goal

pub returns : goal.returns
returns c = alike_in c.args.a c.args.b (search rules) (search rules)
