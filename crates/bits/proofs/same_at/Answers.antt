-- The bits of `bit_and`.
use borrow.Author.Rules.{rules}
use Rattle.bits.proofs.None.{same_at}
use Rattle.bits.proofs.same_at.Goals as goal

pub returns : goal.returns
returns c = same_at 64 c.args.w c.args.a c.args.b (search rules) (search rules)
