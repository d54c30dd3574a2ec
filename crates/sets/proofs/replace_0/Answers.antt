-- `replace_0` meets its contract: with 0 in a, a - 1 is a less 0; without, b does not matter.
use Rattle.sets.proofs.Words.{replaced_odd, replaced_even}
use Rattle.sets.proofs.replace_0.Goals as goal

pub returns-then-a-eq1 : goal.returns-then-a-eq1
returns-then-a-eq1 c =
    replaced_odd c.args.a c.args.b c.join.result c.if-a-eq1.true c.join.ensures

pub returns : goal.returns
returns c = replaced_even c.args.a c.args.b c.if-a-eq1.false
