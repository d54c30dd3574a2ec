-- `caught_codes` meets its contract: the lowest bit of the sum is 1 where a has 0 or 2, the next is code 1, and the rest stands one lower.
use Rattle.sets.proofs.Words.{caught_odd, caught_even}
use Rattle.sets.proofs.caught_codes.Goals as goal

pub returns-then-a-eq1 : goal.returns-then-a-eq1
returns-then-a-eq1 c = caught_odd c.args.a c.if-a-eq1.true

pub returns : goal.returns
returns c = caught_even c.args.a c.if-a-eq1.false
