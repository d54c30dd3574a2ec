-- The three kinds of code that a trap tells apart.
use native.Mathlib.Omega.{arith}
use Rattle.rules.proofs.Meanings.{caught_low, caught_high}
use Rattle.rules.proofs.caught.Goals as goal

pub returns-then-code-lt2 : goal.returns-then-code-lt2
returns-then-code-lt2 c = caught_low c.args.code c.if-code-lt2.true

pub returns : goal.returns
returns c = caught_high c.args.code _ (omega arith) (omega arith)
