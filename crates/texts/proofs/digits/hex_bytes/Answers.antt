-- The pairs are all of the text, or not.
use native.Mathlib.Omega.{arith}
use Rattle.texts.proofs.Pairs.{pairs_few, no_room, not_bytes, are_bytes}
use Rattle.texts.proofs.digits.hex_bytes.Goals as goal

pub returns-then-out-text-clause-unhexed : goal.returns-then-out-text-clause-unhexed
returns-then-out-text-clause-unhexed c = no_room _ _ (omega arith)

pub overflow_mul-n : goal.overflow_mul-n
overflow_mul-n c = omega (arith, c.pairs-n.ensures.number, pairs_few c.args.text.now)

pub returns-then-n-text-clause-unhexed : goal.returns-then-n-text-clause-unhexed
returns-then-n-text-clause-unhexed c = are_bytes _ _ (omega arith) c.pairs-n.ensures (omega arith)

pub returns-else-n-text-clause-unhexed : goal.returns-else-n-text-clause-unhexed
returns-else-n-text-clause-unhexed c = not_bytes _ _ (omega arith) c.pairs-n.ensures c.if-n-text.false
