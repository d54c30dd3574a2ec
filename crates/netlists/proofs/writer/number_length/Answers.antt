-- One byte below 128, and else two.
use Rattle.number.proofs.Laws.{one_byte, two_bytes}
use lib.ListN.{length}
use mathlib.Core.Path.{sym, ap}
use Rattle.netlists.proofs.writer.number_length.Goals as goal

pub returns-then-v-lt128 : goal.returns-then-v-lt128
returns-then-v-lt128 c = sym (ap length (one_byte _ c.if-v-lt128.true))

pub returns-else-v-lt128 : goal.returns-else-v-lt128
returns-else-v-lt128 c = sym (ap length (two_bytes _ c.if-v-lt128.false))
