-- `leads_left` meets its contract, arm by arm: the words of a statement with no code past the last are small.
use mathlib.Core.Path.{◌∙◌}
use Rattle.bits.specs.Bits.{has}
use Rattle.sets.specs.Leads.{leads_left}
use Rattle.sets.proofs.Columns.{both_small}
use Rattle.sets.proofs.Leading.{sequence_means, left_means}
use Rattle.sets.proofs.leads_left.Goals as goal

pub returns-in-Sequence : goal.returns-in-Sequence
returns-in-Sequence c =
    λ v low m. rw c.in-Sequence.is (c.leads_sequence.ensures (both_small c.args.q v low m).0 ∙ sequence_means c.args.q v m (has c.args.f))

pub returns-in-Present : goal.returns-in-Present
unfolding leads_left
returns-in-Present c = λ v low m. rw c.in-Present.is

pub returns-in-Parallel : goal.returns-in-Parallel
returns-in-Parallel c =
    λ v low m. rw c.in-Parallel.is (c.leads_parallel.ensures (both_small c.args.q v low m).1 ∙ left_means c.args.q v m (has c.args.f))
