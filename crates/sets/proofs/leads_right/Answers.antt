-- `leads_right` meets its contract, arm by arm: the words of a statement with no code past the last are small.
use mathlib.Core.Path.{◌∙◌}
use Rattle.bits.specs.Bits.{has}
use Rattle.sets.specs.Leads.{leads_right}
use Rattle.sets.proofs.Columns.{both_small}
use Rattle.sets.proofs.Leading.{behind_means, right_means}
use Rattle.sets.proofs.leads_right.Goals as goal

pub returns-in-Sequence : goal.returns-in-Sequence
returns-in-Sequence c =
    λ t low m. rw c.in-Sequence.is
    (c.only_if.ensures ∙ behind_means c.args.p t m (has c.args.f) c.member.ensures)

pub returns-in-Present : goal.returns-in-Present
unfolding leads_right
returns-in-Present c = λ t low m. rw c.in-Present.is

pub returns-in-Parallel : goal.returns-in-Parallel
returns-in-Parallel c =
    λ t low m. rw c.in-Parallel.is (c.leads_parallel.ensures (both_small c.args.p t low m).1 ∙ right_means c.args.p t m (has c.args.f))
