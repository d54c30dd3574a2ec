-- `leads_sequence` meets its contract: K is below 2 ^ max_codes, and 0 leads to f just where K meets it.
use mathlib.Core.Path.{sym, ◌∙◌}
use Rattle.bits.specs.Bits.{has}
use Rattle.sets.proofs.Leading.{sequence_led, sequence_not}
use Rattle.limits.specs.Limits.{max_codes}
use Rattle.sets.proofs.leads_sequence.Goals as goal

pub returns-then-meets : goal.returns-then-meets
returns-then-meets c =
    λ small. let met = sym (c.meets.ensures max_codes small) ∙ c.if-meets.true in
    c.with_0.ensures ∙ sequence_led (has c.args.k) (has c.args.f) met

pub returns : goal.returns
returns c =
    λ small. let met = sym (c.meets.ensures max_codes small) ∙ c.if-meets.false in
    c.without_0.ensures ∙ sequence_not (has c.args.k) (has c.args.f) met
