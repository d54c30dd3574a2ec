-- Boot off is no rest; with boot on it is whether a halt is set.
use mathlib.Core.Path.{sym, ◌∙◌}
use Rattle.rules.specs.States.{at_rest}
use Rattle.sheet_entries.proofs.rest.Goals as goal

pub returns-then-member : goal.returns-then-member
unfolding at_rest
returns-then-member c =
    let on = sym c.member.ensures ∙ c.if-member.true in
    rw on (rw c.new.ensures at c.no_halts_from.ensures)

pub returns-else-member : goal.returns-else-member
unfolding at_rest
returns-else-member c =
    let off = sym c.member.ensures ∙ c.if-member.false in
    rw off c.if-member.false
