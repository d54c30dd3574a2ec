-- `may_end` meets its contract: 0 is asked of the two words of the entry.
use mathlib.Core.Path.{◌∙◌}
use mathlib.Core.Bool.{◌||◌}
use Rattle.sets.proofs.may_end.Goals as goal

pub returns : goal.returns
returns c =
    λ t low at.
    let m = c.sets_of.ensures.means t low at in
    c.ends.ensures ∙ (λ i. m.starts i 0 || m.resumes i 0)
