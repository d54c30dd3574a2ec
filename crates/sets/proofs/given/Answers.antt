-- `given` meets its contract: the two words of the entry, joined.
use mathlib.Core.Path.{fun_ext, ◌∙◌}
use Rattle.sets.specs.Codes.{join}
use Rattle.sets.proofs.given.Goals as goal

pub returns : goal.returns
returns c =
    λ t low at.
    let m = c.sets_of-b.ensures.means t low at in
    fun_ext c.join.ensures ∙ (λ i. join (m.starts i) (m.resumes i))
