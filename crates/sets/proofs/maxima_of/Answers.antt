-- `maxima_of` meets its contract: the codes of each word from the lowest of the other on, joined.
use mathlib.Core.Path.{fun_ext, ◌∙◌}
use Rattle.sets.proofs.maxima_of.Goals as goal

pub at_least-requires : goal.at_least-requires
at_least-requires c = tt

pub at_least-requires-2 : goal.at_least-requires-2
at_least-requires-2 c = tt

pub join-requires : goal.join-requires
join-requires c = tt

pub returns : goal.returns
returns c = fun_ext λ j. c.join.ensures j ∙ rw (c.at_least.ensures.0, c.at_least-2.ensures.0)
