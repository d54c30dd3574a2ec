-- The tests are those of the definition, in its order.
use Rattle.files.specs.Judge.{judge_kind}
use Rattle.number.specs.Number.{pick}
use mathlib.Core.Path.{sym}
use borrow.Author.Tests.{lt-ltb, le-ltb}
use Rattle.files.proofs.judge_kind.Goals as goal

pub returns-then-highest-k : goal.returns-then-highest-k
unfolding judge_kind pick
returns-then-highest-k c = simp (lt-ltb _ _ c.if-highest-k.true)

pub returns-then-one_too_many : goal.returns-then-one_too_many
unfolding judge_kind pick
returns-then-one_too_many c = simp (le-ltb _ _ c.if-highest-k.false, sym c.if-one_too_many.ensures)

pub returns-then-kind_fits : goal.returns-then-kind_fits
unfolding judge_kind pick
returns-then-kind_fits c = simp (le-ltb _ _ c.if-highest-k.false, sym c.if-one_too_many.ensures, sym c.if-kind_fits.ensures)

pub returns-else-kind_fits : goal.returns-else-kind_fits
unfolding judge_kind pick
returns-else-kind_fits c = simp (le-ltb _ _ c.if-highest-k.false, sym c.if-one_too_many.ensures, sym c.if-kind_fits.ensures)
