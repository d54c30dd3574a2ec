-- The tests are those of the definition, in its order.
use Rattle.files.specs.Judge.{judge_count}
use Rattle.number.specs.Number.{pick}
use mathlib.Core.Path.{sym}
use borrow.Author.Tests.{lt-ltb, le-ltb}
use Rattle.files.proofs.judge_count.Goals as goal

pub returns-then-many_cells : goal.returns-then-many_cells
unfolding judge_count pick
returns-then-many_cells c = simp (sym c.if-many_cells.ensures)

pub returns-then-m-i : goal.returns-then-m-i
unfolding judge_count pick
returns-then-m-i c = simp (sym c.if-many_cells.ensures, lt-ltb _ _ c.if-m-i.true)

pub returns : goal.returns
unfolding judge_count pick
returns c = simp (sym c.if-many_cells.ensures, le-ltb _ _ c.if-m-i.false)
