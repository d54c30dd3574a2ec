-- `fill` meets its contract: a store past the end leaves the list as it is.
use mathlib.Core.Path.{sym}
use native.Mathlib.Omega.{arith}
use lib.Seq.{set_out}
use Rattle.cells.proofs.fill.Goals as goal

pub returns-then-at-cells : goal.returns-then-at-cells
returns-then-at-cells c = rw (c.number-at.ensures, c.word_of-w.ensures)

pub returns-else-at-cells : goal.returns-else-at-cells
returns-else-at-cells c = sym (set_out _ _ _ (omega (arith, c.number-at.ensures)))
