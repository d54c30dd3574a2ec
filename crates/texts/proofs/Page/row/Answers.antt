use mathlib.Core.Path.{refl}
use native.Mathlib.Numerals.{add-one}
use native.Mathlib.Omega.{arith}
use borrow.Author.Rules.{rules}
use Rattle.texts.specs.Written.{row}
use Rattle.texts.proofs.Putting.{writes_none, row_next, row_done}
use Rattle.texts.proofs.Page.row.Goals as goal

pub loop-n-init : goal.loop-n-init
unfolding row
loop-n-init c = (refl, writes_none _ (search rules))

pub loop-n-preserved : goal.loop-n-preserved
loop-n-preserved c =
    let now = c.loop-n.invariant in
    (rw add-one, row_next _ (search rules) now.1 (omega arith) (rw now.0 at c.bytes.ensures) c.decimal.ensures)

pub returns : goal.returns
returns c = row_done _ c.loop-n.invariant.1 (omega arith)
