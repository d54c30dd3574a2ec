use native.Mathlib.Omega.{arith}
use borrow.Author.Rules.{rules}
use Rattle.texts.proofs.Putting.{itself, itself_joins, pieces_none, pieces_next, pieces_done}
use Rattle.texts.proofs.Page.bytes.Goals as goal

pub loop-b-init : goal.loop-b-init
loop-b-init c = pieces_none itself itself_joins _ (search rules)

pub loop-b-preserved : goal.loop-b-preserved
loop-b-preserved c = pieces_next itself itself_joins _ (search rules) c.loop-b.invariant (omega arith) c.byte.ensures

pub returns : goal.returns
returns c = pieces_done itself itself_joins _ c.loop-b.invariant (omega arith)
