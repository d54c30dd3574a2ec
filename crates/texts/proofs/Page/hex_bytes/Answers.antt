use native.Mathlib.Omega.{arith}
use borrow.Author.Rules.{rules}
use Rattle.texts.specs.Written.{in_hex}
use Rattle.texts.proofs.Putting.{hex_joins, pieces_none, pieces_next, pieces_done}
use Rattle.texts.proofs.Page.hex_bytes.Goals as goal

pub loop-b-init : goal.loop-b-init
loop-b-init c = pieces_none in_hex hex_joins _ (search rules)

pub loop-b-preserved : goal.loop-b-preserved
loop-b-preserved c = pieces_next in_hex hex_joins _ (search rules) c.loop-b.invariant (omega arith) c.pair.ensures

pub returns : goal.returns
returns c = pieces_done in_hex hex_joins _ c.loop-b.invariant (omega arith)
