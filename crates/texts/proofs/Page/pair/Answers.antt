-- The two digits stand one behind the other.
use Rattle.texts.specs.Written.{in_hex}
use Rattle.texts.proofs.Putting.{writes_more}
use borrow.Author.Rules.{rules}
use Rattle.texts.proofs.Page.pair.Goals as goal

pub returns : goal.returns
unfolding in_hex
returns c =
    let high = rw c.glyph.ensures at c.byte.ensures in
    let low = rw c.glyph-2.ensures at c.byte-2.ensures in
    writes_more (search rules) high low
