-- So many digits hold any word.
use Rattle.texts.proofs.Numerals.{hex_is}
use borrow.Author.Rules.{rules}
use Rattle.texts.proofs.Page.hex.Goals as goal

pub returns : goal.returns
returns c = rw (hex_is c.args.n (search rules)) at c.numeral.ensures
