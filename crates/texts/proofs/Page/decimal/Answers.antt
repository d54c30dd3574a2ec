-- So many digits hold any word.
use Rattle.texts.proofs.Numerals.{decimal_is}
use borrow.Author.Rules.{rules}
use Rattle.texts.proofs.Page.decimal.Goals as goal

pub returns : goal.returns
returns c = rw (decimal_is c.args.n (search rules)) at c.numeral.ensures
