-- The lowest word of a set is all of it.
use Rattle.bits.specs.declared.Bits.{Bits}
use Rattle.bits.proofs.Whole.{Proper, fits}
use Rattle.texts.proofs.Sets.{low_is_whole}
use borrow.Author.Rules.{rules}
use Rattle.texts.proofs.Page.set.Goals as goal

pub returns : goal.returns
returns c =
    let s : Bits = c.args.set in
    let proper : Proper s.words = record { long = search rules; small = λ p. fits (search rules) } in
    rw (c.low_word.ensures, low_is_whole {b = s} proper) at c.hex.ensures
