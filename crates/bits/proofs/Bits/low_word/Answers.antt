-- The other words count in multiples of 2 to the 64.
use Rattle.bits.proofs.Whole.{fits, low_of_whole}
use borrow.Author.Rules.{rules}
use Rattle.bits.proofs.Bits.low_word.Goals as goal

pub returns : goal.returns
returns c = low_of_whole (record { long = search rules; small = λ p. fits (search rules) })
