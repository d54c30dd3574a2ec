-- A set of the code is the set of its number.
use borrow.Author.Rules.{rules}
use Rattle.bits.specs.declared.Bits.{Bits}
use Rattle.bits.proofs.Whole.{Proper, fits, bits_whole}
use Rattle.verdicts.proofs.with_state.Goals as goal

pub returns : goal.returns
returns c =
    let s : Bits = c.args.state in
    let proper : Proper s.words = record { long = search rules; small = λ p. fits (search rules) } in
    rw (bits_whole {b = s} proper)
