-- The words of the set stand at its place, and those of its number are its own.
use Prim.Native.Nat.{ℕ, ◌*◌}
use mathlib.Core.Path.{sym, ap, ◌∙◌}
use native.Mathlib.Omega.{arith}
use borrow.Author.Rules.{rules}
use lib.Seq.{sets}
use Rattle.std.proofs.lemmas.Slice.{put_mid-paste}
use Rattle.bits.specs.declared.Bits.{Bits}
use Rattle.bits.specs.Bits.{words}
use Rattle.bits.proofs.Whole.{Proper, fits, words_whole}
use Rattle.bits.proofs.Columns.{wrote}
use Rattle.bits.proofs.Bits.write.Goals as goal

pub returns : goal.returns
returns c =
    let column = c.args.column.now in
    let at : ℕ = c.args.n * words in
    let s : Bits = c.args.self in
    let proper : Proper s.words = record { long = search rules; small = λ p. fits (search rules) } in
    put_mid-paste at _ column _ s.words words c.copy_from_slice.ensures.after (omega arith) (sym proper.long)
    ∙ wrote column at s.words words proper.long (omega arith)
    ∙ ap (λ ws. sets column at ws) (sym (words_whole {b = s} proper))
