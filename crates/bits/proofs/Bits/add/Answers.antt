-- One number more in one word is one number more in the set.
use Prim.Native.Nat.{ℕ, ◌+◌, ◌*◌, ◌/◌}
use mathlib.Core.Path.{◌≡◌, sym, ap, ◌∙◌}
use mathlib.Core.Bool.{Bool, ◌||◌}
use native.Mathlib.Omega.{arith}
use lib.Dec.{eqb}
use lib.ListN.{length, set}
use borrow.Author.Tests.{ne_eqb}
use Rattle.bits.specs.Bits.{has, words, whole}
use Rattle.bits.specs.declared.Bits.{Bits}
use Rattle.bits.proofs.Whole.{Proper, fits, has_word, has_wide}
use Rattle.bits.proofs.Making.{by_words, added, set_proper}
use borrow.Author.Rules.{rules}
use Rattle.bits.proofs.Bits.add.Goals as goal

pub returns-then-at-ge-WORDS : goal.returns-then-at-ge-WORDS
returns-then-at-ge-WORDS c = λ j. absurd (omega arith)

pub returns : goal.returns
returns c = let a = c.args in
    let s : Bits = a.self in
    let k : ℕ = a.k in
    let n : length s.words ≡ words = search rules in
    let proper : Proper s.words = record { long = search rules; small = λ p. fits (search rules) } in
    let r : Bits = record { words = set s.words (k / 64) c.add.result } in
    let made : Proper r.words = set_proper proper (k / 64) c.add.result (search rules) in
    by_words {b = r} made (λ j. has (whole s) j || eqb j k)
    (λ p m inside small. added s.words k c.add.result p m (omega arith) small c.add.ensures
    ∙ ap (λ (x : Bool). x || eqb (64 * p + m) k) (sym (has_word {b = s} proper p m small)))
    (λ j past. rw (has_wide {b = s} proper j past, ne_eqb j k (λ e. omega arith)))
