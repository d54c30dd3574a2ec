-- `operands_carried` meets its contract: word by word.
use Prim.Native.Nat.{ℕ}
use mathlib.Core.Bool.{Bool, true, false}
use mathlib.Core.List.{List}
use mathlib.Core.Path.{refl}
use native.Mathlib.Omega.{arith}
use borrow.Author.Rules.{rules}
use borrow.Author.Tests.{tests}
use Rattle.std.proofs.lemmas.Iterator.{cases_from_all, YieldsList-from_slice}
use Rattle.cells.specs.Words.{cell_in, cells_of}
use Rattle.covers.specs.Checking.{Says, OperandCarried}
use Rattle.covers.proofs.Carrying.{decides_all, words_all, word_each}
use Rattle.covers.proofs.Listing.operands_carried.Goals as goal

pub returns : goal.returns
returns c =
    let tabled : List ℕ = c.args.self.now.tabled.now in
    let words : List ℕ = c.args.self.now.cells.now in
    let Operand = λ (b : Bool) (w : ℕ). Says tabled (OperandCarried (cells_of words) (cell_in w)) b in
    let all = cases_from_all _ _ _ (Operand true) (Operand false) c.all.ensures.ran (YieldsList-from_slice words cc)
    (λ x q k. search (rules, tests)) (λ x q k. search (rules, tests)) in
    λ cover k t. decides_all (Operand true) (Operand false) words all
    (λ each. words_all words cover (λ i h. (each i 0 (omega arith) h cover k t).holds refl))
    (λ i h here every. (here 0 cover k t).fails refl (word_each words cover every i))
