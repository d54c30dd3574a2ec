-- `outputs_carried` meets its contract: output by output.
use Prim.Native.Nat.{ℕ, ◌+◌}
use mathlib.Core.Bool.{Bool, true, false}
use mathlib.Core.List.{List}
use mathlib.Core.Path.{refl}
use native.Mathlib.Omega.{arith}
use borrow.Author.Rules.{rules}
use borrow.Author.Tests.{tests}
use Rattle.std.specs.List.{range_with_len}
use Rattle.std.proofs.lemmas.Iterator.{cases_from_all, YieldsList-from_range}
use Rattle.std.proofs.lemmas.List.FromFn.{length-range_with_len, get_or-range_with_len}
use Rattle.number.specs.Counts.{cell_no}
use Rattle.cells.specs.Words.{cells_of}
use Rattle.covers.specs.Covers.{Carried}
use Rattle.covers.specs.Checking.{Says}
use Rattle.covers.proofs.Carrying.{decides_all, outputs_all, output_each}
use Rattle.covers.proofs.Listing.outputs_carried.Goals as goal

pub returns : goal.returns
returns c =
    let tabled : List ℕ = c.args.self.now.tabled.now in
    let cells = cells_of c.args.self.now.cells.now in
    let i : ℕ = c.args.i in
    let o : ℕ = c.args.o in
    let Output = λ (b : Bool) (s : ℕ). Says tabled (λ cover. Carried cells cover (cell_no (1 + s))) b in
    let all = cases_from_all _ _ _ (Output true) (Output false) c.all.ensures.ran
    (YieldsList-from_range (1 + i) (1 + i + o) o refl (omega arith)) (λ x q k. search (rules, tests)) (λ x q k. search (rules, tests)) in
    let long = length-range_with_len (1 + i) o in
    λ cover k t. decides_all (Output true) (Output false) (range_with_len (1 + i) o) all
    (λ each. outputs_all i o (λ n h.
    rw (get_or-range_with_len (1 + i) o n 0 h) at ((each n 0 (omega arith) (omega (arith, long)) cover k t).holds refl)))
    (λ n h here every. (here 0 cover k t).fails refl
    (rw (get_or-range_with_len (1 + i) o n 0 (omega (arith, long))) (output_each i o every n (omega (arith, long)))))
