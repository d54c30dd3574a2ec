-- Nothing else satisfies the description of an entry that compiles a sheet: two answers to the same arguments are equal, and so is what was lent after them.
use mathlib.Core.List.{List}
use Prim.Native.Nat.{ℕ}
use Rattle.compiler.proofs.Unique.{one_check}
use Rattle.verdicts.specs.declared.Answer.{Answer}
use Rattle.verdicts.specs.declared.Listing.{Listing}
use Rattle.netlist_entries.proofs.OneNetAnswer.{Same, one_filed, one_handed}
use Rattle.compile_entries.specs.Compile.{Written, Listed}

module _ (s : List ℕ) where
  pub one_written : {r r' : Answer} (buffer : List ℕ) {after after' : List ℕ} → Written s r buffer after → Written s r' buffer after' → Same r r' after after'
  one_written buffer a b = one_filed a.filed (rw (one_check s b.checks a.checks) at b.filed)

  pub one_listed : {r r' : Listing} (words : List ℕ) {after after' : List ℕ} → Listed s r words after → Listed s r' words after' → Same r r' after after'
  one_listed words a b = one_handed a.handed (rw (one_check s b.checks a.checks) at b.handed)
