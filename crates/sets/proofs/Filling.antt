-- What one level of the walk that fills the column does, for a statement with no part, with one and with two.
use mathlib.Core.Path.{◌≡◌, sym, ap, ◌∙◌}
use mathlib.Core.Bool.{Bool}
use mathlib.Core.List.{List}
use Prim.Native.Nat.{◌+◌}
use lib.Dec.{ltb}
use lib.ListN.{set}
use Rattle.number.specs.declared.StmtNo.{StmtNo}
use Rattle.number.specs.Counts.{of_stmt, of_halt}
use Rattle.sheet.specs.declared.Leaf.{Leaf}
use Rattle.sheet.specs.declared.Unary.{Unary}
use Rattle.sheet.specs.declared.Binary.{Binary}
use Rattle.sheet.specs.declared.Head.TheVariants.{Zero, One, Two}
use Rattle.sheet.specs.Stmt.{Stmt, leaf, one, two, size}
use Rattle.sheet.specs.Read.{further}
use Rattle.sheet.specs.Rows.{row_at}
use Rattle.sets.specs.declared.Both.{Both}
use Rattle.sets.specs.declared.Entry.{Entry}
use Rattle.sets.specs.Static.{has_halts}
use Rattle.sets.specs.Words.{Stands, entry_of, as_entry, filled, Means, Wrote, Filled}
use Rattle.sets.proofs.Bounds.{halts_row}
use Rattle.sets.proofs.Columns.{entry_is}
use Rattle.sets.proofs.Standing.{OnePart, TwoParts, stands_leaf, stands_one, stands_two}
use Rattle.sheet.specs.declared.Row.{Row}

-- the walk went into whatever stands at row m
abbrev pub Went : List Row → StmtNo → Both → List Entry → List Entry → Type 0
Went rows m b before after = (x : Stands rows m) → Filled m x.stmt b before after

module _ {rows : List Row} {n : StmtNo} (s : Stands rows n) where
  -- its two words, from those of its parts
  pub leaf_means : {l : Leaf} {b : Both} → (row_at rows n).head ≡ Zero l → Means b (leaf l) → Means b s.stmt
  leaf_means e m = rw (stands_leaf s e) m

  pub one_means : {u : Unary} {p b : Both} {halts : Bool} {before mid : List Entry} → (row_at rows n).head ≡ One u
      → halts ≡ ltb (of_halt (row_at rows n).first) (of_halt (row_at rows n).past) → Went rows (further n 1) p before mid
      → ((t : Stmt) → Means p t → halts ≡ has_halts t → Means b (one u t)) → Means b s.stmt
  unfolding has_halts
  one_means {halts = halts} e some went made =
      let k : OnePart s _ = stands_one s e in
      let own : halts ≡ has_halts s.stmt = some ∙ halts_row rows n s.first s.stmt s.holds in
      rw k.is (made k.part.stmt (went k.part).answer (rw k.is at own))

  pub two_means : {b : Binary} {p q r : Both} {before mid after : List Entry} → (row_at rows n).head ≡ Two b
      → Went rows (further n 1) p before mid
      → Went rows (row_at rows (further n 1)).end q mid after → ((t v : Stmt) → Means p t → Means q v → Means r (two b t v))
      → Means r s.stmt
  two_means e first second made =
      let k : TwoParts s _ = stands_two s e in
      rw k.is (made k.left.stmt k.right.stmt (first k.left).answer (second k.right).answer)

  -- and what the walk leaves, once its entry was written
  pub leaf_filled : {l : Leaf} {b r : Both} {before after : List Entry} → (row_at rows n).head ≡ Zero l → Means b (leaf l)
      → Wrote n b r before after
      → Filled n s.stmt r before after
  unfolding filled
  leaf_filled {b = b} e m w =
      let is = stands_leaf s e in
      let own : Means b s.stmt = leaf_means e m in
      record {
        answer = rw w.same own;
        column = w.entry ∙ rw (entry_is b s.stmt s.low own, is);
      }

  pub one_filled : {u : Unary} {p b r : Both} {before mid after : List Entry} → (row_at rows n).head ≡ One u
      → Went rows (further n 1) p before mid
      → Means b s.stmt → Wrote n b r mid after → Filled n s.stmt r before after
  unfolding filled
  one_filled {b = b} {before = before} e went own w =
      let k : OnePart s _ = stands_one s e in
      let entry : as_entry b ≡ entry_of (one _ k.part.stmt) = entry_is b s.stmt s.low own ∙ ap entry_of k.is in
      record {
        answer = rw w.same own;
        column = w.entry ∙ (λ i. set ((went k.part).column i) (of_stmt n) (entry i)) ∙ sym (ap (filled before n) k.is);
      }

  pub two_filled : {b : Binary} {p q c r : Both} {before mid last after : List Entry} → (row_at rows n).head ≡ Two b
      → Went rows (further n 1) p before mid → Went rows (row_at rows (further n 1)).end q mid last
      → Means c s.stmt → Wrote n c r last after → Filled n s.stmt r before after
  unfolding filled
  two_filled {c = c} {before = before} {last = last} e first second own w =
      let k : TwoParts s _ = stands_two s e in
      let left : Stmt = k.left.stmt in
      let right : Stmt = k.right.stmt in
      let entry : as_entry c ≡ entry_of (two _ left right) = entry_is c s.stmt s.low own ∙ ap entry_of k.is in
      let parts : last ≡ filled (filled before (further n 1) left) (further n (1 + size left)) right =
      (second k.right).column ∙ (λ i. filled ((first k.left).column i) (k.second i) right) in
      record {
        answer = rw w.same own;
        column = w.entry ∙ (λ i. set (parts i) (of_stmt n) (entry i)) ∙ sym (ap (filled before n) k.is);
      }
