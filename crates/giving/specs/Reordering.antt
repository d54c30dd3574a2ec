-- With [6]: "a cover with any of its tables reordered".
use Rattle.std.specs.Prelude.{◌≡◌, List, ℕ, ◌<◌, length}
use Rattle.tables.specs.Answering.{Formed}
use Rattle.tables.specs.Orders.{orders}
use Rattle.tables.specs.Reordering.{reordered}
use Rattle.covers.specs.Covers.{table_at}

-- table k of the cover, a table as every one is, is put in the order with the number o, and the others are as they were
pub record OneReordered (k o : ℕ) (cover cover' : List ℕ) : Type 0 where
  pub order : o < orders
  pub formed : Formed (table_at cover k)
  pub long : length cover' ≡ length cover
  pub this : table_at cover' k ≡ reordered o (table_at cover k)
  pub others : (j : ℕ) → (j ≡ k → ⊥) → table_at cover' j ≡ table_at cover j

-- none, and one after the other
pub data Reordered : List ℕ → List ℕ → Type 0 where
  none : {cover : List ℕ} → Reordered cover cover
  and_one : {k o : ℕ} {cover cover' cover'' : List ℕ} → Reordered cover cover' → OneReordered k o cover' cover'' → Reordered cover cover''
