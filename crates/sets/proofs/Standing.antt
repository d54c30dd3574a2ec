-- Where a statement stands with no code past the last: what its row says, and that its parts stand so too.
use mathlib.Core.Path.{◌≡◌, sym, ap, ◌∙◌}
use mathlib.Core.List.{List}
use Prim.Native.Nat.{ℕ, ◌+◌, ◌<◌, ◌≤◌}
use native.Mathlib.Omega.{arith}
use lib.Dec.{ltb}
use lib.ListN.{length}
use Rattle.number.specs.declared.StmtNo.{StmtNo}
use Rattle.number.specs.declared.HaltNo.{HaltNo}
use Rattle.number.specs.Counts.{halt_no, of_halt, stmt_no, of_stmt}
use Rattle.limits.specs.Limits.{max_statements}
use Rattle.sheet.specs.declared.Leaf.{Leaf}
use Rattle.sheet.specs.declared.Unary.{Unary}
use Rattle.sheet.specs.declared.Binary.{Binary}
use Rattle.sheet.specs.declared.Head.{Head}
use Rattle.sheet.specs.declared.Row.{Row}
use Rattle.sheet.specs.declared.Head.TheVariants.{Zero, One, Two}
use Rattle.sheet.specs.Stmt.{Stmt, leaf, one, two, size, halt_count}
use Rattle.sheet.specs.Read.{further}
use Rattle.sheet.specs.Rows.{stmt_span, row_at, lay}
use Rattle.sheet.specs.Form.{halts_on, Proper}
use Rattle.sheet.proofs.Notions.{proper_exits}
use Rattle.sheet.proofs.Walk.{is_leaf, is_one, is_two, holds_second, within, holds_proper}
use Rattle.sets.specs.Words.{LowLeaf, Low, Stands}
use Rattle.sets.proofs.Bounds.{exits_low}

-- a row's head, as the walks come by it
pub head_is : {row row' : Row} {h : Head} → row ≡ row' → row.head ≡ h → row'.head ≡ h
head_is read is = ap (λ (r : Row). r.head) (sym read) ∙ is

-- and how they ask whether there are halts
pub halts_asked : {x y : ℕ} {row row' : Row} → x ≡ of_halt row.first → y ≡ of_halt row.past → row ≡ row'
    → ltb x y ≡ ltb (of_halt row'.first) (of_halt row'.past)
halts_asked first past read =
    (λ i. ltb (first i) (past i)) ∙ (λ i. ltb (of_halt (read i).first) (of_halt (read i).past))

-- what stands at row n, if its head says that it has one part, or two
pub record OnePart {rows : List Row} {n : StmtNo} (s : Stands rows n) (u : Unary) : Type 0 where
  pub part : Stands rows (further n 1)
  pub is : s.stmt ≡ one u part.stmt

pub record TwoParts {rows : List Row} {n : StmtNo} (s : Stands rows n) (b : Binary) : Type 0 where
  pub left : Stands rows (further n 1)
  pub right : Stands rows (row_at rows (further n 1)).end
  pub is : s.stmt ≡ two b left.stmt right.stmt
  pub second : (row_at rows (further n 1)).end ≡ further n (1 + size left.stmt)

module _ {rows : List Row} {n : StmtNo} (s : Stands rows n) where
  pub stands_within : of_stmt n < length rows
  stands_within = within rows n s.first s.stmt s.holds

  -- its number has a next one
  pub stands_number : of_stmt n < stmt_span
  stands_number = omega (arith, s.small)

  pub stands_leaf : {l : Leaf} → (row_at rows n).head ≡ Zero l → s.stmt ≡ leaf l
  stands_leaf e = is_leaf rows n s.first s.stmt s.holds e

  pub low_leaf : {l : Leaf} → (row_at rows n).head ≡ Zero l → LowLeaf l
  unfolding Low
  low_leaf e = rw (stands_leaf e) at s.low

  pub stands_one : {u : Unary} → (row_at rows n).head ≡ One u → OnePart s u
  unfolding Low size
  stands_one e =
      let k = is_one rows n s.first s.stmt s.holds e in
      let low = rw k.is at s.low in
      let whole : size s.stmt ≡ 1 + size k.part = ap size k.is in
      let small : of_stmt n + 1 + size k.part < stmt_span = omega (arith, s.small) in
      record { part = record { first = s.first; stmt = k.part; holds = k.holds; small = small; low = low }; is = k.is }

  pub stands_two : {b : Binary} → (row_at rows n).head ≡ Two b → TwoParts s b
  unfolding Low size
  stands_two e =
      let k = is_two rows n s.first s.stmt s.holds e in
      let low = rw k.is at s.low in
      let whole : size s.stmt ≡ 1 + size k.left + size k.right = ap size k.is in
      let small_left : of_stmt n + 1 + size k.left < stmt_span = omega (arith, s.small) in
      let small_right : of_stmt (row_at rows (further n 1)).end + size k.right < stmt_span =
      omega (arith, s.small, ap (λ (m : StmtNo). of_stmt m) k.second) in
      let a : HaltNo = halts_on s.first (halt_count k.left) in
      record {
        left = record { first = s.first; stmt = k.left; holds = k.holds_left; small = small_left; low = low.0 };
        right = record { first = a; stmt = k.right; holds = holds_second rows n s.first k; small = small_right; low = low.1 };
        is = k.is;
        second = k.second;
      }

  -- a part comes later in the rows
  pub second_later : {b : Binary} → (row_at rows n).head ≡ Two b → of_stmt n < of_stmt (row_at rows (further n 1)).end
  second_later e =
      let at : of_stmt (row_at rows (further n 1)).end ≡ of_stmt n + (1 + size (stands_two e).left.stmt) =
      ap (λ (k : StmtNo). of_stmt k) (stands_two e).second in
      omega arith

-- a whole sheet stands in its rows
pub stands_proper : (i o : ℕ) (rows : List Row) (t : Stmt) → Proper i o t → max_statements ≤ length rows
    → Stands (lay rows (stmt_no 0) (halt_no 0) t) (stmt_no 0)
stands_proper i o rows t h room =
    record {
      first = halt_no 0;
      stmt = t;
      holds = holds_proper i o rows t h room;
      small = omega (arith, h.statements);
      low = exits_low 0 t (omega arith) (proper_exits h);
    }
