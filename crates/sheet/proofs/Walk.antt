-- What a walk reads off the rows: the whole interface of later crates to them. Rows that were laid hold the statement, and where they do, a
-- row says what the statement is and where its parts stand.
use mathlib.Core.Path.{◌≡◌, refl, sym, ap, ◌∙◌}
use mathlib.Core.List.{List}
use Prim.Native.Nat.{ℕ, ◌+◌, ◌<◌, ◌≤◌}
use native.Mathlib.Omega.{arith}
use native.Mathlib.Nat.{add_assoc}
use lib.ListN.{length, get_or, set, length-set}
use lib.Seq.{get_or-set_same, get_or-set_other}
use Rattle.number.specs.declared.StmtNo.{StmtNo}
use Rattle.number.specs.declared.HaltNo.{HaltNo}
use Rattle.number.specs.Counts.{halt_no, stmt_no, of_stmt}
use Rattle.limits.specs.Limits.{max_statements}
use Rattle.sheet.specs.declared.Leaf.{Leaf}
use Rattle.sheet.specs.declared.Unary.{Unary}
use Rattle.sheet.specs.declared.Binary.{Binary}
use Rattle.sheet.specs.declared.Head.TheVariants.{Zero, One, Two}
use Rattle.sheet.specs.declared.Row.{Row}
use Rattle.sheet.specs.Stmt.{Stmt, leaf, one, two, head_of, size, halt_count}
use Rattle.sheet.specs.Read.{further}
use Rattle.sheet.specs.Rows.{empty_row, row_of, row_at, lay, Holds, Tree}
use Rattle.sheet.specs.Form.{halts_on, Proper}

-- a statement has a row of its own
pub size_pos : (t : Stmt) → 1 ≤ size t
unfolding size
size_pos (leaf l) = omega arith
size_pos (one u p) = omega arith
size_pos (two b p q) = omega arith

-- laying rows changes none of the rows before them, nor how many there are
pub length_lay : (rows : List Row) (n : StmtNo) (a : HaltNo) (t : Stmt) → length (lay rows n a t) ≡ length rows
unfolding lay
length_lay rows n a (leaf l) = length-set rows (of_stmt n) _
length_lay rows n a (one u p) = length-set (lay rows (further n 1) a p) (of_stmt n) _ ∙ length_lay rows (further n 1) a p
length_lay rows n a (two b p q) =
    let rows₁ : List Row = lay rows (further n 1) a p in
    let rows₂ : List Row = lay rows₁ (further n (1 + size p)) (halts_on a (halt_count p)) q in
    length-set rows₂ (of_stmt n) _ ∙ length_lay rows₁ (further n (1 + size p)) (halts_on a (halt_count p)) q
    ∙ length_lay rows (further n 1) a p

pub lay_below : (rows : List Row) (n : StmtNo) (a : HaltNo) (t : Stmt) (j : ℕ) → j < of_stmt n → get_or (lay rows n a t) j empty_row ≡ get_or rows j empty_row
unfolding lay
lay_below rows n a (leaf l) j h = get_or-set_other rows (of_stmt n) j _ empty_row (omega arith)
lay_below rows n a (one u p) j h =
    get_or-set_other (lay rows (further n 1) a p) (of_stmt n) j _ empty_row (omega arith) ∙ lay_below rows (further n 1) a p j (omega arith)
lay_below rows n a (two b p q) j h =
    let rows₁ : List Row = lay rows (further n 1) a p in
    let rows₂ : List Row = lay rows₁ (further n (1 + size p)) (halts_on a (halt_count p)) q in
    get_or-set_other rows₂ (of_stmt n) j _ empty_row (omega arith)
    ∙ lay_below rows₁ (further n (1 + size p)) (halts_on a (halt_count p)) q j (omega arith)
    ∙ lay_below rows (further n 1) a p j (omega arith)

-- to hold a statement is a claim on its own rows alone
abbrev Agree : List Row → List Row → StmtNo → ℕ → Type 0
Agree rows rows' n k = (j : ℕ) → of_stmt n ≤ j → j < of_stmt n + k → get_or rows' j empty_row ≡ get_or rows j empty_row

pub holds_agree : (rows rows' : List Row) (n : StmtNo) (a : HaltNo) (t : Stmt) → length rows' ≡ length rows → Agree rows rows' n (size t)
    → Holds rows n a t → Holds rows' n a t
unfolding Holds size
holds_agree rows rows' n a (leaf l) len same h =
    (omega (arith, h.0), same (of_stmt n) (omega arith) (omega arith) ∙ h.1)
holds_agree rows rows' n a (one u p) len same h = (
  omega (arith, h.0),
  same (of_stmt n) (omega arith) (omega arith) ∙ h.1,
  holds_agree rows rows' (further n 1) a p len (λ j x y. same j (omega arith) (omega arith)) h.2,
)
holds_agree rows rows' n a (two b p q) len same h = (
  omega (arith, h.0),
  same (of_stmt n) (omega arith) (omega arith) ∙ h.1,
  holds_agree rows rows' (further n 1) a p len (λ j x y. same j (omega arith) (omega arith)) h.2,
  holds_agree rows rows' (further n (1 + size p)) (halts_on a (halt_count p)) q len (λ j x y. same j (omega arith) (omega arith)) h.3,
)

-- the row that was written last, over rows of the same length, is there, and is read back
row_laid : (rows rows' : List Row) (n : StmtNo) (a : HaltNo) (t : Stmt) → length rows' ≡ length rows → of_stmt n + size t ≤ length rows
    → (of_stmt n < length (set rows' (of_stmt n) (row_of n a t))) × (row_at (set rows' (of_stmt n) (row_of n a t)) n ≡ row_of n a t)
row_laid rows rows' n a t len r =
    let w : Row = row_of n a t in
    let some : 1 ≤ size t = size_pos t in
    let inside : of_stmt n < length rows' = omega arith in
    (omega (arith, length-set rows' (of_stmt n) w), get_or-set_same rows' (of_stmt n) w empty_row inside)

-- rows that were laid hold their statement
pub holds_laid : (rows : List Row) (n : StmtNo) (a : HaltNo) (t : Stmt) → of_stmt n + size t ≤ length rows → Holds (lay rows n a t) n a t
unfolding lay Holds size
holds_laid rows n a (leaf l) r = row_laid rows rows n a (leaf l) refl r
holds_laid rows n a (one u p) r =
    let n₁ : StmtNo = further n 1 in
    let rows₁ : List Row = lay rows n₁ a p in
    let w : Row = row_of n a (one u p) in
    let row = row_laid rows rows₁ n a (one u p) (length_lay rows n₁ a p) r in
    let part = holds_laid rows n₁ a p (omega arith) in
    let kept : Agree rows₁ (set rows₁ (of_stmt n) w) n₁ (size p) = λ j x y. get_or-set_other rows₁ (of_stmt n) j w empty_row (omega arith) in
    (row.0, row.1, holds_agree rows₁ (set rows₁ (of_stmt n) w) n₁ a p (length-set rows₁ (of_stmt n) w) kept part)
holds_laid rows n a (two b p q) r =
    let n₁ : StmtNo = further n 1 in
    let n₂ : StmtNo = further n (1 + size p) in
    let a₂ : HaltNo = halts_on a (halt_count p) in
    let rows₁ : List Row = lay rows n₁ a p in
    let rows₂ : List Row = lay rows₁ n₂ a₂ q in
    let w : Row = row_of n a (two b p q) in
    let rows₃ : List Row = set rows₂ (of_stmt n) w in
    let len₁ : length rows₁ ≡ length rows = length_lay rows n₁ a p in
    let len₂ : length rows₂ ≡ length rows₁ = length_lay rows₁ n₂ a₂ q in
    let len₃ : length rows₃ ≡ length rows₂ = length-set rows₂ (of_stmt n) w in
    let row = row_laid rows rows₂ n a (two b p q) (len₂ ∙ len₁) r in
    let left = holds_laid rows n₁ a p (omega arith) in
    let right = holds_laid rows₁ n₂ a₂ q (omega arith) in
    let same : (j : ℕ) → of_stmt n < j → get_or rows₃ j empty_row ≡ get_or rows₂ j empty_row = λ j x. get_or-set_other rows₂ (of_stmt n) j w empty_row (omega arith) in
    let kept₁ : Agree rows₁ rows₃ n₁ (size p) = λ j x y. same j (omega arith) ∙ lay_below rows₁ n₂ a₂ q j (omega arith) in
    let kept₂ : Agree rows₂ rows₃ n₂ (size q) = λ j x y. same j (omega arith) in
    (row.0, row.1, holds_agree rows₁ rows₃ n₁ a p (len₃ ∙ len₂) kept₁ left, holds_agree rows₂ rows₃ n₂ a₂ q len₃ kept₂ right)

-- the rows of a whole sheet
pub holds_proper : (i o : ℕ) (rows : List Row) (t : Stmt) → Proper i o t → max_statements ≤ length rows
    → Holds (lay rows (stmt_no 0) (halt_no 0) t) (stmt_no 0) (halt_no 0) t
holds_proper i o rows t h room = holds_laid rows (stmt_no 0) (halt_no 0) t (omega (arith, h.statements))

-- What rows that hold t say. Its own row, and that all its rows are there:
module _ (rows : List Row) (n : StmtNo) (a : HaltNo) where
  pub row_of_lem : (t : Stmt) → Holds rows n a t → row_at rows n ≡ row_of n a t
  unfolding Holds
  row_of_lem (leaf l) h = h.1
  row_of_lem (one u p) h = h.1
  row_of_lem (two b p q) h = h.1

  pub within : (t : Stmt) → Holds rows n a t → of_stmt n < length rows
  unfolding Holds
  within (leaf l) h = h.0
  within (one u p) h = h.0
  within (two b p q) h = h.0

  -- the four parts of the row
  pub head_of_lem : (t : Stmt) → Holds rows n a t → (row_at rows n).head ≡ head_of t
  head_of_lem t h = ap (λ (r : Row). r.head) (row_of_lem t h)

  pub end_of : (t : Stmt) → Holds rows n a t → (row_at rows n).end ≡ further n (size t)
  end_of t h = ap (λ (r : Row). r.end) (row_of_lem t h)

  pub first_of : (t : Stmt) → Holds rows n a t → (row_at rows n).first ≡ a
  first_of t h = ap (λ (r : Row). r.first) (row_of_lem t h)

  pub past_of : (t : Stmt) → Holds rows n a t → (row_at rows n).past ≡ halts_on a (halt_count t)
  past_of t h = ap (λ (r : Row). r.past) (row_of_lem t h)

pub all_within : (rows : List Row) (n : StmtNo) (a : HaltNo) (t : Stmt) → Holds rows n a t → of_stmt n + size t ≤ length rows
unfolding Holds size
all_within rows n a (leaf l) h = omega (arith, h.0)
all_within rows n a (one u p) h = omega (arith, all_within rows (further n 1) a p h.2)
all_within rows n a (two b p q) h = omega (arith, all_within rows (further n (1 + size p)) (halts_on a (halt_count p)) q h.3)

-- what a row's head says of t, and where the rows hold its parts
pub record IsOne (rows : List Row) (n : StmtNo) (a : HaltNo) (t : Stmt) (u : Unary) : Type 0 where
  pub part : Stmt
  pub is : t ≡ one u part
  pub holds : Holds rows (further n 1) a part

-- the second part's number is the end of the first one's row
pub record IsTwo (rows : List Row) (n : StmtNo) (a : HaltNo) (t : Stmt) (b : Binary) : Type 0 where
  pub left : Stmt
  pub right : Stmt
  pub is : t ≡ two b left right
  pub holds_left : Holds rows (further n 1) a left
  pub holds_right : Holds rows (further n (1 + size left)) (halts_on a (halt_count left)) right
  pub second : (row_at rows (further n 1)).end ≡ further n (1 + size left)

module _ (rows : List Row) (n : StmtNo) (a : HaltNo) where
  pub is_leaf : (t : Stmt) → Holds rows n a t → {l : Leaf} → (row_at rows n).head ≡ Zero l → t ≡ leaf l
  unfolding head_of
  is_leaf (leaf l') h e = let w = sym (head_of_lem rows n a (leaf l') h) ∙ e in cc w
  is_leaf (one u p) h e = let w = sym (head_of_lem rows n a (one u p) h) ∙ e in cc w
  is_leaf (two b p q) h e = let w = sym (head_of_lem rows n a (two b p q) h) ∙ e in cc w

  pub is_one : (t : Stmt) → Holds rows n a t → {u : Unary} → (row_at rows n).head ≡ One u → IsOne rows n a t u
  unfolding head_of Holds
  is_one (leaf l) h e =
      let w = sym (head_of_lem rows n a (leaf l) h) ∙ e in
      let absurdity : ◌≡◌ {A = ℕ} 0 1 = cc w in absurd (omega arith)
  is_one (one u' p) h e = let w = sym (head_of_lem rows n a (one u' p) h) ∙ e in record { part = p; is = cc w; holds = h.2 }
  is_one (two b p q) h e =
      let w = sym (head_of_lem rows n a (two b p q) h) ∙ e in
      let absurdity : ◌≡◌ {A = ℕ} 0 1 = cc w in absurd (omega arith)

  pub is_two : (t : Stmt) → Holds rows n a t → {b : Binary} → (row_at rows n).head ≡ Two b → IsTwo rows n a t b
  unfolding head_of Holds
  is_two (leaf l) h e =
      let w = sym (head_of_lem rows n a (leaf l) h) ∙ e in
      let absurdity : ◌≡◌ {A = ℕ} 0 1 = cc w in absurd (omega arith)
  is_two (one u p) h e =
      let w = sym (head_of_lem rows n a (one u p) h) ∙ e in
      let absurdity : ◌≡◌ {A = ℕ} 0 1 = cc w in absurd (omega arith)
  is_two (two b' p q) h e =
      let w = sym (head_of_lem rows n a (two b' p q) h) ∙ e in
      record {
        left = p;
        right = q;
        is = cc w;
        holds_left = h.2;
        holds_right = h.3;
        second = end_of rows (further n 1) a p h.2 ∙ ap stmt_no (add_assoc (of_stmt n) 1 (size p));
      }

  -- the second part stands where the first one's row ends
  pub holds_second : {t : Stmt} {b : Binary} (k : IsTwo rows n a t b)
      → Holds rows (row_at rows (further n 1)).end (halts_on a (halt_count k.left)) k.right
  holds_second k = rw k.second k.holds_right

-- Where some statement stands: its rows are there, its end lies past it, and its parts stand where a walk goes on.
module _ {rows : List Row} {n : StmtNo} (tree : Tree rows n) where
  pub tree_within : of_stmt n < length rows
  tree_within = within rows n tree.first tree.stmt tree.holds

  pub tree_end : (of_stmt n < of_stmt (row_at rows n).end) × (of_stmt (row_at rows n).end ≤ length rows)
  tree_end =
      let row = end_of rows n tree.first tree.stmt tree.holds in
      let end : of_stmt (row_at rows n).end ≡ of_stmt n + size tree.stmt = ap (λ (k : StmtNo). of_stmt k) row in
      let last : of_stmt n + size tree.stmt ≤ length rows = all_within rows n tree.first tree.stmt tree.holds in
      let some : 1 ≤ size tree.stmt = size_pos tree.stmt in
      (omega arith, omega arith)

  pub tree_left : {b : Binary} → (row_at rows n).head ≡ Two b → Tree rows (further n 1)
  unfolding size
  tree_left e =
      let k = is_two rows n tree.first tree.stmt tree.holds e in
      let whole : size tree.stmt ≡ 1 + size k.left + size k.right = ap size k.is in
      record { first = tree.first; stmt = k.left; holds = k.holds_left; small = omega (arith, whole, tree.small) }
