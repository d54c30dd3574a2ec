-- Not to be believed: what the code keeps to; the proofs check it.
-- How the code keeps the sets: a set of codes is a word with the codes as its bits, and K and R of a statement make one entry of a column,
-- `statics`.
use Rattle.std.specs.Prelude.{◌≡◌, Bool, true, false, List, ℕ, zero, suc, ◌+◌, ◌*◌, ◌^◌, ◌<◌, length, get_or, set}
use Rattle.number.specs.declared.StmtNo.{StmtNo}
use Rattle.number.specs.declared.HaltNo.{HaltNo}
use Rattle.number.specs.Counts.{of_stmt}
use Rattle.limits.specs.Limits.{max_codes}
use Rattle.bits.specs.Bits.{has}
use Rattle.sheet.specs.declared.Leaf.{Leaf}
use Rattle.sheet.specs.declared.Leaf.TheVariants.{Nothing, Halt, Emit, Exit}
use Rattle.sheet.specs.Stmt.{Stmt, leaf, one, two, size}
use Rattle.sheet.specs.Read.{further}
use Rattle.sheet.specs.Rows.{stmt_span, Holds}
use Rattle.sets.specs.declared.Both.{Both}
use Rattle.sets.specs.declared.Entry.{Entry}
use Rattle.sets.specs.Codes.{Codes}
use Rattle.sets.specs.Static.{K, R}
use Rattle.sheet.specs.declared.Row.{Row}

-- "EXIT: level not 2..1+d", "8 traps one in another": there are so many codes, and every set of them is below this
abbrev pub code_span : ℕ
code_span = 2 ^ max_codes

abbrev pub LowLeaf : Leaf → Type 0
LowLeaf Nothing = Unit
LowLeaf (Halt h) = Unit
LowLeaf (Emit s) = Unit
LowLeaf (Exit k) = k < max_codes

unfoldable pub Low : Stmt → Type 0
Low (leaf l) = LowLeaf l
Low (one u p) = Low p
Low (two b p q) = Low p × Low q

-- some statement stands at row n, and its exits' levels are such
pub record Stands (rows : List Row) (n : StmtNo) : Type 0 where
  pub first : HaltNo
  pub stmt : Stmt
  pub holds : Holds rows n first stmt
  pub small : of_stmt n + size stmt < stmt_span
  pub low : Low stmt

-- a word whose bits are the first n codes of A
abbrev pub digit : Bool → ℕ
digit true = 1
digit false = 0

unfoldable pub word_of : ℕ → Codes → ℕ
word_of zero A = 0
word_of (suc n) A = digit (A 0) + 2 * word_of n (λ j. A (suc j))

-- what stands at a number whose statement has no entry
abbrev pub no_sets : Entry
no_sets = record { k = 0; r = 0 }

-- a statement's entry: a bit for each code of K, and for each of R
unfoldable pub entry_of : Stmt → Entry
entry_of t = record { k = word_of max_codes (K t); r = word_of max_codes (R t) }

-- the column with the entries of t and its parts put in, from the number n on
unfoldable pub filled : List Entry → StmtNo → Stmt → List Entry
filled statics n (leaf l) = set statics (of_stmt n) (entry_of (leaf l))
filled statics n (one u p) = set (filled statics (further n 1) p) (of_stmt n) (entry_of (one u p))
filled statics n (two b p q) = set (filled (filled statics (further n 1) p) (further n (1 + size p)) q) (of_stmt n) (entry_of (two b p q))

-- the entry at n
abbrev pub entry_at : List Entry → StmtNo → Entry
entry_at statics n = get_or statics (of_stmt n) no_sets

-- the column has the entry of t at n ..
pub record Entered (statics : List Entry) (n : StmtNo) (t : Stmt) : Type 0 where
  pub inside : of_stmt n < length statics
  pub entry : entry_at statics n ≡ entry_of t

-- .. and those of its parts after it
unfoldable pub Kept : List Entry → StmtNo → Stmt → Type 0
Kept statics n (leaf l) = Entered statics n (leaf l)
Kept statics n (one u p) = Entered statics n (one u p) × Kept statics (further n 1) p
Kept statics n (two b p q) = Entered statics n (two b p q) × Kept statics (further n 1) p × Kept statics (further n (1 + size p)) q

-- two words are K and R of t
pub record Means (b : Both) (t : Stmt) : Type 0 where
  pub starts : has b.k ≡ K t
  pub resumes : has b.r ≡ R t

-- two words as an entry
abbrev pub as_entry : Both → Entry
as_entry b = record { k = b.k; r = b.r }

-- the entry of two words was written, and they were handed back
pub record Wrote (n : StmtNo) (b r : Both) (before after : List Entry) : Type 0 where
  pub same : r ≡ b
  pub entry : after ≡ set before (of_stmt n) (as_entry b)

-- what a walk that fills the column answers and leaves
pub record Filled (n : StmtNo) (t : Stmt) (b : Both) (before after : List Entry) : Type 0 where
  pub answer : Means b t
  pub column : after ≡ filled before n t

-- what is read at n: sets of codes; K and R, where the entry is that of a statement
pub record Reads (statics : List Entry) (n : StmtNo) (b : Both) : Type 0 where
  pub k_small : b.k < code_span
  pub r_small : b.r < code_span
  pub means : (t : Stmt) → Low t → Entered statics n t → Means b t
