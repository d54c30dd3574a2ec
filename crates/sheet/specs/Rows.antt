-- Not to be believed: what the code keeps to; the proofs check it.
-- The rows that hold a statement: one for each statement in reading order, at its number, with its head, the number past its last part, and
-- its halts, from the first to past the last.
use Rattle.std.specs.Prelude.{◌≡◌, List, ℕ, ◌+◌, ◌<◌, length, get_or, set}
use Rattle.number.specs.declared.StmtNo.{StmtNo}
use Rattle.number.specs.declared.HaltNo.{HaltNo}
use Rattle.number.specs.Counts.{halt_no, stmt_no, of_stmt}
use Rattle.sheet.specs.declared.Leaf.TheVariants.{Nothing}
use Rattle.sheet.specs.declared.Head.TheVariants.{Zero}
use Rattle.sheet.specs.declared.Row.{Row}
use Rattle.sheet.specs.Stmt.{Stmt, leaf, one, two, head_of, size, halt_count}
use Rattle.sheet.specs.Read.{further}
pub use Rattle.sheet.specs.Form.{halts_on}

-- the row of the statement t with the number n, whose halts are numbered from a on
abbrev pub row_of : StmtNo → HaltNo → Stmt → Row
row_of n a t = record { head = head_of t; end = further n (size t); first = a; past = halts_on a (halt_count t) }

-- what stands at a number where no statement was read
abbrev pub empty_row : Row
empty_row = record { head = Zero Nothing; end = stmt_no 0; first = halt_no 0; past = halt_no 0 }

-- the numbers of statements stay below it, so that each has a next one: far more than a sheet may have
abbrev pub stmt_span : ℕ
stmt_span = 4096

-- the row of statement n
abbrev pub row_at : List Row → StmtNo → Row
row_at rows n = get_or rows (of_stmt n) empty_row

-- the rows with those of t put in, from the number n and the halt a on
unfoldable pub lay : List Row → StmtNo → HaltNo → Stmt → List Row
lay rows n a (leaf l) = set rows (of_stmt n) (row_of n a (leaf l))
lay rows n a (one u p) = set (lay rows (further n 1) a p) (of_stmt n) (row_of n a (one u p))
lay rows n a (two b p q) =
    set (lay (lay rows (further n 1) a p) (further n (1 + size p)) (halts_on a (halt_count p)) q) (of_stmt n) (row_of n a (two b p q))

-- the rows hold t, from the number n on, its halts being numbered from a on
unfoldable pub Holds : List Row → StmtNo → HaltNo → Stmt → Type 0
Holds rows n a (leaf l) = (of_stmt n < length rows) × (row_at rows n ≡ row_of n a (leaf l))
Holds rows n a (one u p) = (of_stmt n < length rows) × (row_at rows n ≡ row_of n a (one u p)) × Holds rows (further n 1) a p
Holds rows n a (two b p q) =
    (of_stmt n < length rows) × (row_at rows n ≡ row_of n a (two b p q)) × Holds rows (further n 1) a p
    × Holds rows (further n (1 + size p)) (halts_on a (halt_count p)) q

-- some statement stands at row n
pub record Tree (rows : List Row) (n : StmtNo) : Type 0 where
  pub first : HaltNo
  pub stmt : Stmt
  pub holds : Holds rows n first stmt
  pub small : of_stmt n + size stmt < stmt_span
