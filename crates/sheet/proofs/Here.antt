-- A statement in its place: what its numbers, scopes, levels and limits ask for between the marks before it and those past it, taken apart
-- into its head and its parts. With its bytes (`Stands`) this is all that reading asks for.
use mathlib.Core.Path.{◌≡◌, refl, sym}
use mathlib.Core.List.{List, ◌++◌, append_assoc}
use Prim.Native.Nat.{ℕ, ◌+◌, ◌≤◌}
use Rattle.number.specs.declared.StmtNo.{StmtNo}
use Rattle.number.specs.Counts.{of_signal, of_halt, of_stmt}
use Rattle.number.specs.Number.{number_bytes}
use Rattle.limits.specs.Limits.{max_statements, max_halts, max_signals}
use Rattle.sheet.specs.declared.Leaf.{Leaf}
use Rattle.sheet.specs.declared.Unary.{Unary}
use Rattle.sheet.specs.declared.Binary.{Binary}
use Rattle.sheet.specs.declared.Head.{Head}
use Rattle.sheet.specs.declared.Head.TheVariants.{Zero, One, Two}
use Rattle.sheet.specs.declared.Marks.{Marks}
use Rattle.sheet.specs.Stmt.{Stmt, leaf, one, two, head_of, kind_of, size, levels}
use Rattle.sheet.specs.Read.{Around}
use Rattle.sheet.specs.Form.{leaf_bytes, unary_bytes, binary_bytes, stmt_bytes, LeafPlaced, UnaryPlaced, BinaryPlaced, Placed}
use Rattle.sheet.proofs.Moved.{Moved, MovedBy, head_halts, head_locals}

-- a head's bytes
abbrev pub operand_bytes : Head → List ℕ
operand_bytes (Zero l) = leaf_bytes l
operand_bytes (One u) = unary_bytes u
operand_bytes (Two b) = binary_bytes b

abbrev pub head_bytes : Head → List ℕ
head_bytes h = number_bytes (kind_of h) ++ operand_bytes h

-- what is asked of a head in its place
abbrev pub HeadPlaced : Around → Marks → Head → Type 0
HeadPlaced e m (Zero l) = LeafPlaced e m.halts l
HeadPlaced e m (One u) = UnaryPlaced e m.signals u
HeadPlaced e m (Two b) = BinaryPlaced e b

-- "63 halts, 64 signals with tick": not more were counted
pub record Within (m : Marks) : Type 0 where
  pub halts : of_halt m.halts ≤ max_halts
  pub signals : of_signal m.signals ≤ max_signals

-- the head h in its place at m; m' is past it
pub record HeadHere (e : Around) (m : Marks) (h : Head) (m' : Marks) : Type 0 where
  pub placed : HeadPlaced e m h
  pub moved : MovedBy m m' (head_halts h) (head_locals h)

-- the statement t, number n, in its place at m, where `left` levels are left; m' is past it
pub record Here (left : ℕ) (e : Around) (n : StmtNo) (m : Marks) (t : Stmt) (m' : Marks) : Type 0 where
  pub placed : Placed e m.halts m.signals t
  pub moved : Moved m m' t
  pub statements : of_stmt n + size t ≤ max_statements
  pub nesting : levels t ≤ left

-- a statement's bytes are its head's, then its parts'
pub bytes_leaf : (l : Leaf) → stmt_bytes (leaf l) ≡ head_bytes (Zero l)
unfolding stmt_bytes head_of
bytes_leaf l = refl

pub bytes_one : (u : Unary) (p : Stmt) → stmt_bytes (one u p) ≡ head_bytes (One u) ++ stmt_bytes p
unfolding stmt_bytes head_of
bytes_one u p = sym (append_assoc (number_bytes (kind_of (One u))) (unary_bytes u) (stmt_bytes p))

pub bytes_two : (b : Binary) (p q : Stmt) → stmt_bytes (two b p q) ≡ head_bytes (Two b) ++ (stmt_bytes p ++ stmt_bytes q)
unfolding stmt_bytes head_of
bytes_two b p q = sym (append_assoc (number_bytes (kind_of (Two b))) (binary_bytes b) (stmt_bytes p ++ stmt_bytes q))
