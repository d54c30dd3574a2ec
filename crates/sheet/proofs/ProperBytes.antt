-- The bytes of a proper tree are bytes, so that a slice can hold them: there is a sheet for every proper tree.
use mathlib.Core.List.{List, [], ◌∷◌, ◌++◌}
use Prim.Native.Nat.{ℕ, zero, suc, ◌+◌, ◌≤◌}
use native.Mathlib.Omega.{arith}
use Rattle.number.specs.Counts.{of_signal}
use Rattle.number.specs.Number.{number_bytes, Bytes}
use Rattle.number.proofs.Laws.{bytes_of_number}
use Rattle.limits.specs.Limits.{max_signals, max_traps}
use Rattle.sheet.specs.declared.Leaf.{Leaf}
use Rattle.sheet.specs.declared.Leaf.TheVariants.{Nothing, Halt, Emit, Exit}
use Rattle.sheet.specs.declared.Unary.{Unary}
use Rattle.sheet.specs.declared.Unary.TheVariants.{Loop, Watching, Trap, Signal}
use Rattle.sheet.specs.declared.Binary.{Binary}
use Rattle.sheet.specs.declared.Binary.TheVariants.{Sequence, Present, Parallel}
use Rattle.sheet.specs.declared.Head.{Head}
use Rattle.sheet.specs.declared.Head.TheVariants.{Zero, One, Two}
use Rattle.sheet.specs.Stmt.{Stmt, leaf, one, two, kind_of, local_count}
use Rattle.sheet.specs.Form.{leaf_bytes, unary_bytes, binary_bytes, stmt_bytes, sheet_bytes, Proper}
use Rattle.sheet.proofs.Notions.{kind_small, LeafScoped, UnaryScoped, BinaryScoped, Scoped, LeafExits, UnaryExits, traps_in, Exits}
use Rattle.sheet.proofs.Notions.{proper_scoped, proper_exits}
use Rattle.sheet.proofs.Here.{operand_bytes, head_bytes, bytes_leaf, bytes_one, bytes_two}

-- no bytes, and bytes joined
none : Bytes []
none k = omega arith

joined : (xs ys : List ℕ) → Bytes xs → Bytes ys → Bytes (xs ++ ys)
joined [] ys f g k = g k
joined (x ∷ xs) ys f g zero = f zero
joined (x ∷ xs) ys f g (suc k) = joined xs ys (λ j. f (suc j)) g k

-- a head's bytes, if its operand's are bytes
head_bytes_lem : (h : Head) → Bytes (operand_bytes h) → Bytes (head_bytes h)
head_bytes_lem h k = joined (number_bytes (kind_of h)) (operand_bytes h) (bytes_of_number (kind_of h) (omega (arith, kind_small h))) k

-- Operands are small: signals are named of n, which are not too many, and exits of not too many traps.
module _ (i n : ℕ) (few : n ≤ max_signals) where
  leaf_bytes_lem : (d : ℕ) → d ≤ max_traps → (l : Leaf) → LeafScoped i n l → LeafExits d l → Bytes (leaf_bytes l)
  leaf_bytes_lem d flat Nothing x y = none
  leaf_bytes_lem d flat (Halt h) x y = none
  leaf_bytes_lem d flat (Emit s) x y = bytes_of_number (of_signal s) (omega arith)
  leaf_bytes_lem d flat (Exit k) x y = bytes_of_number k (omega arith)

  unary_bytes_lem : (u : Unary) → UnaryScoped n u → Bytes (unary_bytes u)
  unary_bytes_lem Loop x = none
  unary_bytes_lem (Watching s) x = bytes_of_number (of_signal s) (omega arith)
  unary_bytes_lem Trap x = none
  unary_bytes_lem (Signal s) x = none

  binary_bytes_lem : (b : Binary) → BinaryScoped n b → Bytes (binary_bytes b)
  binary_bytes_lem Sequence x = none
  binary_bytes_lem (Present s) x = bytes_of_number (of_signal s) (omega arith)
  binary_bytes_lem Parallel x = none

  -- and so around a part
  flat_inside : (d : ℕ) (u : Unary) → d ≤ max_traps → UnaryExits d u → traps_in d u ≤ max_traps
  flat_inside d Loop flat y = flat
  flat_inside d (Watching s) flat y = flat
  flat_inside d Trap flat y = omega arith
  flat_inside d (Signal s) flat y = flat

  stmt_bytes_lem : (t : Stmt) (d : ℕ) → d ≤ max_traps → Scoped i n t → Exits d t → Bytes (stmt_bytes t)
  unfolding Scoped Exits
  stmt_bytes_lem (leaf l) d flat x y = rw bytes_leaf (head_bytes_lem (Zero l) (leaf_bytes_lem d flat l x y))
  stmt_bytes_lem (one u p) d flat x y =
      let part : Bytes (stmt_bytes p) = stmt_bytes_lem p (traps_in d u) (flat_inside d u flat y.0) x.1 y.1 in
      rw bytes_one (joined (head_bytes (One u)) (stmt_bytes p) (head_bytes_lem (One u) (unary_bytes_lem u x.0)) part)
  stmt_bytes_lem (two b p q) d flat x y =
      let parts : Bytes (stmt_bytes p ++ stmt_bytes q) =
      joined (stmt_bytes p) (stmt_bytes q) (stmt_bytes_lem p d flat x.1 y.0) (stmt_bytes_lem q d flat x.2 y.1) in
      rw bytes_two (joined (head_bytes (Two b)) (stmt_bytes p ++ stmt_bytes q) (head_bytes_lem (Two b) (binary_bytes_lem b x.0)) parts)

pub proper_bytes : (i o : ℕ) (t : Stmt) → Proper i o t → Bytes (sheet_bytes i o t)
unfolding sheet_bytes
proper_bytes i o t k =
    let header : 1 + i + o ≤ max_signals = k.header in
    let root : Bytes (stmt_bytes t) =
    stmt_bytes_lem i (1 + i + o + local_count t) k.signals t 0 (omega arith) (proper_scoped k) (proper_exits k) in
    joined (number_bytes i) (number_bytes o ++ stmt_bytes t) (bytes_of_number i (omega arith))
    (joined (number_bytes o) (stmt_bytes t) (bytes_of_number o (omega arith)) root)
