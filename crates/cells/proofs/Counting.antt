-- Registers, counted cell by cell, and their operands.
use mathlib.Core.Path.{◌≡◌, refl, ap, ◌∙◌}
use mathlib.Core.Bool.{Bool}
use mathlib.Core.List.{List, [], ◌∷◌, ◌++◌}
use Prim.Native.Nat.{ℕ, zero, suc, ◌+◌, ◌≤◌, ◌<◌}
use native.Mathlib.Omega.{arith}
use native.Mathlib.Nat.{zero-add}
use native.Mathlib.Numerals.{add-one}
use lib.ListN.{length, get_or, take, drop, length-map, take-append-drop}
use lib.Seq.{take-suc}
use Rattle.number.specs.Counts.{cell_no, of_cell}
use Rattle.number.specs.declared.CellNo.{CellNo}
use Rattle.cells.specs.declared.Gate as gate
use Rattle.cells.specs.declared.Cell.{Cell}
use Rattle.cells.specs.declared.Cell.TheVariants.{Low, High, Input, Gate, Register}
use Rattle.cells.specs.Cells.{cell_at}
use Rattle.cells.specs.Values.{tally, registers, before, operands_of, operands, next_of}
use Rattle.cells.specs.Needs.{Closed}

-- One cell.
pub tally_add : (c : Cell) (m n : ℕ) → tally c (m + n) ≡ tally c m + n
tally_add Low m n = refl
tally_add High m n = refl
tally_add (Input s) m n = refl
tally_add (Gate g x y) m n = refl
tally_add (Register x) m n = omega arith

pub tally_last : (c : Cell) (m : ℕ) → m + tally c 0 ≡ tally c m
tally_last c m = let e : tally c m ≡ tally c 0 + m = rw (zero-add m) at (tally_add c 0 m) in omega arith

-- registers before a cell and from it on
pub tally_sum : (c : Cell) (k n : ℕ) → tally c k + n ≡ k + tally c n
tally_sum c k n = omega (arith, tally_last c k, tally_last c n)

-- a cell is one register at most
pub tally_le : (c : Cell) (m : ℕ) → tally c m ≤ m + 1
tally_le Low m = omega arith
tally_le High m = omega arith
tally_le (Input s) m = omega arith
tally_le (Gate g x y) m = omega arith
tally_le (Register x) m = omega arith

-- All cells.
pub registers_nil : registers [] ≡ 0
unfolding registers
registers_nil = refl

pub registers_gate : (g : gate.Gate) (x y : CellNo) (cs : List Cell) → registers (Gate g x y ∷ cs) ≡ registers cs
unfolding registers
registers_gate g x y cs = refl

pub registers_register : (x : CellNo) (cs : List Cell) → registers (Register x ∷ cs) ≡ suc (registers cs)
unfolding registers
registers_register x cs = refl

pub registers_append : (a b : List Cell) → registers (a ++ b) ≡ registers a + registers b
unfolding registers
registers_append [] b = omega arith
registers_append (c ∷ a) b = ap (tally c) (registers_append a b) ∙ tally_add c (registers a) (registers b)

pub one_more : (cells : List Cell) (i : ℕ) → i < length cells → take (i + 1) cells ≡ take i cells ++ (cell_at cells (cell_no i) ∷ [])
one_more cells i h = rw (add-one i) (take-suc cells i Low h)

pub registers_next : (cells : List Cell) (i : ℕ) → i < length cells
    → registers (take (i + 1) cells) ≡ tally (cell_at cells (cell_no i)) (registers (take i cells))
unfolding registers
registers_next cells i h =
    let c : Cell = cell_at cells (cell_no i) in
    ap registers (one_more cells i h) ∙ registers_append (take i cells) (c ∷ []) ∙ tally_last c (registers (take i cells))

pub registers_le : (cells : List Cell) (i : ℕ) → registers (take i cells) ≤ registers cells
registers_le cells i = omega (arith, ap registers (take-append-drop i cells), registers_append (take i cells) (drop i cells))

-- The registers' operands.
pub operands_append : (a b : List Cell) → operands_of (a ++ b) ≡ operands_of a ++ operands_of b
unfolding operands_of
operands_append [] b = refl
operands_append (Low ∷ a) b = operands_append a b
operands_append (High ∷ a) b = operands_append a b
operands_append (Input s ∷ a) b = operands_append a b
operands_append (Gate g x y ∷ a) b = operands_append a b
operands_append (Register x ∷ a) b = ap (λ (l : List ℕ). of_cell x ∷ l) (operands_append a b)

-- as many operands as registers
pub operands_count : (cs : List Cell) → length (operands_of cs) ≡ registers cs
unfolding operands_of registers
operands_count [] = refl
operands_count (Low ∷ a) = operands_count a
operands_count (High ∷ a) = operands_count a
operands_count (Input s ∷ a) = operands_count a
operands_count (Gate g x y ∷ a) = operands_count a
operands_count (Register x ∷ a) = ap suc (operands_count a)

pub operands_length : (v : CellNo → Bool) (cs : List Cell) → length (operands v cs) ≡ registers cs
operands_length v cs = length-map (operands_of cs) (λ (x : ℕ). v (cell_no x)) ∙ operands_count cs

-- one more cell has one operand more where it is a register
pub one_length : (c : Cell) (k : ℕ) → k + length (operands_of (c ∷ [])) ≡ tally c k
unfolding registers
one_length c k = ap (λ (n : ℕ). k + n) (operands_count (c ∷ [])) ∙ tally_last c k

-- a register's operand is the bit of the next state that the register is
pub operand_at : (v : CellNo → Bool) (cells : List Cell) (k : ℕ) (y : CellNo) → get_or cells k Low ≡ Register y
    → next_of v cells (before cells (cell_no k)) ≡ v y
unfolding operands_of registers
operand_at v [] k y e = let clash : ◌≡◌ {A = ℕ} 0 1 = cc in absurd (omega arith)
operand_at v (Low ∷ cs) zero y e = let clash : ◌≡◌ {A = ℕ} 0 1 = cc in absurd (omega arith)
operand_at v (High ∷ cs) zero y e = let clash : ◌≡◌ {A = ℕ} 0 1 = cc in absurd (omega arith)
operand_at v (Input s ∷ cs) zero y e = let clash : ◌≡◌ {A = ℕ} 0 1 = cc in absurd (omega arith)
operand_at v (Gate g a b ∷ cs) zero y e = let clash : ◌≡◌ {A = ℕ} 0 1 = cc in absurd (omega arith)
operand_at v (Register a ∷ cs) zero y e = let same : a ≡ y = cc in ap v same
operand_at v (Low ∷ cs) (suc k) y e = operand_at v cs k y e
operand_at v (High ∷ cs) (suc k) y e = operand_at v cs k y e
operand_at v (Input s ∷ cs) (suc k) y e = operand_at v cs k y e
operand_at v (Gate g a b ∷ cs) (suc k) y e = operand_at v cs k y e
operand_at v (Register a ∷ cs) (suc k) y e = operand_at v cs k y e

-- which register an operand is of
record OperandOf (cells : List Cell) (n : ℕ) : Type 0 where
  register : CellNo
  operand : CellNo
  is : cell_at cells register ≡ Register operand
  same : n ≡ of_cell operand

behind : (c : Cell) (cs : List Cell) {n : ℕ} → OperandOf cs n → OperandOf (c ∷ cs) n
behind c cs o = record { register = cell_no (suc (of_cell o.register)); operand = o.operand; is = o.is; same = o.same }

operand_of : (cs : List Cell) (b : ℕ) → b < length (operands_of cs) → OperandOf cs (get_or (operands_of cs) b 0)
unfolding operands_of
operand_of [] b h = absurd (omega arith)
operand_of (Low ∷ cs) b h = behind Low cs (operand_of cs b h)
operand_of (High ∷ cs) b h = behind High cs (operand_of cs b h)
operand_of (Input s ∷ cs) b h = behind (Input s) cs (operand_of cs b h)
operand_of (Gate g x y ∷ cs) b h = behind (Gate g x y) cs (operand_of cs b h)
operand_of (Register x ∷ cs) zero h = record { register = cell_no 0; operand = x; is = refl; same = refl }
operand_of (Register x ∷ cs) (suc b) h = behind (Register x) cs (operand_of cs b (omega arith))

-- each operand is a cell
pub operand_cell : (cells : List Cell) → Closed cells → {l : List ℕ} → l ≡ operands_of cells → (b : ℕ) → b < length l → get_or l b 0 < length cells
operand_cell cells closed {l} e b h =
    let o = operand_of cells b (omega (arith, ap length e)) in
    let is : get_or l b 0 ≡ of_cell o.operand = ap (λ (xs : List ℕ). get_or xs b 0) e ∙ o.same in
    omega (arith, is, closed.registers o.register o.operand o.is)
