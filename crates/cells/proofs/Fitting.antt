-- Cells that fit: which kind may stand where, operands among the cells, and what a well-formed netlist gives.
use Prim.Native.Nat.{ℕ, suc, ◌+◌, ◌≤◌, ◌<◌}
use mathlib.Core.Path.{◌≡◌, refl}
use mathlib.Core.Bool.{Bool, true, false, ◌&&◌}
use mathlib.Core.List.{List, [], ◌∷◌}
use native.Mathlib.Omega.{arith}
use lib.Dec.{ltb, leb, eqb}
use lib.ListN.{length}
use borrow.Author.Tests.{ltb-true, leb-true, leb-false, le-leb, lt-leb, eqb-true, eq-eqb, ne_eqb}
use Rattle.number.specs.Counts.{cell_no, of_cell, of_signal}
use Rattle.number.specs.Number.{pick}
use Rattle.number.specs.declared.CellNo.{CellNo}
use Rattle.number.proofs.Bools.{and_left, and_right}
use Rattle.limits.specs.Limits.{max_registers}
use Rattle.cells.specs.declared.Cell.{Cell}
use Rattle.cells.specs.declared.Cell.TheVariants.{Low, High, Input, Gate, Register}
use Rattle.cells.specs.Cells.{kind_of, next_cell}
use Rattle.cells.specs.Values.{tally, registers}
use Rattle.cells.specs.Needs.{Closed}
use Rattle.cells.specs.Netlist.{Netlist, kind_fits, is_net, operands_fit, cells_fit, WellFormed}
use Rattle.cells.proofs.Within.{Within, AllWithin, all_wider}
use Rattle.cells.proofs.Words.{gate_kind_low}
use Rattle.cells.proofs.Counting.{tally_sum}
use Rattle.cells.proofs.Needing as needing

module _ (I : ℕ) (x : CellNo) (k : ℕ) where
  -- "cell 0 low, 1 high, cells 2..I+1 inputs", the others gates and registers
  pub at_low : of_cell x ≡ 0 → kind_fits I x k ≡ eqb k 0
  unfolding kind_fits pick
  at_low h = simp (eq-eqb (of_cell x) 0 h)

  pub at_high : of_cell x ≡ 1 → kind_fits I x k ≡ eqb k 1
  unfolding kind_fits pick
  at_high h = simp (ne_eqb (of_cell x) 0 (λ z. omega arith), eq-eqb (of_cell x) 1 h)

  pub at_input : 1 < of_cell x → of_cell x ≤ I + 1 → kind_fits I x k ≡ eqb k 2
  unfolding kind_fits pick
  at_input some few =
      simp (ne_eqb (of_cell x) 0 (λ z. omega arith), ne_eqb (of_cell x) 1 (λ z. omega arith), le-leb (of_cell x) (I + 1) few)

  pub at_gate : I + 1 < of_cell x → kind_fits I x k ≡ ltb 2 k
  unfolding kind_fits pick
  at_gate past =
      simp (ne_eqb (of_cell x) 0 (λ z. omega arith), ne_eqb (of_cell x) 1 (λ z. omega arith), lt-leb (of_cell x) (I + 1) past)

-- where kind 2 fits there is an input
pub input_place : (I : ℕ) (x : CellNo) → kind_fits I x 2 ≡ true → of_cell x ≤ I + 1
unfolding kind_fits pick
input_place I x = go (eqb (of_cell x) 0) (eqb (of_cell x) 1) (leb (of_cell x) (I + 1)) refl
  where
    no_test : {A : Type 0} → false ≡ true → A
    no_test e = let z : ◌≡◌ {A = ℕ} 0 1 = cc in absurd (omega arith)

    go : (a b d : Bool) → leb (of_cell x) (I + 1) ≡ d → pick a false (pick b false (pick d true false)) ≡ true → of_cell x ≤ I + 1
    go true b d p e = no_test e
    go false true d p e = no_test e
    go false false true p e = leb-true (of_cell x) (I + 1) p
    go false false false p e = no_test e

-- a register has room where there are fewer than the most
pub tally_room : (c : Cell) (k : ℕ) → k ≤ max_registers → (eqb (kind_of c) 6 && leb max_registers k) ≡ false → tally c k ≤ max_registers
tally_room Low k few room = few
tally_room High k few room = few
tally_room (Input s) k few room = few
tally_room (Gate g x y) k few room = few
tally_room (Register x) k few room = omega (arith, leb-false max_registers k room)

pub room_tally : (c : Cell) (k : ℕ) → tally c k ≤ max_registers → (eqb (kind_of c) 6 && leb max_registers k) ≡ false
room_tally Low k few = refl
room_tally High k few = refl
room_tally (Input s) k few = refl
room_tally (Gate g x y) k few = rw (ne_eqb (kind_of (Gate g x y)) 6 (λ e. omega (arith, gate_kind_low g)))
room_tally (Register x) k few = lt-leb max_registers k (omega arith)

-- both operands of a gate
two : (m : ℕ) (y z : CellNo) → (is_net m y && is_net m z) ≡ true → (of_cell y < m) × (of_cell z < m)
two m y z h = (ltb-true (of_cell y) m (and_left (is_net m y) (is_net m z) h), ltb-true (of_cell z) m (and_right (is_net m y) (is_net m z) h))

-- a cell that fits has operands among m cells, and an input's signal is one of I
pub fit_within : (I m : ℕ) (x : CellNo) (c : Cell) → kind_fits I x (kind_of c) ≡ true → operands_fit m x c ≡ true → Within (1 + I) m c
unfolding operands_fit
fit_within I m x Low k o = tt
fit_within I m x High k o = tt
fit_within I m x (Input s) k o = omega (arith, eqb-true (suc (of_signal s)) (of_cell x) o, input_place I x k)
fit_within I m x (Gate g y z) k o = two m y z o
fit_within I m x (Register y) k o = ltb-true (of_cell y) m o

pub all_within : (I m : ℕ) (x : CellNo) (cs : List Cell) → cells_fit I m x cs ≡ true → AllWithin (1 + I) m cs
unfolding cells_fit AllWithin
all_within I m x [] h = tt
all_within I m x (c ∷ cs) h =
    let kind : Bool = kind_fits I x (kind_of c) in
    let operands : Bool = operands_fit m x c in
    let this : (kind && operands) ≡ true = and_left (kind && operands) (cells_fit I m (next_cell x) cs) h in (
      fit_within I m x c (and_left kind operands this) (and_right kind operands this),
      all_within I m (next_cell x) cs (and_right (kind && operands) (cells_fit I m (next_cell x) cs) h),
    )

-- the cells from number x on fit, with k registers before them
pub record Fit (I m : ℕ) (x : CellNo) (k : ℕ) (cs : List Cell) : Type 0 where
  pub fit : cells_fit I m x cs ≡ true
  pub bits : k + registers cs ≤ max_registers

pub fit_none : (I m : ℕ) (x : CellNo) (k : ℕ) → k ≤ max_registers → Fit I m x k []
unfolding cells_fit registers
fit_none I m x k few = record { fit = refl; bits = omega arith }

pub fit_more : {I m : ℕ} {x : CellNo} {k : ℕ} (c : Cell) (cs : List Cell) → kind_fits I x (kind_of c) ≡ true → operands_fit m x c ≡ true
    → Fit I m (next_cell x) (tally c k) cs → Fit I m x k (c ∷ cs)
unfolding cells_fit registers
fit_more {I} {m} {x} {k} c cs kind operands w =
    record { fit = rw (kind, operands, w.fit) refl; bits = omega (arith, w.bits, tally_sum c k (registers cs)) }

-- A well-formed netlist: every operand is a cell, and its numbers have sixteen bits.
module _ {w : Netlist} (h : WellFormed w) where
  pub formed_within : AllWithin (1 + w.inputs) (length w.cells) w.cells
  formed_within = all_within w.inputs (length w.cells) (cell_no 0) w.cells h.fit

  pub formed_closed : Closed w.cells
  formed_closed = needing.closed (1 + w.inputs) formed_within

  pub formed_small : AllWithin 65536 65536 w.cells
  formed_small =
      all_wider (1 + w.inputs) (length w.cells) 65536 65536 w.cells (omega (arith, h.signals)) (omega (arith, h.few)) formed_within
