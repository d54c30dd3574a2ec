-- Which nets are carried: a table's cells, registers, inputs, constants.
use Prim.Native.Nat.{ℕ, suc, ◌+◌, ◌-◌, ◌<◌, ◌≤◌}
use mathlib.Core.Path.{◌≡◌}
use mathlib.Core.Bool.{Bool, true, false, true≢false, false≢true}
use mathlib.Core.List.{List}
use native.Mathlib.Omega.{arith}
use native.Mathlib.Decide.{dec_lt}
use lib.Dec.{ltb, leb}
use lib.ListN.{length, get_or}
use Rattle.std.specs.Bool.{MatchBool}
use Rattle.std.specs.List.{AllWithin, HoldsAt}
use borrow.Author.Tests.{ltb-true, leb-true, lt-ltb, le-leb}
use Rattle.number.specs.Counts.{cell_no, of_cell, signal_no, of_signal}
use Rattle.number.specs.declared.CellNo.{CellNo}
use Rattle.number.specs.declared.SignalNo.{SignalNo}
use Rattle.number.proofs.Bools.{and_left, and_right, and_both}
use Rattle.cells.specs.declared.Cell.{Cell}
use Rattle.cells.specs.declared.Cell.TheVariants.{Low, Register}
use Rattle.cells.specs.Cells.{cell_at}
use Rattle.cells.specs.Words.{cell_in, cells_of}
use Rattle.cells.specs.Needs.{IsCell}
use Rattle.cells.proofs.Words.{cells_length, cell_at_word}
use Rattle.order.specs.Search.{Decides}
use Rattle.run.specs.Words.{is_output}
use Rattle.run.proofs.Rank.{past_end}
use Rattle.covers.specs.Covers.{Carried}
use Rattle.covers.specs.Checking.{OperandCarried, OperandsCarried, OutputsCarried}

-- A test that was passed, and one that was not.
pub decides_yes : {P : Type 0} → P → Decides P true
decides_yes p = record { holds = λ e. p; fails = λ e. absurd (true≢false e) }

pub decides_no : {P : Type 0} → (P → ⊥) → Decides P false
decides_no f = record { holds = λ e. absurd (false≢true e); fails = λ e. f }

-- A test of another fact that says the same.
pub decides_as : {P Q : Type 0} {r : Bool} → Decides P r → (P → Q) → (Q → P) → Decides Q r
decides_as d f g = record { holds = λ e. f (d.holds e); fails = λ e q. d.fails e (g q) }

-- A test of all of a list.
pub decides_all : {A P : Type 0} (Yes No : A → Type 0) {r : Bool} (xs : List A)
    → MatchBool r (AllWithin Yes xs 0 (length xs)) ((k : ℕ) × (k < length xs) × HoldsAt No xs k)
    → (AllWithin Yes xs 0 (length xs) → P) → ((k : ℕ) → k < length xs → HoldsAt No xs k → P → ⊥) → Decides P r
decides_all Yes No {r = true} xs all holds fails = decides_yes (holds all)
decides_all Yes No {r = false} xs one holds fails = decides_no (fails one.0 one.1 one.2)

-- Outputs are the signals from 1 + I to I + O.
pub output_last : (I O : ℕ) (s : SignalNo) → is_output I O s ≡ true → of_signal s ≤ I + O
output_last I O s e = leb-true (of_signal s) (I + O) (and_right (ltb I (of_signal s)) (leb (of_signal s) (I + O)) e)

an_output : (I O n : ℕ) → n < O → is_output I O (signal_no (1 + I + n)) ≡ true
an_output I O n h =
    and_both (ltb I (1 + I + n)) (leb (1 + I + n) (I + O)) (lt-ltb I (1 + I + n) (omega arith)) (le-leb (1 + I + n) (I + O) (omega arith))

-- Their cells are those after 2 + I.
module _ {cells : List Cell} {cover : List ℕ} (I O : ℕ) where
  pub outputs_all : ((n : ℕ) → n < O → Carried cells cover (cell_no (1 + (1 + I + n)))) → OutputsCarried cells I O cover
  outputs_all each s e =
      let from : I < of_signal s = ltb-true I (of_signal s) (and_left (ltb I (of_signal s)) (leb (of_signal s) (I + O)) e) in
      let last = output_last I O s e in
      let n : ℕ = of_signal s - (1 + I) in
      let is : 1 + (1 + I + n) ≡ suc (of_signal s) = omega arith in
      rw is at (each n (omega arith))

  pub output_each : OutputsCarried cells I O cover → (n : ℕ) → n < O → Carried cells cover (cell_no (1 + (1 + I + n)))
  output_each every n h =
      let is : 1 + (1 + I + n) ≡ suc (1 + I + n) = omega arith in
      rw is (every (signal_no (1 + I + n)) (an_output I O n h))

-- A register's operand: of cells past the last there is none.
pub no_register : {c : Cell} {y : CellNo} → c ≡ Low → c ≡ Register y → ⊥
no_register p q = let z : ◌≡◌ {A = ℕ} 0 1 = cc in omega arith

pub operands_all : (cells : List Cell) (cover : List ℕ)
    → ((i : ℕ) → i < length cells → OperandCarried cells (cell_at cells (cell_no i)) cover) → OperandsCarried cells cover
operands_all cells cover all x = go (dec_lt (of_cell x) (length cells))
  where
    go : Dec (IsCell cells x) → OperandCarried cells (cell_at cells x) cover
    go (yes h) = all (of_cell x) h
    go (no n) = λ y e. absurd (no_register (past_end cells x n) e)

-- A column has a word for each cell.
module _ (words : List ℕ) (cover : List ℕ) where
  pub words_all : ((i : ℕ) → i < length words → OperandCarried (cells_of words) (cell_in (get_or words i 0)) cover)
      → OperandsCarried (cells_of words) cover
  words_all each =
      operands_all (cells_of words) cover (λ i h. rw (cell_at_word words (cell_no i)) (each i (omega (arith, cells_length words))))

  pub word_each : OperandsCarried (cells_of words) cover → (i : ℕ) → OperandCarried (cells_of words) (cell_in (get_or words i 0)) cover
  word_each every i = rw (cell_at_word words (cell_no i)) at (every (cell_no i))
