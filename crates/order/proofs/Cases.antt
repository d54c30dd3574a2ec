-- Two sheets' cells, and that nothing but the paper's answer satisfies the description: P5, and one where the lowest cell on a cycle is not the lowest that
-- waits for one.
use Prim.Native.Nat.{ℕ, suc, zero, ◌<◌}
use mathlib.Core.Path.{◌≡◌, refl, ap}
use mathlib.Core.Bool.{Bool, false, ◌||◌}
use mathlib.Core.List.{List, [], ◌∷◌}
use mathlib.Core.Logic.{inl, inr, ⊎_elim}
use native.Mathlib.Omega.{arith}
use lib.ListN.{get_or}
use lib.Dec.{eqb}
use borrow.Author.Tests.{eqb-false}
use Rattle.number.specs.Counts.{cell_no, of_cell}
use Rattle.number.specs.declared.CellNo.{CellNo}
use Rattle.number.proofs.Bools.{or_left_off, or_right_off}
use Rattle.cells.specs.declared.Cell.{Cell}
use Rattle.cells.specs.declared.Cell.TheVariants.{Low, High, Gate, Register}
use Rattle.cells.specs.declared.Gate.TheVariants.{Or, And, Butnot}
use Rattle.cells.specs.Needs.{pins_of, Among, Needs}
use Rattle.order.specs.Paths.{Reaches, one, more, OnCycle, Lowest, Answers}
use Rattle.order.proofs.Unique.{answers_cycle, answer_unique}
use Rattle.order.specs.declared.Cycle.{Cycle}
use Rattle.std.specs.Prelude.{Option, Some, None, Result, Err}

-- the first step of a way, and its last
starts : {cells : List Cell} {x y : CellNo} → Reaches cells x y → (z : CellNo) × Needs cells x z
starts (one {y = y} needs) = (y, needs)
starts (more {y = y} needs way) = (y, needs)

ends : {cells : List Cell} {x y : CellNo} → Reaches cells x y → (z : CellNo) × Needs cells z y
ends (one {x = x} needs) = (x, needs)
ends (more needs way) = ends way

-- whether a cell of the list needs cell y
abbrev asks : Option (CellNo × CellNo) → ℕ → Bool
asks None y = false
asks (Some (a, b)) y = eqb (of_cell a) y || eqb (of_cell b) y

abbrev needed : List Cell → ℕ → Bool
needed [] y = false
needed (c ∷ cells) y = asks (pins_of c) y || needed cells y

not_needed : (cells : List Cell) (k y : ℕ) → needed cells y ≡ false → Among (pins_of (get_or cells k Low)) (cell_no y) → ⊥
not_needed [] k y e h = h
not_needed (c ∷ cells) zero y e h = not_asked (pins_of c) (or_left_off (asks (pins_of c) y) _ e) h
  where
    not_asked : (p : Option (CellNo × CellNo)) → asks p y ≡ false → Among p (cell_no y) → ⊥
    not_asked None e h = h
    not_asked (Some (a, b)) e h =
        ⊎_elim (λ q. eqb-false (of_cell a) y (or_left_off (eqb (of_cell a) y) _ e) (ap of_cell q))
        (λ q. eqb-false (of_cell b) y (or_right_off (eqb (of_cell a) y) _ e) (ap of_cell q)) h
not_needed (c ∷ cells) (suc k) y e h = not_needed cells k y (or_right_off (asks (pins_of c) y) _ e) h

-- P5, sheet `00 00 0A 05 01 00 02 01`
abbrev p5 : List Cell
p5 =
    Low ∷ (High ∷ (Gate Or (cell_no 6) (cell_no 0) ∷ (Register (cell_no 1) ∷ (Gate Butnot (cell_no 1) (cell_no 3)
    ∷ (Gate And (cell_no 4) (cell_no 2) ∷ (Gate Butnot (cell_no 4) (cell_no 2) ∷ (Gate Or (cell_no 5) (cell_no 6) ∷ [])))))))

-- cell 2 needs 6, and 6 needs 2; low and high need nothing
p5_lowest : Lowest p5 (cell_no 2)
p5_lowest = record { on = more {y = cell_no 6} (record { among = inl refl }) (one (record { among = inr refl })); below = λ y h. below (of_cell y) h }
  where
    below : (k : ℕ) → k < 2 → OnCycle p5 (cell_no k) → ⊥
    below zero h way = (starts way).1.among
    below (suc zero) h way = (starts way).1.among
    below (suc (suc k)) h way = omega arith

-- "CYCLE 2"
pub p5_answer : (order : List ℕ) (r : Result (Unit {0}) Cycle) → Answers p5 order r → r ≡ Err (record { lowest = cell_no 2 })
p5_answer order r a = answer_unique r (Err (record { lowest = cell_no 2 })) a (answers_cycle {order = order} p5_lowest)

-- sheet `00 01 0A 03 05 02 02 01 00 05 02 00 02 02`: cell 2 is the output, which needs the local's cell 3 by way of 6; cell 3 is on a cycle with 10
abbrev waiting : List Cell
waiting =
    Low ∷ (High ∷ (Gate Or (cell_no 6) (cell_no 0) ∷ (Gate Or (cell_no 10) (cell_no 0) ∷ (Register (cell_no 1) ∷ (Gate Butnot (cell_no 1) (cell_no 4)
    ∷ (Gate And (cell_no 5) (cell_no 3) ∷ (Gate Butnot (cell_no 5) (cell_no 3) ∷ (Gate Or (cell_no 6) (cell_no 7) ∷ (Gate And (cell_no 8) (cell_no 3)
    ∷ (Gate Butnot (cell_no 8) (cell_no 3) ∷ (Gate Or (cell_no 9) (cell_no 10) ∷ [])))))))))))

-- cell 3 needs 10, and 10 needs 3; no cell needs 2
waiting_lowest : Lowest waiting (cell_no 3)
waiting_lowest = record { on = more {y = cell_no 10} (record { among = inl refl }) (one (record { among = inr refl })); below = λ y h. below (of_cell y) h }
  where
    below : (k : ℕ) → k < 3 → OnCycle waiting (cell_no k) → ⊥
    below zero h way = (starts way).1.among
    below (suc zero) h way = (starts way).1.among
    below (suc (suc zero)) h way = not_needed waiting (of_cell (ends way).0) 2 refl (ends way).1.among
    below (suc (suc (suc k))) h way = omega arith

-- "CYCLE 3"
pub waiting_answer : (order : List ℕ) (r : Result (Unit {0}) Cycle) → Answers waiting order r → r ≡ Err (record { lowest = cell_no 3 })
waiting_answer order r a = answer_unique r (Err (record { lowest = cell_no 3 })) a (answers_cycle {order = order} waiting_lowest)
