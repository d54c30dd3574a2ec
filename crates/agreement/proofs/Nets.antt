-- The values of nets, where the cells that make them are solved: gates with their folding, rows of codes, signals' lists.
use mathlib.Core.Path.{◌≡◌, sym, ◌∙◌, ap, subst}
use mathlib.Core.Bool.{Bool, true, false, ◌&&◌, ◌||◌, and-true, or-false, and-false}
use mathlib.Core.List.{List, [], ◌∷◌, ◌++◌}
use Prim.Native.Nat.{ℕ, zero, suc, ◌+◌, ◌-◌, ◌<◌}
use native.Mathlib.Nat.{add-zero, add-suc, suc-add}
use native.Mathlib.Decide.{ℕ_discrete}
use lib.ListN.{length, get_or, set, replicate}
use lib.Seq.{get_or-set_same, get_or-set_other}
use borrow.Author.Tests.{eqb-true, eq-eqb, ne_eqb}
use Rattle.number.specs.Counts.{cell_no, of_cell, of_signal}
use Rattle.number.specs.declared.CellNo.{CellNo}
use Rattle.number.specs.declared.SignalNo.{SignalNo}
use Rattle.limits.specs.Limits.{max_codes}
use Rattle.sheet.specs.Read.{only as only_signal}
use Rattle.sets.specs.Codes.{same}
use Rattle.rules.specs.Rules.{Signals}
use Rattle.rules.specs.States.{State}
use Rattle.cells.specs.declared.Cell.{Cell}
use Rattle.cells.specs.declared.Gate.TheVariants.{Or, And, Butnot}
use Rattle.cells.specs.Cells.{low, is_low, cell_at}
use Rattle.cells.specs.Values.{before, value}
use Rattle.cells.specs.declared.Gate as gate
use Rattle.cells.specs.Cells.{truth}
use Rattle.gates.specs.Folding.{New, first_low, second_low, gate_at, or_at}
use Rattle.gates.specs.Rows.{code, only, or_row, only_if}
use Rattle.gates.proofs.Laws.{by_folding}
use Rattle.parts.specs.Equations.{list_of}

-- The cells cs stand in the netlist `cells` from number n on, and v has the value that each asks for, with the inputs J in the state S.
unfoldable pub Solved : List Cell → Signals → State → (CellNo → Bool) → ℕ → List Cell → Type 0
Solved cells J S v n [] = Unit
Solved cells J S v n (c ∷ cs) =
    ((cell_at cells (cell_no n) ≡ c) × (v (cell_no n) ≡ value J (S (before cells (cell_no n))) v c)) × Solved cells J S v (suc n) cs

module _ (cells : List Cell) (J : Signals) (S : State) (v : CellNo → Bool) where
  pub solved_left : (xs ys : List Cell) (n : ℕ) → Solved cells J S v n (xs ++ ys) → Solved cells J S v n xs
  unfolding Solved
  solved_left [] ys n h = tt
  solved_left (c ∷ cs) ys n h = (h.0, solved_left cs ys (suc n) h.1)

  pub solved_right : (xs ys : List Cell) (n : ℕ) → Solved cells J S v n (xs ++ ys) → Solved cells J S v (n + length xs) ys
  unfolding Solved
  solved_right [] ys n h = subst (λ (m : ℕ). Solved cells J S v m ys) (sym (add-zero n)) h
  solved_right (c ∷ cs) ys n h =
      subst (λ (m : ℕ). Solved cells J S v m ys) (suc-add n (length cs) ∙ sym (add-suc n (length cs))) (solved_right cs ys (suc n) h.1)

  -- a gate is what its kind says, folded or not, where cell 0 is low
  module _ (zero_low : v low ≡ false) where
    folded : (x : CellNo) → is_low x ≡ true → v x ≡ false
    folded x e = ap (λ (k : ℕ). v (cell_no k)) (eqb-true (of_cell x) 0 e) ∙ zero_low

    first_value : (g : gate.Gate) (x y : CellNo) → v x ≡ false → v (first_low g y) ≡ truth g (v x) (v y)
    first_value Or x y e = rw e
    first_value And x y e = rw (zero_low, e)
    first_value Butnot x y e = rw (zero_low, e)

    second_value : (g : gate.Gate) (x y : CellNo) → v y ≡ false → v (second_low g x) ≡ truth g (v x) (v y)
    second_value Or x y e = rw (e, or-false)
    second_value And x y e = rw (zero_low, e, and-false)
    second_value Butnot x y e = rw (e, and-true)

    pub gate_value : (g : gate.Gate) (n : ℕ) (x y : CellNo) → Solved cells J S v n (gate_at g n x y).cells
        → v (gate_at g n x y).net ≡ truth g (v x) (v y)
    unfolding Solved
    gate_value g n x y =
        by_folding (λ (w : New). Solved cells J S v n w.cells → v w.net ≡ truth g (v x) (v y)) g n x y
        (λ e h. first_value g x y (folded x e)) (λ e h. second_value g x y (folded y e)) (λ h. h.0.1)

    pub if_value : (b : Bool) (w : New) (n : ℕ) (a : Bool) → (Solved cells J S v n w.cells → v w.net ≡ a)
        → Solved cells J S v n (only_if b w).cells → v (only_if b w).net ≡ (b && a)
    if_value true w n a f h = f h
    if_value false w n a f h = zero_low

    -- rows of codes
    pub row_value : (ps qs : List CellNo) (n : ℕ) → Solved cells J S v n (or_row n ps qs).cells
        → (j : ℕ) → v (code (or_row n ps qs).nets j) ≡ (v (code ps j) || v (code qs j))
    unfolding or_row
    row_value [] qs n h j = rw zero_low
    row_value (p ∷ ps) [] n h j = rw (zero_low, or-false)
    row_value (p ∷ ps) (q ∷ qs) n h zero = gate_value Or n p q (solved_left (or_at n p q).cells _ n h)
    row_value (p ∷ ps) (q ∷ qs) n h (suc j) =
        row_value ps qs (n + length (or_at n p q).cells) (solved_right (or_at n p q).cells _ n h) j

    none_value : (m j : ℕ) → v (code (replicate m low) j) ≡ false
    none_value zero j = zero_low
    none_value (suc m) zero = zero_low
    none_value (suc m) (suc j) = none_value m j

    only_by : (k m : ℕ) (x : CellNo) (j : ℕ) → v (code (replicate k low ++ (x ∷ replicate m low)) j) ≡ (v x && same k j)
    only_by zero m x zero = rw and-true
    only_by zero m x (suc j) = rw (none_value m j, and-false)
    only_by (suc k) m x zero = rw (zero_low, and-false)
    only_by (suc k) m x (suc j) = only_by k m x j

    pub only_value : (k : ℕ) (x : CellNo) (j : ℕ) → v (code (only k x) j) ≡ (v x && same k j)
    only_value k x j = only_by k (max_codes - suc k) x j

-- "the signal's list becomes or(list, g)"
pub list_value : (v : CellNo → Bool) (L : List CellNo) (x : SignalNo) (y : CellNo) (γ : Bool) → v y ≡ (v (list_of L x) || γ)
    → (s : SignalNo) → of_signal s < length L → v (list_of (set L (of_signal x) y) s) ≡ (v (list_of L s) || (γ && only_signal x s))
list_value v L x y γ e s l = go (ℕ_discrete (of_signal s) (of_signal x))
  where
    go : Dec (of_signal s ≡ of_signal x) → v (list_of (set L (of_signal x) y) s) ≡ (v (list_of L s) || (γ && only_signal x s))
    go (yes q) =
        let here : get_or (set L (of_signal x) y) (of_signal s) low ≡ y =
        subst (λ (k : ℕ). get_or (set L k y) (of_signal s) low ≡ y) q (get_or-set_same L (of_signal s) y low l) in
        rw (eq-eqb (of_signal s) (of_signal x) q, and-true, here, q) e
    go (no q) = rw (ne_eqb (of_signal s) (of_signal x) q, and-false, or-false, get_or-set_other L (of_signal x) (of_signal s) y low q)
