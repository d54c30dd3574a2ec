-- The lent columns: a mark or a place after a store, and how many marks are 0.
use Prim.Native.Nat.{ℕ, suc, zero, ◌<◌, ◌≤◌}
use mathlib.Core.Path.{◌≡◌, refl, ap, ◌∙◌, subst⁻¹}
use mathlib.Core.List.{List, [], ◌∷◌}
use native.Mathlib.Omega.{arith}
use native.Mathlib.Decide.{ℕ_discrete, dec_lt}
use lib.ListN.{length, get_or, set, replicate, get_or-eq_default}
use lib.Seq.{get_or-set_same, get_or-set_other}
use Rattle.number.specs.Counts.{cell_no, of_cell}
use Rattle.number.specs.declared.CellNo.{CellNo}
use Rattle.cells.specs.declared.Cell.{Cell}
use Rattle.order.specs.Paths.{placed}
use Rattle.order.specs.declared.Mark.{Mark}
use Rattle.order.specs.declared.Mark.TheVariants.{New, Open, Placed}
use Rattle.order.specs.Search.{WorkRoom, progress, reached, IsUnmarked, Seen, HasPlace, unmet, mark, IsBlank, zeros}

-- two cells are the same or not
pub same : (x y : CellNo) → Dec (x ≡ y)
same x y = go (ℕ_discrete (of_cell x) (of_cell y))
  where
    go : Dec (of_cell x ≡ of_cell y) → Dec (x ≡ y)
    go (yes e) = yes (ap cell_no e)
    go (no n) = no (λ e. n (ap of_cell e))

pub progress_same : (marks : List Mark) (x : CellNo) (v : Mark) → of_cell x < length marks → progress (set marks (of_cell x) v) x ≡ reached v
progress_same marks x v h = ap reached (get_or-set_same marks (of_cell x) v New h)

pub progress_other : (marks : List Mark) (x y : CellNo) (v : Mark) → (y ≡ x → ⊥) → progress (set marks (of_cell x) v) y ≡ progress marks y
progress_other marks x y v n = ap reached (get_or-set_other marks (of_cell x) (of_cell y) v New (λ e. n (ap cell_no e)))

-- a cell that is not new was seen
pub met : (m : Mark) → (m ≡ New → ⊥) → 0 < reached m
met New other = absurd (other refl)
met Open other = omega arith
met Placed other = omega arith

-- a cell that was seen stays so, whatever cell is marked
pub still_seen : (marks : List Mark) (x y : CellNo) (v : Mark) → 0 < reached v → of_cell x < length marks → Seen marks y
    → Seen (set marks (of_cell x) v) y
still_seen marks x y v some h s = go (same y x)
  where
    go : Dec (y ≡ x) → Seen (set marks (of_cell x) v) y
    go (yes e) = subst⁻¹ (λ (z : CellNo). Seen (set marks (of_cell x) v) z) e (omega (arith, progress_same marks x v h))
    go (no n) = rw (progress_other marks x y v n) s

-- what is marked lies in the column
pub seen_low : (marks : List Mark) (x : CellNo) → Seen marks x → of_cell x < length marks
seen_low marks x s = go (dec_lt (of_cell x) (length marks))
  where
    go : Dec (of_cell x < length marks) → of_cell x < length marks
    go (yes h) = h
    go (no h) = absurd (omega (arith, ap reached (get_or-eq_default marks New {n = of_cell x} (omega arith))))

pub placed_same : (column : List ℕ) (j : ℕ) (x : CellNo) → j < length column → placed (set column j (of_cell x)) j ≡ x
placed_same column j x h = ap cell_no (get_or-set_same column j (of_cell x) 0 h)

pub placed_other : (column : List ℕ) (i j : ℕ) (x : CellNo) → (i ≡ j → ⊥) → placed (set column j (of_cell x)) i ≡ placed column i
placed_other column i j x n = ap cell_no (get_or-set_other column j i (of_cell x) 0 n)

-- a store past the first n leaves what stands among them
pub still_stands : {column : List ℕ} {n : ℕ} {y : CellNo} (m k : ℕ) (x : CellNo) → n ≤ m → n ≤ k → HasPlace column n y
    → HasPlace (set column m (of_cell x)) k y
still_stands {column} m k x h h' w =
    record {
      place = w.place;
      low = omega (arith, w.low);
      is = placed_other column w.place m x (λ e. omega (arith, w.low)) ∙ w.is;
    }

-- a cell that is marked for the first time is one less to come
pub unmet_new : (n : ℕ) (marks : List Mark) (i : ℕ) (v : Mark) → 0 < reached v → i < n → i < length marks → reached (get_or marks i New) ≡ 0
    → suc (unmet n (set marks i v)) ≡ unmet n marks
unfolding unmet
unmet_new zero marks i v some h h' e = absurd (omega arith)
unmet_new (suc n) [] i v some h h' e = absurd (omega arith)
unmet_new (suc n) (m ∷ marks) zero v some h h' e = omega arith
unmet_new (suc n) (m ∷ marks) (suc i) v some h h' e = omega (arith, unmet_new n marks i v some (omega arith) (omega arith) e)

-- and marking it again changes nothing
pub unmet_again : (n : ℕ) (marks : List Mark) (i : ℕ) (v : Mark) → 0 < reached v → 0 < reached (get_or marks i New)
    → unmet n (set marks i v) ≡ unmet n marks
unfolding unmet
unmet_again zero marks i v some h = refl
unmet_again (suc n) [] i v some h = refl
unmet_again (suc n) (m ∷ marks) zero v some h = omega arith
unmet_again (suc n) (m ∷ marks) (suc i) v some h = omega (arith, unmet_again n marks i v some h)

-- before the first mark
pub unmet_all : (n : ℕ) (marks : List Mark) → n ≤ length marks → IsUnmarked marks → unmet n marks ≡ n
unfolding unmet
unmet_all zero marks h z = refl
unmet_all (suc n) [] h z = absurd (omega arith)
unmet_all (suc n) (m ∷ marks) h z = omega (arith, z 0, unmet_all n marks (omega arith) (λ i. z (suc i)))

-- and after the last
pub unmet_none : (n : ℕ) (marks : List Mark) → ((i : ℕ) → i < n → 0 < reached (get_or marks i New)) → unmet n marks ≡ 0
unfolding unmet
unmet_none zero marks s = refl
unmet_none (suc n) [] s = refl
unmet_none (suc n) (m ∷ marks) s = omega (arith, s 0 (omega arith), unmet_none n marks (λ i h. s (suc i) (omega arith)))

-- A store keeps a column's length, so what was lent suffices after it.
pub still_lent : {cells : List Cell} {marks marks' : List Mark} {stack stack' : List ℕ} → WorkRoom cells marks stack → length marks' ≡ length marks
    → length stack' ≡ length stack → WorkRoom cells marks' stack'
still_lent l m s = record { few = l.few; wide = omega (arith, l.wide); deep = omega (arith, l.deep) }

-- new cells are not marked
pub new_marks : (n : ℕ) → IsUnmarked (replicate n New)
new_marks zero i = refl
new_marks (suc n) zero = refl
new_marks (suc n) (suc i) = new_marks n i

-- The same of the columns of numbers that the crates above search with.
pub mark_same : (marks : List ℕ) (x : CellNo) (v : ℕ) → of_cell x < length marks → mark (set marks (of_cell x) v) x ≡ v
mark_same marks x v h = get_or-set_same marks (of_cell x) v 0 h

pub mark_other : (marks : List ℕ) (x y : CellNo) (v : ℕ) → (y ≡ x → ⊥) → mark (set marks (of_cell x) v) y ≡ mark marks y
mark_other marks x y v n = get_or-set_other marks (of_cell x) (of_cell y) v 0 (λ e. n (ap cell_no e))

pub zeros_new : (n : ℕ) (marks : List ℕ) (i v : ℕ) → i < n → i < length marks → get_or marks i 0 ≡ 0
    → suc (zeros n (set marks i (suc v))) ≡ zeros n marks
unfolding zeros
zeros_new zero marks i v h h' e = absurd (omega arith)
zeros_new (suc n) [] i v h h' e = absurd (omega arith)
zeros_new (suc n) (zero ∷ marks) zero v h h' e = refl
zeros_new (suc n) (suc m ∷ marks) zero v h h' e = absurd (omega arith)
zeros_new (suc n) (zero ∷ marks) (suc i) v h h' e = ap suc (zeros_new n marks i v (omega arith) (omega arith) e)
zeros_new (suc n) (suc m ∷ marks) (suc i) v h h' e = zeros_new n marks i v (omega arith) (omega arith) e

pub zeros_again : (n : ℕ) (marks : List ℕ) (i v : ℕ) → 0 < get_or marks i 0 → zeros n (set marks i (suc v)) ≡ zeros n marks
unfolding zeros
zeros_again zero marks i v h = refl
zeros_again (suc n) [] i v h = refl
zeros_again (suc n) (zero ∷ marks) zero v h = absurd (omega arith)
zeros_again (suc n) (suc m ∷ marks) zero v h = refl
zeros_again (suc n) (zero ∷ marks) (suc i) v h = ap suc (zeros_again n marks i v h)
zeros_again (suc n) (suc m ∷ marks) (suc i) v h = zeros_again n marks i v h

pub blank : (n : ℕ) → IsBlank (replicate n 0)
blank zero i = refl
blank (suc n) zero = refl
blank (suc n) (suc i) = blank n i
