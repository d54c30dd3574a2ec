-- An order of cells, by a computed test: each cell's place in it is given beside it. So an example's order holds by computation.
use mathlib.Core.Path.{◌≡◌, ◌∙◌, ap, subst}
use mathlib.Core.Bool.{Bool, true, ◌&&◌}
use mathlib.Core.List.{List}
use mathlib.Core.Logic.{⊎_elim}
use Prim.Native.Nat.{ℕ, zero, suc, ◌<◌}
use native.Mathlib.Omega.{arith}
use native.Mathlib.Decide.{ℕ_discrete}
use lib.Dec.{ltb, eqb}
use lib.ListN.{length, get_or}
use borrow.Author.Tests.{ltb-true, eqb-true}
use Rattle.number.specs.declared.CellNo.{CellNo}
use Rattle.number.specs.Counts.{cell_no, of_cell}
use Rattle.number.proofs.Bools.{and_left, and_right}
use Rattle.cells.specs.declared.Cell.{Cell}
use Rattle.cells.specs.Cells.{cell_at}
use Rattle.cells.specs.Needs.{pins_of, Among, Needs, IsCell}
use Rattle.order.specs.Paths.{placed, Ordered}
use Rattle.std.specs.Prelude.{Option, Some, None}

-- f holds of all numbers below n
unfoldable pub every : ℕ → (ℕ → Bool) → Bool
every zero f = true
every (suc n) f = f n && every n f

each_of : (n : ℕ) (f : ℕ → Bool) → every n f ≡ true → (k : ℕ) → k < n → f k ≡ true
unfolding every
each_of zero f e k l = absurd (omega arith)
each_of (suc n) f e k l = go (ℕ_discrete k n) (each_of n f (and_right (f n) (every n f) e) k)
  where
    go : Dec (k ≡ n) → (k < n → f k ≡ true) → f k ≡ true
    go (yes here) below = ap f here ∙ and_left (f n) (every n f) e
    go (no other) below = below (omega arith)

module _ (cells : List Cell) (order places : List ℕ) where
  -- the cell at a place, and a cell's place
  abbrev at : ℕ → ℕ
  at j = get_or order j 0

  abbrev place : ℕ → ℕ
  place x = get_or places x 0

  -- y stands before place j
  abbrev before : ℕ → CellNo → Bool
  before j y = ltb (place (of_cell y)) j && eqb (at (place (of_cell y))) (of_cell y)

  abbrev needed : ℕ → Option (CellNo × CellNo) → Bool
  needed j None = true
  needed j (Some (x, y)) = before j x && before j y

  unfoldable pub in_order_at : ℕ → Bool
  in_order_at j =
      (ltb (at j) (length cells) && eqb (place (at j)) j)
      && (needed j (pins_of (cell_at cells (cell_no (at j)))) && (ltb (place j) (length cells) && eqb (at (place j)) j))

  stands_before : (j : ℕ) (y : CellNo) → before j y ≡ true → (i : ℕ) × (i < j) × (placed order i ≡ y)
  stands_before j y e =
      let i : ℕ = place (of_cell y) in
      let same : Bool = eqb (at i) (of_cell y) in
      (i, ltb-true i j (and_left (ltb i j) same e), ap cell_no (eqb-true (at i) (of_cell y) (and_right (ltb i j) same e)))

  pins_before : (j : ℕ) (p : Option (CellNo × CellNo)) (y : CellNo) → needed j p ≡ true → Among p y → (i : ℕ) × (i < j) × (placed order i ≡ y)
  pins_before j None y e h = absurd h
  pins_before j (Some (a, b)) y e h =
      ⊎_elim (λ q. subst (λ (z : CellNo). (i : ℕ) × (i < j) × (placed order i ≡ z)) q (stands_before j a (and_left (before j a) (before j b) e)))
      (λ q. subst (λ (z : CellNo). (i : ℕ) × (i < j) × (placed order i ≡ z)) q (stands_before j b (and_right (before j a) (before j b) e))) h

  pub ordered : every (length cells) in_order_at ≡ true → Ordered cells order
  unfolding in_order_at
  ordered all = record { cell = cell; once = once; each = each; after = after }
    where
      there : (j : ℕ) → j < length cells → (ltb (at j) (length cells) && eqb (place (at j)) j) ≡ true
      there j l = and_left (ltb (at j) (length cells) && eqb (place (at j)) j) _ (each_of (length cells) in_order_at all j l)

      rest : (j : ℕ) → j < length cells
          → (needed j (pins_of (cell_at cells (cell_no (at j)))) && (ltb (place j) (length cells) && eqb (at (place j)) j)) ≡ true
      rest j l = and_right (ltb (at j) (length cells) && eqb (place (at j)) j) _ (each_of (length cells) in_order_at all j l)

      back : (j : ℕ) → j < length cells → place (at j) ≡ j
      back j l = eqb-true (place (at j)) j (and_right (ltb (at j) (length cells)) (eqb (place (at j)) j) (there j l))

      found : (x : ℕ) → x < length cells → (ltb (place x) (length cells) && eqb (at (place x)) x) ≡ true
      found x l = and_right (needed x (pins_of (cell_at cells (cell_no (at x))))) _ (rest x l)

      cell : (j : ℕ) → j < length cells → IsCell cells (placed order j)
      cell j l = ltb-true (at j) (length cells) (and_left (ltb (at j) (length cells)) (eqb (place (at j)) j) (there j l))

      once : (i j : ℕ) → i < j → j < length cells → placed order i ≡ placed order j → ⊥
      once i j l m e =
          let same : place (at i) ≡ place (at j) = ap (λ (x : CellNo). place (of_cell x)) e in
          let i_back = back i (omega arith) in
          let j_back = back j m in
          omega (arith, same, i_back, j_back, l)

      each : (x : CellNo) → IsCell cells x → (j : ℕ) × (j < length cells) × (placed order j ≡ x)
      each x l =
          let j : ℕ = place (of_cell x) in (
            j,
            ltb-true j (length cells) (and_left (ltb j (length cells)) (eqb (at j) (of_cell x)) (found (of_cell x) l)),
            ap cell_no (eqb-true (at j) (of_cell x) (and_right (ltb j (length cells)) (eqb (at j) (of_cell x)) (found (of_cell x) l))),
          )

      after : (j : ℕ) (y : CellNo) → j < length cells → Needs cells (placed order j) y → (i : ℕ) × (i < j) × (placed order i ≡ y)
      after j y l h =
          pins_before j (pins_of (cell_at cells (cell_no (at j)))) y (and_left (needed j (pins_of (cell_at cells (cell_no (at j))))) _ (rest j l)) h.among
