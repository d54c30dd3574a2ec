-- An order gives each cell a rank, its place, and what a cell needs has a lower one.
use Prim.Native.Nat.{ℕ, ◌<◌}
use mathlib.Core.Path.{◌≡◌, sym, ◌∙◌, subst}
use mathlib.Core.List.{List}
use native.Mathlib.Omega.{arith}
use native.Mathlib.Decide.{dec_lt}
use lib.ListN.{length, get_or-eq_default}
use Rattle.number.specs.Counts.{of_cell}
use Rattle.number.specs.declared.CellNo.{CellNo}
use Rattle.cells.specs.declared.Cell.{Cell}
use Rattle.cells.specs.declared.Cell.TheVariants.{Low}
use Rattle.cells.specs.Cells.{cell_at}
use Rattle.cells.specs.Needs.{IsCell, pins_of, Among, Needs}
use Rattle.order.specs.Paths.{placed, Ordered}

-- what a cell needs ranks below it
abbrev pub Ranked : (CellNo → ℕ) → List Cell → Type 0
Ranked rank cells = (x y : CellNo) → Needs cells x y → rank y < rank x

-- past the last cell there is low, which needs nothing
pub past_end : (cells : List Cell) (x : CellNo) → (IsCell cells x → ⊥) → cell_at cells x ≡ Low
past_end cells x h = get_or-eq_default cells Low {n = of_cell x} (omega arith)

needs_cell : (cells : List Cell) (x y : CellNo) → Needs cells x y → Dec (IsCell cells x) → IsCell cells x
needs_cell cells x y n (yes h) = h
needs_cell cells x y n (no h) = absurd (subst (λ (c : Cell). Among (pins_of c) y) (past_end cells x h) n.among)

module _ (cells : List Cell) (order : List ℕ) (o : Ordered cells order) where
  -- a cell has one place
  same_place : (i j : ℕ) → i < length cells → j < length cells → placed order i ≡ placed order j → Dec (i < j) → Dec (j < i) → i ≡ j
  same_place i j hi hj e (yes l) d = absurd (o.once i j l hj e)
  same_place i j hi hj e (no l) (yes g) = absurd (o.once j i g hi (sym e))
  same_place i j hi hj e (no l) (no g) = omega arith

  place : (x : CellNo) → Dec (IsCell cells x) → ℕ
  place x (yes h) = (o.each x h).0
  place x (no h) = 0

  -- the place of a cell in the order, and 0 past the last cell
  pub rank : CellNo → ℕ
  rank x = place x (dec_lt (of_cell x) (length cells))

  place_is : (x : CellNo) (j : ℕ) → j < length cells → placed order j ≡ x → (d : Dec (IsCell cells x)) → place x d ≡ j
  unfolding place
  place_is x j h e (yes g) =
      let w = o.each x g in
      same_place w.0 j w.1 h (w.2 ∙ sym e) (dec_lt w.0 j) (dec_lt j w.0)
  place_is x j h e (no g) = absurd (g (subst (IsCell cells) e (o.cell j h)))

  rank_is : (x : CellNo) (j : ℕ) → j < length cells → placed order j ≡ x → rank x ≡ j
  unfolding rank
  rank_is x j h e = place_is x j h e (dec_lt (of_cell x) (length cells))

  pub ranked : Ranked rank cells
  ranked x y n =
      let w = o.each x (needs_cell cells x y n (dec_lt (of_cell x) (length cells))) in
      let below = o.after w.0 y w.1 (subst (λ (z : CellNo). Needs cells z y) (sym w.2) n) in
      let x_at : rank x ≡ w.0 = rank_is x w.0 w.1 w.2 in
      let y_at : rank y ≡ below.0 = rank_is y below.0 (omega (arith, below.1, w.1)) below.2 in
      omega (arith, below.1)
