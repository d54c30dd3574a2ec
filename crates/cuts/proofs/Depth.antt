-- An order of the cells: what a cell reaches stands before it, so none reaches itself, and a way down has at most as many cells as there
-- are.
use Prim.Native.Nat.{ℕ, zero, suc, ◌+◌, ◌<◌}
use mathlib.Core.Path.{◌≡◌, sym, subst, ◌∙◌}
use mathlib.Core.List.{List}
use native.Mathlib.Omega.{arith}
use Rattle.std.proofs.Math.Logic.{∥∥₁_elim}
use lib.ListN.{length}
use Rattle.number.specs.declared.CellNo.{CellNo}
use Rattle.cells.specs.declared.Cell.{Cell}
use Rattle.cells.specs.Needs.{IsCell, Needs}
use Rattle.order.specs.Paths.{Reaches, one, more, placed, Ordered}
use Rattle.cuts.specs.Cutting.{CanOrder}

module _ {cells : List Cell} {order : List ℕ} (o : Ordered cells order) where
  step : {x y : CellNo} → Needs cells x y → (p : ℕ) → p < length cells → placed order p ≡ x → (q : ℕ) × (q < p) × (placed order q ≡ y)
  step {x} {y} n p h e = o.after p y h (subst (λ (z : CellNo). Needs cells z y) (sym e) n)

  pub lower : {x y : CellNo} → Reaches cells x y → (p : ℕ) → p < length cells → placed order p ≡ x
      → (q : ℕ) × (q < p) × (placed order q ≡ y)
  lower (one n) p h e = step n p h e
  lower (more n way) p h e =
      let a = step n p h e in
      let b = lower way a.0 (omega (arith, a.1)) a.2 in
      (b.0, omega (arith, a.1, b.1), b.2)

  pub no_cycle : {x : CellNo} → IsCell cells x → Reaches cells x x → ⊥
  no_cycle {x} is way =
      let a = o.each x is in
      let b = lower way a.0 a.1 a.2 in
      o.once b.0 a.0 b.1 a.1 (b.2 ∙ sym a.2)

  -- the j-th of cells that reach each other stands so far down that j fits above it
  pub deep : (stack : List ℕ) (top : ℕ) → ((j : ℕ) → j < top → IsCell cells (placed stack j))
      → ((i j : ℕ) → i < j → j < top → Reaches cells (placed stack i) (placed stack j))
      → (j : ℕ) → j < top → (p : ℕ) × (p + j < length cells) × (placed order p ≡ placed stack j)
  deep stack top is way zero h = let a = o.each (placed stack 0) (is 0 h) in (a.0, omega (arith, a.1), a.2)
  deep stack top is way (suc j) h =
      let a = deep stack top is way j (omega arith) in
      let b = lower (way j (suc j) (omega arith) h) a.0 (omega (arith, a.1)) a.2 in
      (b.0, omega (arith, a.1, b.1), b.2)

-- Where there is an order, whichever, none reaches itself.
pub acyclic : {cells : List Cell} {x : CellNo} → CanOrder cells → IsCell cells x → Reaches cells x x → ⊥
acyclic o is way = ∥∥₁_elim o (λ a b. absurd a) (λ w. no_cycle w.1 is way)
