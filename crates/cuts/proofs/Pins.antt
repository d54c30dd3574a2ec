-- Whether a net is at a pin, and at which.
use Prim.Native.Nat.{ℕ, zero, suc, ◌<◌}
use mathlib.Core.Path.{◌≡◌, refl, ap}
use mathlib.Core.Bool.{Bool, true, false}
use mathlib.Core.List.{List, [], ◌∷◌}
use native.Mathlib.Nat.{le_of_suc-le-suc, not-suc-le-zero}
use native.Mathlib.Omega.{arith}
use lib.Dec.{eqb}
use lib.ListN.{length}
use borrow.Author.Tests.{eqb-true, eq-eqb}
use Rattle.number.specs.Counts.{cell_no, of_cell}
use Rattle.number.specs.declared.CellNo.{CellNo}
use Rattle.number.proofs.Bools.{or_left, or_right}
use Rattle.cuts.specs.Cut.{pin_at, is_pin}

pub pin_found : (cut : List CellNo) (x : CellNo) → is_pin cut x ≡ true → (p : ℕ) × (p < length cut) × (pin_at cut p ≡ x)
unfolding is_pin
pin_found [] x e = let z : ◌≡◌ {A = ℕ} 0 1 = cc in absurd (omega arith)
pin_found (q ∷ cut) x e = go (eqb (of_cell q) (of_cell x)) refl (λ other. pin_found cut x (rw other at e))
  where
    go : (b : Bool) → eqb (of_cell q) (of_cell x) ≡ b → (eqb (of_cell q) (of_cell x) ≡ false → (p : ℕ) × (p < length cut) × (pin_at cut p ≡ x))
        → (p : ℕ) × (p < length (q ∷ cut)) × (pin_at (q ∷ cut) p ≡ x)
    go true here rest = (0, omega arith, ap cell_no (eqb-true (of_cell q) (of_cell x) here))
    go false other rest = let w = rest other in (suc w.0, omega (arith, w.1), w.2)

pub found_pin : (cut : List CellNo) (p : ℕ) → p < length cut → is_pin cut (pin_at cut p) ≡ true
unfolding is_pin
found_pin [] p h = absurd (not-suc-le-zero h)
found_pin (q ∷ cut) zero h = or_left (eqb (of_cell q) (of_cell q)) (is_pin cut q) (eq-eqb (of_cell q) (of_cell q) refl)
found_pin (q ∷ cut) (suc p) h =
    or_right (eqb (of_cell q) (of_cell (pin_at cut p))) (is_pin cut (pin_at cut p)) (found_pin cut p (le_of_suc-le-suc h))
