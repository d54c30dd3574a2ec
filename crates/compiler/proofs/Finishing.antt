-- The last step: cells that are put in an order are a program, and others have a lowest cell on a cycle.
use mathlib.Core.Path.{◌≡◌, refl, subst}
use mathlib.Core.List.{List}
use Prim.Native.Nat.{ℕ, ◌≤◌}
use native.Mathlib.Omega.{arith}
use lib.ListN.{length}
use Rattle.number.specs.declared.Refusal.TheVariants.{Cycle as CycleFault}
use Rattle.number.specs.Counts.{of_cell}
use Rattle.number.specs.Refusals.{fault}
use Rattle.limits.specs.Limits.{max_cells}
use Rattle.sheet.specs.declared.Counts.{Counts}
use Rattle.cells.specs.Words.{cells_of}
use Rattle.cells.specs.Needs.{Closed}
use Rattle.cells.proofs.Words.{cells_length}
use Rattle.order.specs.Paths.{Orderable, Answers}
use Rattle.compiler.specs.Compile.{Finishes, found, cycle}
use Rattle.order.specs.declared.Cycle.{Cycle}
use Rattle.std.specs.Prelude.{Ok, Err}

pub orderable : (words : List ℕ) {order : List ℕ} → Closed (cells_of words) → length words ≤ max_cells → length order ≡ max_cells
    → Orderable (cells_of words) order
orderable words closed few places =
    let count : length (cells_of words) ≡ length words = cells_length words in
    record { closed = closed; few = omega arith; long = omega arith }

module _ (words : List ℕ) {order : List ℕ} {c : Counts} where
  pub finishes_found : Answers (cells_of words) order (Ok (tt {0})) → Finishes (cells_of words) c (Ok (c, length words))
  finishes_found a = subst (λ (k : ℕ). Finishes (cells_of words) c (Ok (c, k))) (cells_length words) (found (a.found refl))

  pub finishes_cycle : {k : Cycle} → Answers (cells_of words) order (Err k)
      → Finishes (cells_of words) c (Err (fault CycleFault (of_cell k.lowest)))
  finishes_cycle {k} a = cycle (a.cycle k refl)
