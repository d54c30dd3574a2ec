-- The answer is determined: an ordered netlist has no cell on a cycle, and no two cells are the lowest. The order itself may be any.
use Prim.Native.Nat.{ℕ, ◌<◌}
use mathlib.Core.Path.{◌≡◌, refl, sym, ap, ◌∙◌, subst}
use mathlib.Core.List.{List}
use native.Mathlib.Omega.{arith}
use lib.ListN.{length}
use Rattle.number.specs.Counts.{cell_no, of_cell}
use Rattle.number.specs.declared.CellNo.{CellNo}
use Rattle.cells.specs.declared.Cell.{Cell}
use Rattle.cells.specs.Needs.{IsCell}
use Rattle.cells.proofs.Needing.{needs_cell, needs_as}
use Rattle.order.specs.Paths.{Reaches, one, more, OnCycle, Lowest, placed, Ordered, Answers}
use Rattle.order.specs.declared.Cycle.{Cycle}
use Rattle.std.specs.Prelude.{Result, Ok, Err}

reaches_cell : {cells : List Cell} {x y : CellNo} → Reaches cells x y → IsCell cells x
reaches_cell (one h) = needs_cell h
reaches_cell (more h p) = needs_cell h

module _ {cells : List Cell} {order : List ℕ} (o : Ordered cells order) where
  -- a way leads to earlier places
  earlier : {x y : CellNo} → Reaches cells x y → (j : ℕ) → j < length cells → placed order j ≡ x → (i : ℕ) × (i < j) × (placed order i ≡ y)
  earlier (one needs) j h e = o.after j _ h (needs_as e refl needs)
  earlier (more needs way) j h e =
      let next = o.after j _ h (needs_as e refl needs) in
      let rest = earlier way next.0 (omega (arith, next.1)) next.2 in
      (rest.0, omega (arith, rest.1, next.1), rest.2)

  pub ordered_acyclic : (x : CellNo) → OnCycle cells x → ⊥
  ordered_acyclic x way =
      let here = o.each x (reaches_cell way) in
      let back = earlier way here.0 here.1 here.2 in
      o.once back.0 here.0 back.1 here.1 (back.2 ∙ sym here.2)

-- there is one lowest cell at most
pub lowest_unique : {cells : List Cell} {x y : CellNo} → Lowest cells x → Lowest cells y → x ≡ y
lowest_unique {cells} {x} {y} a b =
    let not_above : of_cell y < of_cell x → ⊥ = λ h. a.below y h b.on in
    let not_below : of_cell x < of_cell y → ⊥ = λ h. b.below x h a.on in
    let e : of_cell x ≡ of_cell y = omega arith in
    ap cell_no e

-- the two answers
pub answers_found : {cells : List Cell} {order : List ℕ} → Ordered cells order → Answers cells order (Ok tt)
answers_found o = record { found = λ e. o; cycle = λ x e. let z : ◌≡◌ {A = ℕ} 0 1 = cc in absurd (omega arith) }

pub answers_cycle : {cells : List Cell} {order : List ℕ} {c : Cycle} → Lowest cells c.lowest → Answers cells order (Err c)
answers_cycle {cells} {order} {c} l =
    record {
      found = λ e. let z : ◌≡◌ {A = ℕ} 0 1 = cc in absurd (omega arith);
      cycle = λ d e. let same : c ≡ d = cc in subst (λ (d : Cycle). Lowest cells d.lowest) same l;
    }

-- two answers that satisfy the description are equal
pub answer_unique : {cells : List Cell} {order order' : List ℕ} (r r' : Result (Unit {0}) Cycle) → Answers cells order r → Answers cells order' r' → r ≡ r'
answer_unique (Ok _) (Ok _) a b = refl
answer_unique (Ok _) (Err d) a b = absurd (ordered_acyclic (a.found refl) d.lowest (b.cycle d refl).on)
answer_unique (Err c) (Ok _) a b = absurd (ordered_acyclic (b.found refl) c.lowest (a.cycle c refl).on)
answer_unique (Err c) (Err d) a b =
    ap (λ (x : CellNo). Err (record { lowest = x })) (lowest_unique (a.cycle c refl) (b.cycle d refl))

-- where no cell reaches itself an order is found
pub answer_found : {cells : List Cell} {order : List ℕ} (r : Result (Unit {0}) Cycle) → Answers cells order r → ((x : CellNo) → OnCycle cells x → ⊥) → r ≡ Ok tt
answer_found (Ok _) a free = refl
answer_found (Err c) a free = absurd (free c.lowest (a.cycle c refl).on)
