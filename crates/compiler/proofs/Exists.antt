-- Every list of bytes has an answer, and where no cell is on a cycle it is acceptance.
use mathlib.Core.Path.{◌≡◌, refl}
use mathlib.Core.List.{List}
use Prim.Native.Nat.{ℕ, ◌+◌}
use native.Mathlib.Omega.{arith}
use Rattle.number.specs.declared.CellNo.{CellNo}
use Rattle.number.specs.declared.Refusal.TheVariants.{Cycle as CycleFault}
use Rattle.number.specs.Counts.{of_cell}
use Rattle.number.specs.Refusals.{fault}
use Rattle.sheet.specs.Read.{Sheet, SheetOutcome, sheet, faulty}
use Rattle.sheet.proofs.ProperRead.{proper}
use Rattle.cells.proofs.Needing.{closed}
use Rattle.builder.specs.Netlist.{sheet_netlist}
use Rattle.builder.proofs.Format.{sheet_closed}
use Rattle.order.specs.Paths.{OnCycle}
use Rattle.order.proofs.Exists as ordering
use Rattle.compiler.specs.Check.{judge, Checks, refused, cyclic, accepted, Accepted}
use Rattle.compiler.proofs.Passing.{judged_read}
use Rattle.order.specs.declared.Cycle.{Cycle}
use Rattle.std.specs.Prelude.{Result, Ok, Err}

-- the cells of a sheet without the faults 1 to 11 have an order, or a lowest cell on a cycle
module _ (s : List ℕ) {w : Sheet} (judged : judge s ≡ sheet w) where
  cells_answered : ordering.Answered (sheet_netlist w)
  cells_answered =
      let read = judged_read {s = s} judged in
      ordering.answered (closed (1 + w.inputs) (sheet_closed (proper s w read.read))) (omega (arith, read.passes.few))

  pub acyclic_accepted : ((x : CellNo) → OnCycle (sheet_netlist w) x → ⊥) → Accepted s w
  acyclic_accepted free = accepted cells_answered.order judged (ordering.acyclic_ordered cells_answered free)

pub record Answered (s : List ℕ) : Type 0 where
  pub outcome : SheetOutcome
  pub checks : Checks s outcome

pub answered : (s : List ℕ) → Answered s
answered s = go (judge s) refl
  where
    by_order : (w : Sheet) → judge s ≡ sheet w → (a : ordering.Answered (sheet_netlist w)) (r : Result (Unit {0}) Cycle) → a.answer ≡ r → Answered s
    by_order w e a (Ok tt) is = record { outcome = sheet w; checks = accepted a.order e (a.is.found is) }
    by_order w e a (Err k) is =
        record { outcome = faulty (fault CycleFault (of_cell k.lowest)); checks = cyclic e (a.is.cycle k is) }

    go : (o : SheetOutcome) → judge s ≡ o → Answered s
    go (faulty f) e = record { outcome = faulty f; checks = refused e }
    go (sheet w) e = by_order w e (cells_answered s e) (cells_answered s e).answer refl
