-- There is one answer at most.
use mathlib.Core.Path.{◌≡◌, sym, ap, ◌∙◌, subst}
use mathlib.Core.List.{List}
use Prim.Native.Nat.{ℕ}
use Rattle.number.specs.declared.CellNo.{CellNo}
use Rattle.number.specs.declared.Refusal.TheVariants.{Cycle}
use Rattle.number.specs.Counts.{of_cell}
use Rattle.number.specs.Refusals.{fault}
use Rattle.sheet.specs.Read.{Sheet, SheetOutcome, sheet, faulty}
use Rattle.builder.specs.Netlist.{sheet_netlist}
use Rattle.order.specs.Paths.{Lowest}
use Rattle.order.proofs.Unique.{ordered_acyclic, lowest_unique}
use Rattle.compiler.specs.Check.{judge, Checks, refused, cyclic, accepted}
use Rattle.compiler.proofs.Passing.{faulty_sheet}

-- the bytes are judged as one sheet
own_sheet : (s : List ℕ) {v w : Sheet} → judge s ≡ sheet v → judge s ≡ sheet w → v ≡ w
own_sheet s a b = let same : sheet _ ≡ sheet _ = sym a ∙ b in cc

pub one_check : (s : List ℕ) {o o' : SheetOutcome} → Checks s o → Checks s o' → o ≡ o'
one_check s (refused a) (refused b) = sym a ∙ b
one_check s (refused a) (cyclic b lowest) = faulty_sheet (sym a ∙ b)
one_check s (refused a) (accepted order b ordered) = faulty_sheet (sym a ∙ b)
one_check s (cyclic a lowest) (refused b) = faulty_sheet (sym b ∙ a)
one_check s (cyclic {x = x} a lowest) (cyclic {x = y} b lowest') =
    let same : x ≡ y = lowest_unique lowest (subst (λ (u : Sheet). Lowest (sheet_netlist u) y) (own_sheet s b a) lowest') in
    ap (λ (k : CellNo). faulty (fault Cycle (of_cell k))) same
one_check s (cyclic {x = x} a lowest) (accepted order b ordered) =
    absurd (ordered_acyclic ordered x (subst (λ (u : Sheet). Lowest (sheet_netlist u) x) (own_sheet s a b) lowest).on)
one_check s (accepted order a ordered) (refused b) = faulty_sheet (sym b ∙ a)
one_check s (accepted order a ordered) (cyclic {x = x} b lowest) =
    absurd (ordered_acyclic ordered x (subst (λ (u : Sheet). Lowest (sheet_netlist u) x) (own_sheet s b a) lowest).on)
one_check s (accepted order a ordered) (accepted order' b ordered') = sym a ∙ b
