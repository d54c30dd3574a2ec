-- What a cell needs, from its operands; that cells whose operands are below their count are closed; and that a value hangs on nothing else.
use Prim.Native.Nat.{ℕ, ◌<◌}
use mathlib.Core.Path.{◌≡◌, refl, subst, subst⁻¹}
use mathlib.Core.Bool.{Bool}
use mathlib.Core.List.{List}
use mathlib.Core.Logic.{inl, inr, ⊎_elim}
use native.Mathlib.Omega.{arith}
use native.Mathlib.Decide.{dec_lt}
use lib.ListN.{length, get_or-eq_default}
use Rattle.number.specs.Counts.{of_cell}
use Rattle.number.specs.declared.CellNo.{CellNo}
use Rattle.number.specs.declared.SignalNo.{SignalNo}
use Rattle.cells.specs.declared.Cell.{Cell}
use Rattle.cells.specs.declared.Cell.TheVariants.{Low, High, Input, Gate, Register}
use Rattle.cells.specs.Cells.{cell_at}
use Rattle.cells.specs.Values.{value}
use Rattle.cells.specs.Needs.{IsCell, pins_of, Among, Needs, Closed}
use Rattle.cells.proofs.Within.{Within, AllWithin, within_at}
use Rattle.std.specs.Prelude.{Option, Some, None}

-- what needs a cell is a cell
pub needs_cell : {cells : List Cell} {x y : CellNo} → Needs cells x y → IsCell cells x
needs_cell {cells} {x} {y} h = go (dec_lt (of_cell x) (length cells))
  where
    go : Dec (IsCell cells x) → IsCell cells x
    go (yes q) = q
    go (no n) =
        let none : cell_at cells x ≡ Low = get_or-eq_default cells Low {n = of_cell x} (omega arith) in
        absurd (subst (λ (c : Cell). Among (pins_of c) y) none h.among)

-- the cells may be named otherwise
pub needs_as : {cells : List Cell} {a b x y : CellNo} → a ≡ x → b ≡ y → Needs cells x y → Needs cells a b
needs_as {cells} {a} {b} {x} {y} p q h = subst⁻¹ (λ (z : CellNo). Needs cells z b) p (subst⁻¹ (λ (z : CellNo). Needs cells x z) q h)

-- a cell with two operands needs these and no others
module _ {cells : List Cell} {x a b : CellNo} (pins : pins_of (cell_at cells x) ≡ Some (a, b)) where
  pub needs_first : Needs cells x a
  needs_first = record { among = subst⁻¹ (λ (p : Option (CellNo × CellNo)). Among p a) pins (inl refl) }

  pub needs_second : Needs cells x b
  needs_second = record { among = subst⁻¹ (λ (p : Option (CellNo × CellNo)). Among p b) pins (inr refl) }

  pub needs_only : (P : CellNo → Type 0) → P a → P b → (y : CellNo) → Needs cells x y → P y
  needs_only P at_a at_b y h = ⊎_elim (λ e. subst P e at_a) (λ e. subst P e at_b) (subst (λ (p : Option (CellNo × CellNo)). Among p y) pins h.among)

-- one without needs none
pub needs_none : {cells : List Cell} {x y : CellNo} → pins_of (cell_at cells x) ≡ None → Needs cells x y → ⊥
needs_none {cells} {x} {y} pins h = subst (λ (p : Option (CellNo × CellNo)). Among p y) pins h.among

-- what a gate needs is one of its operands
needed : (s m : ℕ) (c : Cell) (y : CellNo) → Within s m c → Among (pins_of c) y → of_cell y < m
needed s m (Gate g a b) y h (inl e) = subst (λ (x : CellNo). of_cell x < m) e h.0
needed s m (Gate g a b) y h (inr e) = subst (λ (x : CellNo). of_cell x < m) e h.1
needed s m Low y h e = absurd e
needed s m High y h e = absurd e
needed s m (Input i) y h e = absurd e
needed s m (Register x) y h e = absurd e

pub closed : (s : ℕ) {cells : List Cell} → AllWithin s (length cells) cells → Closed cells
closed s {cells} h =
    record {
      gates = λ x y n. needed s (length cells) (cell_at cells x) y (within_at s (length cells) cells h (of_cell x)) n.among;
      registers = λ x y e. subst (Within s (length cells)) e (within_at s (length cells) cells h (of_cell x));
    }

-- a cell's value depends on the nets that it needs, and on no other
pub value_same : (J : SignalNo → Bool) (q : Bool) (u v : CellNo → Bool) (c : Cell) → ((y : CellNo) → Among (pins_of c) y → u y ≡ v y)
    → value J q u c ≡ value J q v c
value_same J q u v Low f = refl
value_same J q u v High f = refl
value_same J q u v (Input s) f = refl
value_same J q u v (Gate g x y) f = rw (f x (inl refl), f y (inr refl))
value_same J q u v (Register x) f = refl
