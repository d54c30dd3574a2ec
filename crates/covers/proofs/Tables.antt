-- One table is judged.
use Prim.Native.Nat.{ℕ, ◌+◌, ◌<◌, ◌≤◌}
use mathlib.Core.Path.{◌≡◌, refl, sym, ap, ◌∙◌, subst}
use mathlib.Core.Bool.{Bool, true, false, false≢true}
use mathlib.Core.List.{List}
use native.Mathlib.Omega.{arith}
use native.Mathlib.Decide.{dec_lt}
use lib.ListN.{length}
use Rattle.number.specs.Counts.{of_cell}
use Rattle.number.specs.declared.CellNo.{CellNo}
use Rattle.tables.specs.declared.Table.{Table}
use Rattle.cells.specs.declared.Cell.{Cell}
use Rattle.cells.specs.declared.Cell.TheVariants.{Low, High, Input, Gate, Register}
use Rattle.cells.specs.Cells.{cell_at}
use Rattle.cells.specs.Needs.{IsCell}
use Rattle.order.specs.Search.{mark, Decides}
use Rattle.run.proofs.Rank.{past_end}
use Rattle.cuts.specs.Cut.{pin_at, is_gate, is_source, is_constant, RightCut}
use Rattle.covers.specs.Covers.{table_count, table_at, Carried, RightTable}
use Rattle.cuts.specs.Cutting.{AllNew}
use Rattle.covers.specs.Checking.{PinsCarried, Tabled, Says, TableJudged}

-- A gate is a cell, and neither a register, an input nor a constant.
pub gate_cell : (cells : List Cell) (x : CellNo) → is_gate (cell_at cells x) ≡ true → IsCell cells x
gate_cell cells x e = go (dec_lt (of_cell x) (length cells))
  where
    go : Dec (IsCell cells x) → IsCell cells x
    go (yes h) = h
    go (no n) = absurd (false≢true (sym (ap is_gate (past_end cells x n)) ∙ e))

gates_no_source : (c : Cell) → is_gate c ≡ true → is_source c ≡ false
gates_no_source Low e = absurd (false≢true e)
gates_no_source High e = absurd (false≢true e)
gates_no_source (Input s) e = absurd (false≢true e)
gates_no_source (Gate g x y) e = refl
gates_no_source (Register x) e = absurd (false≢true e)

gates_no_constant : (c : Cell) → is_gate c ≡ true → is_constant c ≡ false
gates_no_constant Low e = absurd (false≢true e)
gates_no_constant High e = absurd (false≢true e)
gates_no_constant (Input s) e = absurd (false≢true e)
gates_no_constant (Gate g x y) e = refl
gates_no_constant (Register x) e = absurd (false≢true e)

pub no_source : (cells : List Cell) (x : CellNo) → is_gate (cell_at cells x) ≡ true → is_source (cell_at cells x) ≡ false
no_source cells x e = gates_no_source (cell_at cells x) e

pub no_constant : (cells : List Cell) (x : CellNo) → is_gate (cell_at cells x) ≡ true → is_constant (cell_at cells x) ≡ false
no_constant cells x e = gates_no_constant (cell_at cells x) e

-- What makes a table wrong by itself.
pub judged_no : {cells : List Cell} {tabled : List ℕ} {base : ℕ} {t : Table} {marks' : List ℕ}
    → ((cover : List ℕ) (k : ℕ) → Tabled cover (table_count cover) k tabled → t ≡ table_at cover k → RightTable cells cover k → ⊥)
    → TableJudged cells tabled base t marks' false
judged_no f =
    record {
      right = λ cover k l e. record { holds = λ q. absurd (false≢true q); fails = λ q. f cover k l e };
      is = λ q. absurd (false≢true q);
      next = λ q. absurd (false≢true q);
    }

module _ {cells : List Cell} {tabled : List ℕ} (t : Table) where
  pub no_gate : is_gate (cell_at cells t.cell) ≡ false → (cover : List ℕ) (k : ℕ) → Tabled cover (table_count cover) k tabled
      → t ≡ table_at cover k
      → RightTable cells cover k → ⊥
  no_gate other cover k l e right = false≢true (sym other ∙ ap (λ (t : Table). is_gate (cell_at cells t.cell)) e ∙ right.gate)

  pub second : 1 < mark tabled t.cell → (cover : List ℕ) (k : ℕ) → Tabled cover (table_count cover) k tabled → t ≡ table_at cover k
      → RightTable cells cover k → ⊥
  second twice cover k l e right =
      let w = l.earlier t.cell twice in
      right.single w.0 w.1 (w.2 ∙ ap (λ (t : Table). t.cell) e)

  pub no_pins : Says tabled (PinsCarried cells t.pins) false → (cover : List ℕ) (k : ℕ) → Tabled cover (table_count cover) k tabled
      → t ≡ table_at cover k
      → RightTable cells cover k → ⊥
  no_pins says cover k l e right =
      (says cover k l).fails refl (λ p h. subst (λ (t : Table). Carried cells cover (pin_at t.pins p)) (sym e) (right.pins_carried p h))

  -- The rest of it is what it cuts out.
  pub judged_cut : {base : ℕ} {marks' : List ℕ} {r : Bool} → length cells ≤ length tabled → is_gate (cell_at cells t.cell) ≡ true
      → mark tabled t.cell ≤ 1 → Says tabled (PinsCarried cells t.pins) true → Decides (RightCut cells t) r
      → (r ≡ true → AllNew (base + 2) marks')
      → TableJudged cells tabled base t marks' r
  judged_cut {base} {marks'} {r} long gate once says d next =
      record { right = right; is = λ q. gate_cell cells t.cell gate; next = next }
    where
      right : (cover : List ℕ) (k : ℕ) → Tabled cover (table_count cover) k tabled → t ≡ table_at cover k
          → Decides (RightTable cells cover k) r
      right cover k l e = record { holds = λ q. whole (d.holds q); fails = λ q h. d.fails q (subst (RightCut cells) (sym e) h.cut) }
        where
          single : (j : ℕ) → j < k → (table_at cover j).cell ≡ (table_at cover k).cell → ⊥
          single j h f =
              let is : (table_at cover j).cell ≡ t.cell = f ∙ ap (λ (t : Table). t.cell) (sym e) in
              let low : of_cell (table_at cover j).cell < length tabled = omega (arith, ap of_cell is, gate_cell cells t.cell gate) in
              omega (arith, l.passed j h low, ap (mark tabled) is)

          whole : RightCut cells t → RightTable cells cover k
          whole cut =
              record {
                gate = subst (λ (t : Table). is_gate (cell_at cells t.cell) ≡ true) e gate;
                pins_carried = λ p h. subst (λ (t : Table). Carried cells cover (pin_at t.pins p)) e ((says cover k l).holds refl p h);
                single = single;
                cut = subst (RightCut cells) e cut;
              }
