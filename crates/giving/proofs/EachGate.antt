-- One table for every gate is a right cover: both operands are pins, so the way down ends at them, and the table is the gate's.
use Prim.Native.Nat.{ℕ, zero, suc, ◌+◌, ◌<◌, ◌≤◌}
use mathlib.Core.Path.{◌≡◌, refl, sym, ap, ◌∙◌, subst}
use mathlib.Core.Bool.{Bool, true, false, true≢false}
use mathlib.Core.List.{List, [], ◌∷◌}
use mathlib.Core.Logic.{◌⊎◌, inl, inr, ⊎_elim}
use native.Mathlib.Omega.{arith}
use lib.ListN.{length}
use Rattle.number.specs.declared.CellNo.{CellNo}
use Rattle.number.specs.declared.SignalNo.{SignalNo}
use Rattle.number.specs.Number.{pick}
use Rattle.tables.specs.declared.Table.{Table}
use Rattle.tables.specs.Answering.{pins, settings, bit, setting, answers}
use Rattle.tables.proofs.Settings.{setting_small, setting_bit}
use Rattle.cells.specs.declared.Cell.{Cell}
use Rattle.cells.specs.declared.Cell.TheVariants.{Gate}
use Rattle.cells.specs.Cells.{truth, cell_at}
use Rattle.cells.specs.Needs.{IsCell, pins_of, Among, Needs, Closed}
use Rattle.cells.specs.Netlist.{Netlist}
use Rattle.order.specs.Paths.{one, Ordered}
use Rattle.run.specs.Held.{SolvesHeld}
use Rattle.cuts.specs.Cut.{pin_at, is_gate, is_constant, is_pin, Met, operand, onward}
use Rattle.covers.specs.Covers.{table_count, table_at, Carried}
use Rattle.cuts.specs.Cut.{RightCut}
use Rattle.covers.specs.Covers.{RightCover}
use Rattle.cuts.proofs.Depth.{no_cycle}
use Rattle.cuts.proofs.Pins.{pin_found, found_pin}
use Rattle.covers.proofs.Carrying.{output_last}
use Rattle.covers.proofs.Tables.{gate_cell}
use Rattle.giving.specs.EachGate.{Filler, first, second, constant, OneGate, EachGate}

module _ {cells : List Cell} {order : List ℕ} (o : Ordered cells order) {t : Table} (g : OneGate cells t)
    (own : IsCell cells t.cell) where
  needs_x : Needs cells t.cell g.x
  needs_x = record { among = subst (λ (c : Cell). Among (pins_of c) g.x) (sym g.is) (inl refl) }

  needs_y : Needs cells t.cell g.y
  needs_y = record { among = subst (λ (c : Cell). Among (pins_of c) g.y) (sym g.is) (inr refl) }

  -- it has no other operand
  operand_is : (z : CellNo) → Needs cells t.cell z → (g.x ≡ z) ⊎ (g.y ≡ z)
  operand_is z n = subst (λ (c : Cell). Among (pins_of c) z) g.is n.among

  four : length t.pins ≡ pins
  four = ap length g.pinned

  at : (p : ℕ) → pin_at t.pins p ≡ pin_at (g.x ∷ g.y ∷ g.third ∷ g.fourth ∷ []) p
  at p = ap (λ (l : List CellNo). pin_at l p) g.pinned

  pin_x : is_pin t.pins g.x ≡ true
  pin_x = ap (is_pin t.pins) (sym (at 0)) ∙ found_pin t.pins 0 (rw four (omega arith))

  pin_y : is_pin t.pins g.y ≡ true
  pin_y = ap (is_pin t.pins) (sym (at 1)) ∙ found_pin t.pins 1 (rw four (omega arith))

  operand_pin : (z : CellNo) → Needs cells t.cell z → is_pin t.pins z ≡ true
  operand_pin z n = ⊎_elim (λ e. ap (is_pin t.pins) (sym e) ∙ pin_x) (λ e. ap (is_pin t.pins) (sym e) ∙ pin_y) (operand_is z n)

  -- so the way down ends at once
  met_operand : (z : CellNo) → Met cells t.pins t.cell z → Needs cells t.cell z
  met_operand z (operand n) = n
  met_operand z (onward {x = x} m free n) = absurd (true≢false (sym (operand_pin x (met_operand x m)) ∙ free))

  filled : (z : CellNo) → Filler cells g.x g.y z → is_constant (cell_at cells z) ≡ false → Met cells t.pins t.cell z
  filled z first free = operand needs_x
  filled z second free = operand needs_y
  filled z (constant is e) free = absurd (true≢false (sym e ∙ free))

  met : (p : ℕ) → p < pins → is_constant (cell_at cells (pin_at t.pins p)) ≡ false → Met cells t.pins t.cell (pin_at t.pins p)
  met p h free = rw (at p) (go p h (rw (at p) at free))
    where
      go : (p : ℕ) → p < pins → is_constant (cell_at cells (pin_at (g.x ∷ g.y ∷ g.third ∷ g.fourth ∷ []) p)) ≡ false
          → Met cells t.pins t.cell (pin_at (g.x ∷ g.y ∷ g.third ∷ g.fourth ∷ []) p)
      go zero h free = operand needs_x
      go (suc zero) h free = operand needs_y
      go (suc (suc zero)) h free = filled g.third g.fill_third free
      go (suc (suc (suc zero))) h free = filled g.fourth g.fill_fourth free
      go (suc (suc (suc (suc p)))) h free = absurd (omega arith)

  -- the gate is no pin of its own: it would need itself, or be a constant
  not_own : (z : CellNo) → Filler cells g.x g.y z → z ≡ t.cell → ⊥
  not_own z first e = no_cycle o own (one (subst (Needs cells t.cell) e needs_x))
  not_own z second e = no_cycle o own (one (subst (Needs cells t.cell) e needs_y))
  not_own z (constant is c) e =
      let low : is_constant (Gate g.kind g.x g.y) ≡ true =
      ap is_constant (sym g.is) ∙ ap (λ (n : CellNo). is_constant (cell_at cells n)) (sym e) ∙ c in
      true≢false (sym low)

  no_own : is_pin t.pins t.cell ≡ false
  no_own = go (is_pin t.pins t.cell) refl
    where
      which : (p : ℕ) → p < pins → pin_at (g.x ∷ g.y ∷ g.third ∷ g.fourth ∷ []) p ≡ t.cell → ⊥
      which zero h e = not_own g.x first e
      which (suc zero) h e = not_own g.y second e
      which (suc (suc zero)) h e = not_own g.third g.fill_third e
      which (suc (suc (suc zero))) h e = not_own g.fourth g.fill_fourth e
      which (suc (suc (suc (suc p)))) h e = absurd (omega arith)

      go : (b : Bool) → is_pin t.pins t.cell ≡ b → is_pin t.pins t.cell ≡ false
      go false e = e
      go true e = let f = pin_found t.pins t.cell e in absurd (which f.0 (rw four at f.1) (sym (at f.0) ∙ f.2))

  -- the table is the gate's
  equal : (h v : CellNo → Bool) (J : SignalNo → Bool) (S : ℕ → Bool) → SolvesHeld (is_pin t.pins) h J S cells v
      → answers t v ≡ v t.cell
  unfolding answers pick
  equal h v J S s =
      let b : ℕ = setting v t.pins in
      let small : b < settings = rw four at (setting_small v t.pins) in
      let bit_x : bit b 0 ≡ v g.x = setting_bit v t.pins 0 (rw four (omega arith)) ∙ ap v (at 0) in
      let bit_y : bit b 1 ≡ v g.y = setting_bit v t.pins 1 (rw four (omega arith)) ∙ ap v (at 1) in
      let table : bit t.truth b ≡ truth g.kind (v g.x) (v g.y) = g.repeated b small ∙ rw (bit_x, bit_y) refl in
      let cell : v t.cell ≡ truth g.kind (v g.x) (v g.y) = s t.cell ∙ rw (no_own, g.is) refl in
      table ∙ sym cell

  pub gate_cut : RightCut cells t
  gate_cut = record { met = met; ends = λ y m source. operand_pin y (met_operand y m); equal = equal }

-- The cover.
module _ (w : Netlist) {order : List ℕ} (o : Ordered w.cells order) (closed : Closed w.cells)
    (enough : 2 + w.inputs + w.outputs ≤ length w.cells) {cover : List ℕ} (each : EachGate w.cells cover) where
  is_gate_lem : (k : ℕ) → k < table_count cover → is_gate (cell_at w.cells (table_at cover k).cell) ≡ true
  is_gate_lem k h = ap is_gate (each.tables k h).is

  -- a cell that is a gate has a table
  carried : {x : CellNo} → IsCell w.cells x → Carried w.cells cover x
  carried {x} is = record { cell = is; tabled = λ g. each.all x g }

  fill_cell : {x y z : CellNo} → IsCell w.cells x → IsCell w.cells y → Filler w.cells x y z → IsCell w.cells z
  fill_cell a b first = a
  fill_cell a b second = b
  fill_cell a b (constant is e) = is

  pin_cell : {t : Table} (g : OneGate w.cells t) → IsCell w.cells g.x → IsCell w.cells g.y → (p : ℕ) → p < pins
      → IsCell w.cells (pin_at t.pins p)
  pin_cell g a b p h = subst (λ (l : List CellNo). IsCell w.cells (pin_at l p)) (sym g.pinned) (go p h)
    where
      go : (p : ℕ) → p < pins → IsCell w.cells (pin_at (g.x ∷ g.y ∷ g.third ∷ g.fourth ∷ []) p)
      go zero h = a
      go (suc zero) h = b
      go (suc (suc zero)) h = fill_cell a b g.fill_third
      go (suc (suc (suc zero))) h = fill_cell a b g.fill_fourth
      go (suc (suc (suc (suc p)))) h = absurd (omega arith)

  pub each_gate : RightCover w cover
  each_gate =
      record {
        tables = λ k h.
            let g = each.tables k h in
            let own = gate_cell w.cells (table_at cover k).cell (is_gate_lem k h) in
            let a = closed.gates _ _ (needs_x o g own) in
            let b = closed.gates _ _ (needs_y o g own) in
            record {
              gate = is_gate_lem k h;
              pins_carried = λ p q. carried (pin_cell g a b p q);
              single = λ j l. each.once j k l h;
              cut = gate_cut o g own;
            };
        complete =
            record {
              whole = each.whole;
              outputs = λ s h. carried (omega (arith, output_last w.inputs w.outputs s h));
              operands = λ x y e. carried (closed.registers x y e);
            };
      }
