-- The pass over the cells, in the order found once.
use Prim.Native.Nat.{ℕ, ◌+◌, ◌<◌, ◌≤◌}
use mathlib.Core.Path.{◌≡◌, sym, ap, ◌∙◌, subst}
use mathlib.Core.Bool.{Bool, false}
use mathlib.Core.List.{List}
use native.Mathlib.Omega.{arith}
use native.Mathlib.Decide.{dec_lt, ℕ_discrete}
use lib.ListN.{length, get_or, set, length-set, get_or-eq_default}
use lib.Seq.{get_or-set_same, get_or-set_other}
use Rattle.number.specs.Counts.{cell_no, of_cell}
use Rattle.number.specs.declared.CellNo.{CellNo}
use Rattle.number.specs.declared.SignalNo.{SignalNo}
use Rattle.cells.specs.declared.Cell.{Cell}
use Rattle.cells.specs.Cells.{cell_at}
use Rattle.cells.specs.Values.{before, value, Solves}
use Rattle.cells.specs.Needs.{IsCell}
use Rattle.order.specs.Paths.{placed, Ordered}
use Rattle.run.specs.React.{nets_in}
use Rattle.run.proofs.Rank.{past_end}
use Rattle.cells.proofs.Needing.{value_same}

-- a store changes one net
net_other : (values : List Bool) (i : ℕ) (b : Bool) (x : CellNo) → (of_cell x ≡ i → ⊥) → nets_in (set values i b) x ≡ nets_in values x
net_other values i b x h = get_or-set_other values i (of_cell x) b false h

module _ (J : SignalNo → Bool) (S : ℕ → Bool) (cells : List Cell) where
  -- what the cell x asks for, where the nets have the values v
  abbrev asks : (CellNo → Bool) → CellNo → Bool
  asks v x = value J (S (before cells x)) v (cell_at cells x)

  -- past the last cell all is low
  past_low : (values : List Bool) (v : CellNo → Bool) → length values ≡ length cells → (x : CellNo) → (IsCell cells x → ⊥)
      → nets_in values x ≡ asks v x
  past_low values v long x h =
      get_or-eq_default values false {n = of_cell x} (omega arith) ∙ sym (ap (value J (S (before cells x)) v) (past_end cells x h))

  module _ (order : List ℕ) where
    -- the cell at place j
    abbrev at : ℕ → CellNo
    at j = placed order j

    -- the column once that cell has the value b
    abbrev stored : List Bool → ℕ → Bool → List Bool
    stored values j b = set values (get_or order j 0) b

    -- the pass has come to place j: the cells before it have their values
    pub record Settling (values : List Bool) (j : ℕ) : Type 0 where
      pub upto : j ≤ length cells
      pub long : length values ≡ length cells
      pub done : (i : ℕ) → i < j → nets_in values (at i) ≡ asks (nets_in values) (at i)

    pub settling_none : (values : List Bool) → length values ≡ length cells → Settling values 0
    settling_none values long = record { upto = omega arith; long = long; done = λ i h. absurd (omega arith) }

    module _ (o : Ordered cells order) where
      -- the cell at place j gets b, what it asks for
      pub settling_next : (values : List Bool) (j : ℕ) (b : Bool) → Settling values j → j < length cells → b ≡ asks (nets_in values) (at j)
          → Settling (stored values j b) (j + 1)
      settling_next values j b s h here =
          record { upto = omega arith; long = length-set values (get_or order j 0) b ∙ s.long; done = λ i l. done i l (ℕ_discrete i j) }
        where
          apart : (i : ℕ) → i < length cells → Dec (i < j) → (i ≡ j → ⊥) → at i ≡ at j → ⊥
          apart i l (yes g) n y = o.once i j g h y
          apart i l (no g) n y = o.once j i (omega arith) l (sym y)

          -- only the net at place j changes
          other : (i : ℕ) → i < length cells → (i ≡ j → ⊥) → nets_in (stored values j b) (at i) ≡ nets_in values (at i)
          other i l n = net_other values (get_or order j 0) b (at i) (λ y. apart i l (dec_lt i j) n (ap cell_no y))

          needed : (i : ℕ) → i < j + 1 → (y : CellNo) → (k : ℕ) × (k < i) × (at k ≡ y) → nets_in values y ≡ nets_in (stored values j b) y
          needed i l y w =
              let same = sym (other w.0 (omega (arith, w.1)) (λ g. omega (arith, w.1))) in
              subst (λ (z : CellNo). nets_in values z ≡ nets_in (stored values j b) z) w.2 same

          -- what a cell up to place j needs stands before it, and so keeps its value
          kept : (i : ℕ) → i < j + 1 → asks (nets_in values) (at i) ≡ asks (nets_in (stored values j b)) (at i)
          kept i l =
              value_same J (S (before cells (at i))) (nets_in values) (nets_in (stored values j b)) (cell_at cells (at i))
              (λ y n. needed i l y (o.after i y (omega arith) (record { among = n })))

          done : (i : ℕ) → i < j + 1 → Dec (i ≡ j) → nets_in (stored values j b) (at i) ≡ asks (nets_in (stored values j b)) (at i)
          done i l (no n) = other i (omega arith) n ∙ s.done i (omega arith) ∙ kept i l
          done i l (yes y) =
              subst (λ (k : ℕ). nets_in (stored values j b) (at k) ≡ asks (nets_in (stored values j b)) (at k)) (sym y)
              (get_or-set_same values (get_or order j 0) b false (omega (arith, o.cell j h, s.long)) ∙ here ∙ kept j (omega arith))

      pub settling_all : (values : List Bool) (j : ℕ) → Settling values j → length cells ≤ j → Solves J S cells (nets_in values)
      settling_all values j s h x = go (dec_lt (of_cell x) (length cells))
        where
          go : Dec (IsCell cells x) → nets_in values x ≡ asks (nets_in values) x
          go (yes l) =
              let w = o.each x l in
              subst (λ (z : CellNo). nets_in values z ≡ asks (nets_in values) z) w.2 (s.done w.0 (omega (arith, w.1)))
          go (no l) = past_low values (nets_in values) s.long x l
