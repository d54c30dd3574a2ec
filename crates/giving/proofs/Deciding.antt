-- Every cover of cells in an order is right, or has a first fault: each rule asks about finitely many numbers, so that it can be told
-- whether it holds. A fact about the definitions.
use Prim.Native.Nat.{ℕ, zero, suc, ◌+◌, ◌*◌, ◌%◌, ◌<◌}
use mathlib.Core.Path.{◌≡◌, refl, sym, ap, ◌∙◌, subst}
use mathlib.Core.Bool.{Bool, true, false, true≢false, false≢true, Bool-discrete}
use mathlib.Core.List.{List}
use mathlib.Core.Logic.Dec
use mathlib.Core.Logic.{◌⊎◌, inl, inr, ⊎_elim}
use native.Mathlib.Omega.{arith}
use native.Mathlib.Nat.{not-suc-le-zero}
use native.Mathlib.Decide.{ℕ_discrete, dec_lt, map_dec}
use lib.ListN.{length}
use borrow.Author.Count.{below_more}
use Rattle.number.specs.Counts.{cell_no, of_cell, signal_no, of_signal}
use Rattle.number.specs.Number.{pick}
use Rattle.number.specs.declared.CellNo.{CellNo}
use Rattle.number.specs.declared.SignalNo.{SignalNo}
use Rattle.number.proofs.Bools.{off}
use Rattle.tables.specs.declared.Table.{Table}
use Rattle.tables.specs.Answering.{pins, settings, bit, setting, answers}
use Rattle.tables.proofs.Settings.{setting_small, setting_bit, value_in, reached}
use Rattle.cells.specs.declared.Cell.{Cell}
use Rattle.cells.specs.declared.Cell.TheVariants.{Low, High, Input, Gate, Register}
use Rattle.cells.specs.Cells.{cell_at, signal_cell}
use Rattle.cells.specs.Values.{before, value}
use Rattle.cells.specs.Needs.{IsCell, pins_of, Among, Needs}
use Rattle.cells.specs.Netlist.{Netlist}
use Rattle.cells.proofs.Needing.{needs_first, needs_second, needs_only, needs_none, value_same}
use Rattle.order.specs.Paths.{Ordered}
use Rattle.order.proofs.Columns.{same}
use Rattle.run.specs.Words.{is_output}
use Rattle.run.specs.Held.{SolvesHeld, OneSolution}
use Rattle.run.proofs.One.{held}
use Rattle.run.proofs.Rank.{rank, ranked, past_end}
use Rattle.cuts.specs.Cut.{pin_at, is_gate, is_source, is_pin, Met, operand, onward, RightCut}
use Rattle.cuts.proofs.Pins.{pin_found}
use Rattle.covers.specs.Covers.{size, table_count, table_at, Carried, RightTable, Complete, RightCover, FirstWrong}
use Rattle.covers.specs.Checking.{OperandCarried, OutputsCarried}
use Rattle.covers.proofs.Carrying.{operands_all, output_last}
use Rattle.covers.proofs.Reading.{pins_long}
use Rattle.covers.proofs.Cuts.{at_pin}
use Rattle.covers.proofs.Tables.{no_source}
use Rattle.giving.proofs.Giving.{same_answers}
use Rattle.std.specs.Prelude.{Option, Some, None}

-- no input and no state: a table whose way ends at pins hears neither
abbrev silent : SignalNo → Bool
silent s = false

abbrev blank : ℕ → Bool
blank b = false

-- Of n numbers each has the property, or there is a first that has not.
data Sought (P : ℕ → Type 0) (n : ℕ) : Type 0 where
  none : ((k : ℕ) → k < n → P k) → Sought P n
  at : (k : ℕ) → k < n → ((j : ℕ) → j < k → P j) → (P k → ⊥) → Sought P n

module _ (P : ℕ → Type 0) (d : (k : ℕ) → Dec (P k)) where
  sought : (n : ℕ) → Sought P n
  sought zero = none (λ k h. absurd (not-suc-le-zero h))
  sought (suc n) = go (sought n) (d n)
    where
      go : Sought P n → Dec (P n) → Sought P (suc n)
      go (none all) (yes p) = none (λ k h. below_more P n all p k (omega (arith, h)))
      go (none all) (no f) = at n (omega arith) all f
      go (at k h ok f) last = at k (omega arith) ok f

  all_of : (n : ℕ) → Dec ((k : ℕ) → k < n → P k)
  all_of n = go (sought n)
    where
      go : Sought P n → Dec ((k : ℕ) → k < n → P k)
      go (none all) = yes all
      go (at k h ok f) = no (λ all. f (all k h))

  some_of : (n : ℕ) → Dec ((k : ℕ) × (k < n) × P k)
  some_of zero = no (λ w. not-suc-le-zero w.1)
  some_of (suc n) = go (some_of n) (d n)
    where
      go : Dec ((k : ℕ) × (k < n) × P k) → Dec (P n) → Dec ((k : ℕ) × (k < suc n) × P k)
      go (yes w) last = yes (w.0, omega (arith, w.1), w.2)
      go (no f) (yes p) = yes (n, omega arith, p)
      go (no f) (no g) = no (λ w. below w.0 w.1 w.2)
        where
          below : (k : ℕ) → k < suc n → P k → ⊥
          below k h = below_more (λ (i : ℕ). P i → ⊥) n (λ i l p. f (i, l, p)) g k (omega (arith, h))

if_so : {A B : Type 0} → Dec A → Dec B → Dec (A → B)
if_so a (yes y) = yes (λ x. y)
if_so (yes x) (no n) = no (λ f. n (f x))
if_so (no m) (no n) = yes (λ x. absurd (m x))

either : {A B : Type 0} → Dec A → Dec B → Dec (A ⊎ B)
either (yes x) b = yes (inl x)
either (no m) (yes y) = yes (inr y)
either (no m) (no n) = no (λ w. ⊎_elim m n w)

all_three : {A B C : Type 0} → Dec A → Dec B → Dec C → Dec (A × B × C)
all_three (yes a) (yes b) (yes c) = yes (a, b, c)
all_three (yes a) (yes b) (no n) = no (λ w. n w.2)
all_three (yes a) (no n) c = no (λ w. n w.1)
all_three (no n) b c = no (λ w. n w.0)

module _ {cells : List Cell} {order : List ℕ} (o : Ordered cells order) where
  -- The way down, from its upper end.
  module _ (cut : List CellNo) where
    abbrev ByWay : CellNo → CellNo → Type 0
    ByWay x y = (x ≡ y) ⊎ ((is_pin cut x ≡ false) × Met cells cut x y)

    under : {c x y : CellNo} → Needs cells c x → ByWay x y → Met cells cut c y
    under {c} n (inl e) = operand (subst (Needs cells c) e n)
    under {c} {x} n (inr w) = go w.1
      where
        go : {y : CellNo} → Met cells cut x y → Met cells cut c y
        go (operand k) = onward (operand n) w.0 k
        go (onward m free k) = onward (go m) free k

    top : {c y : CellNo} → Met cells cut c y → (x : CellNo) × Needs cells c x × ByWay x y
    top (operand {y = y} n) = (y, n, inl refl)
    top {c} (onward {x = x} {y = y} m free n) = let w = top m in (w.0, w.1, inr (further w.0 w.2))
      where
        further : (z : CellNo) → ByWay z x → (is_pin cut z ≡ false) × Met cells cut z y
        further z (inl e) = (ap (is_pin cut) e ∙ free, operand (subst (λ (a : CellNo). Needs cells a y) (sym e) n))
        further z (inr v) = (v.0, onward v.1 free n)

    -- it goes by way of an operand
    met_by : (c y : CellNo) → ((x : CellNo) → Needs cells c x → Dec (Met cells cut x y)) → Dec (Met cells cut c y)
    met_by c y below = go (pins_of (cell_at cells c)) refl
      where
        by : (x : CellNo) → Needs cells c x → Dec (ByWay x y)
        by x n = either (same x y) (Dec.and (Bool-discrete (is_pin cut x) false) (below x n))

        go : (p : Option (CellNo × CellNo)) → pins_of (cell_at cells c) ≡ p → Dec (Met cells cut c y)
        go None e = no (λ met. needs_none e (top met).1)
        go (Some (a, b)) e =
            map_dec (λ w. ⊎_elim (under (needs_first e)) (under (needs_second e)) w)
            (λ met. let w = top met in needs_only e (λ x. ByWay x y → ByWay a y ⊎ ByWay b y) inl inr w.0 w.1 w.2)
            (either (by a (needs_first e)) (by b (needs_second e)))

    -- whose rank is lower
    met_below : (m : ℕ) (c y : CellNo) → rank cells order o c < m → Dec (Met cells cut c y)
    met_below zero c y l = absurd (not-suc-le-zero l)
    met_below (suc m) c y l = met_by c y (λ x n. met_below m x y (omega (arith, ranked cells order o c x n)))

    is_met : (c y : CellNo) → Dec (Met cells cut c y)
    is_met c y = met_below (suc (rank cells order o c)) c y (omega arith)

  -- What a table cuts out: two solutions that agree on its pins agree on its cell, if the way ends at pins.
  module _ (t : Table) (long : length t.pins ≡ pins) (gate : is_gate (cell_at cells t.cell) ≡ true) where
    abbrev cut : List CellNo
    cut = t.pins

    abbrev c : CellNo
    c = t.cell

    abbrev Ends : Type 0
    Ends = (y : CellNo) → Met cells cut c y → is_source (cell_at cells y) ≡ true → is_pin cut y ≡ true

    -- a cell that is no source hears the nets that it needs alone
    unheard : (J J' : SignalNo → Bool) (q q' : Bool) (v : CellNo → Bool) (x : Cell) → is_source x ≡ false → value J q v x ≡ value J' q' v x
    unheard J J' q q' v Low e = refl
    unheard J J' q q' v High e = refl
    unheard J J' q q' v (Input s) e = absurd (true≢false e)
    unheard J J' q q' v (Gate g x y) e = refl
    unheard J J' q q' v (Register x) e = absurd (true≢false e)

    module _ (ends : Ends) (h h' u v : CellNo → Bool) (J J' : SignalNo → Bool) (S S' : ℕ → Bool) (su : SolvesHeld (is_pin cut) h J S cells u)
        (sv : SolvesHeld (is_pin cut) h' J' S' cells v) (alike : (p : ℕ) → p < pins → u (pin_at cut p) ≡ v (pin_at cut p)) where
      agree_at : (x : CellNo) → (x ≡ c) ⊎ Met cells cut c x → ((y : CellNo) → Needs cells x y → Met cells cut c y → u y ≡ v y) → u x ≡ v x
      unfolding pick
      agree_at x w below = go (is_pin cut x) refl
        where
          way : is_pin t.pins x ≡ false → (y : CellNo) → Needs cells x y → Met cells t.pins t.cell y
          way free y n = ⊎_elim (λ e. operand (subst (λ (z : CellNo). Needs cells z y) e n)) (λ met. onward met free n) w

          inner : is_pin t.pins x ≡ false → is_source (cell_at cells x) ≡ false
          inner free =
              ⊎_elim (λ e. subst (λ (z : CellNo). is_source (cell_at cells z) ≡ false) (sym e) (no_source cells t.cell gate))
              (λ met. off (is_source (cell_at cells x)) (λ on. true≢false (sym (ends x met on) ∙ free))) w

          go : (b : Bool) → is_pin t.pins x ≡ b → u x ≡ v x
          go true pin = let f = pin_found t.pins x pin in subst (λ (z : CellNo). u z ≡ v z) f.2 (alike f.0 (rw long at f.1))
          go false free =
              let needed : (y : CellNo) → Among (pins_of (cell_at cells x)) y → u y ≡ v y =
              λ y n. let need : Needs cells x y = record { among = n } in below y need (way free y need) in
              let u_is : u x ≡ value J (S (before cells x)) u (cell_at cells x) = su x ∙ rw free in
              let v_is : v x ≡ value J' (S' (before cells x)) v (cell_at cells x) = sv x ∙ rw free in
              u_is
              ∙ value_same J (S (before cells x)) u v (cell_at cells x) needed
              ∙ unheard J J' (S (before cells x)) (S' (before cells x)) v (cell_at cells x) (inner free)
              ∙ sym v_is

      agree : (m : ℕ) (x : CellNo) → rank cells order o x < m → (x ≡ c) ⊎ Met cells cut c x → u x ≡ v x
      agree zero x l w = absurd (not-suc-le-zero l)
      agree (suc m) x l w = agree_at x w (λ y n met. agree m y (omega (arith, ranked cells order o x y n)) (inr met))

    -- so it is enough to ask at each setting
    at_setting : (b : ℕ) → OneSolution (is_pin cut) (value_in cut b) silent blank cells
    at_setting b = held cells order o (is_pin cut) (value_in cut b) silent blank

    abbrev EqualAt : ℕ → Type 0
    EqualAt b = answers t (at_setting b).values ≡ (at_setting b).values c

    module _ (v : CellNo → Bool) where
      abbrev b : ℕ
      b = setting v cut

      own_setting : setting (value_in cut b) cut ≡ b
      own_setting =
          reached cut b (setting_small v cut) (λ p q hp hq e. setting_bit v cut p hp ∙ ap v e ∙ sym (setting_bit v cut q hq))

      same_pins : (p : ℕ) → p < pins → (at_setting b).values (pin_at cut p) ≡ v (pin_at cut p)
      same_pins p l =
          let inside : p < length cut = rw long l in
          let one = at_setting b in
          at_pin cells cut long (value_in cut b) one.values silent blank one.solves p l
          ∙ sym (setting_bit (value_in cut b) cut p inside)
          ∙ ap (λ (n : ℕ). bit n p) own_setting
          ∙ setting_bit v cut p inside

    equal : Ends → ((b : ℕ) → b < settings → EqualAt b) → (h v : CellNo → Bool) (J : SignalNo → Bool) (S : ℕ → Bool)
        → SolvesHeld (is_pin cut) h J S cells v → answers t v ≡ v c
    equal ends all h v J S s =
        let one = at_setting (b v) in
        same_answers t v one.values long (λ p l. sym (same_pins v p l))
        ∙ all (b v) (rw long at (setting_small v cut))
        ∙ agree ends (value_in cut (b v)) h one.values v silent J blank S one.solves s (same_pins v) (suc (rank cells order o c)) c
        (omega arith) (inl refl)

    -- sources are cells, so that it is enough to ask about these
    abbrev EndsAt : ℕ → Type 0
    EndsAt k = Met cells cut c (cell_no k) → is_source (cell_at cells (cell_no k)) ≡ true → is_pin cut (cell_no k) ≡ true

    ends_asked : ((k : ℕ) → k < length cells → EndsAt k) → Ends
    ends_asked all y met source = go (dec_lt (of_cell y) (length cells))
      where
        go : Dec (IsCell cells y) → is_pin t.pins y ≡ true
        go (yes is) = all (of_cell y) is met source
        go (no n) = absurd (false≢true (sym (ap is_source (past_end cells y n)) ∙ source))

    cut_right : Dec (RightCut cells t)
    cut_right =
        map_dec (λ w. record { met = w.0; ends = ends_asked w.1; equal = equal (ends_asked w.1) w.2 })
        (λ r. (r.met, λ k h. r.ends (cell_no k), λ b h. r.equal (value_in cut b) _ silent blank (at_setting b).solves))
        (all_three
        (all_of _ (λ p. if_so (Bool-discrete _ false) (is_met cut c (pin_at cut p))) pins)
        (all_of _ (λ k. if_so (is_met cut c (cell_no k)) (if_so (Bool-discrete _ true) (Bool-discrete _ true))) (length cells))
        (all_of EqualAt (λ b. Bool-discrete _ _) settings))

  -- A table, and the rest.
  module _ (cover : List ℕ) where
    carried : (x : CellNo) → Dec (Carried cells cover x)
    carried x =
        map_dec (λ w. record { cell = w.0; tabled = w.1 }) (λ r. (r.cell, r.tabled))
        (Dec.and (dec_lt (of_cell x) (length cells))
        (if_so (Bool-discrete (is_gate (cell_at cells x)) true) (some_of _ (λ k. same (table_at cover k).cell x) (table_count cover))))

    pub table_right : (k : ℕ) → Dec (RightTable cells cover k)
    table_right k = go (Bool-discrete (is_gate (cell_at cells (table_at cover k).cell)) true)
      where
        pins_too : Dec ((p : ℕ) → p < pins → Carried cells cover (pin_at (table_at cover k).pins p))
        pins_too = all_of _ (λ p. carried (pin_at (table_at cover k).pins p)) pins

        alone : Dec ((j : ℕ) → j < k → (table_at cover j).cell ≡ (table_at cover k).cell → ⊥)
        alone = all_of _ (λ j. Dec.not (same (table_at cover j).cell (table_at cover k).cell)) k

        go : Dec (is_gate (cell_at cells (table_at cover k).cell) ≡ true) → Dec (RightTable cells cover k)
        go (no n) = no (λ r. n r.gate)
        go (yes gate) =
            map_dec (λ w. record { gate = gate; pins_carried = w.0; single = w.1.0; cut = w.1.1 })
            (λ r. (r.pins_carried, (r.single, r.cut)))
            (Dec.and pins_too (Dec.and alone (cut_right (table_at cover k) (pins_long cover (k * size)) gate)))

    operand_carried : (x : Cell) → Dec (OperandCarried cells x cover)
    operand_carried Low = yes (λ y e. absurd (let z : ◌≡◌ {A = ℕ} 0 1 = cc in omega arith))
    operand_carried High = yes (λ y e. absurd (let z : ◌≡◌ {A = ℕ} 0 1 = cc in omega arith))
    operand_carried (Input s) = yes (λ y e. absurd (let z : ◌≡◌ {A = ℕ} 0 1 = cc in omega arith))
    operand_carried (Gate g a b) = yes (λ y e. absurd (let z : ◌≡◌ {A = ℕ} 0 1 = cc in omega arith))
    operand_carried (Register x) = map_dec (λ h y e. subst (Carried cells cover) (cc) h) (λ all. all x refl) (carried x)

-- the whole cover
pub data Decided (w : Netlist) (cover : List ℕ) : Type 0 where
  right : RightCover w cover → Decided w cover
  wrong : (place : ℕ) → FirstWrong w cover place → Decided w cover

module _ (w : Netlist) {order : List ℕ} (o : Ordered w.cells order) (cover : List ℕ) where
  abbrev OutputAt : ℕ → Type 0
  OutputAt s = is_output w.inputs w.outputs (signal_no s) ≡ true → Carried w.cells cover (signal_cell (signal_no s))

  abbrev OperandAt : ℕ → Type 0
  OperandAt i = OperandCarried w.cells (cell_at w.cells (cell_no i)) cover

  -- no output comes after the signal I + O
  outputs_asked : ((s : ℕ) → s < w.inputs + w.outputs + 1 → OutputAt s) → OutputsCarried w.cells w.inputs w.outputs cover
  outputs_asked all s out = all (of_signal s) (omega (arith, output_last w.inputs w.outputs s out)) out

  complete : Dec (Complete w cover)
  complete =
      map_dec (λ d. record { whole = d.0; outputs = outputs_asked d.1; operands = operands_all w.cells cover d.2 })
      (λ r. (r.whole, λ s h. r.outputs (signal_no s), λ i h. r.operands (cell_no i)))
      (all_three
      (ℕ_discrete (length cover % size) 0)
      (all_of OutputAt (λ s. if_so (Bool-discrete _ true) (carried o cover (signal_cell (signal_no s)))) (w.inputs + w.outputs + 1))
      (all_of OperandAt (λ i. operand_carried o cover (cell_at w.cells (cell_no i))) (length w.cells)))

  pub decided : Decided w cover
  decided = go (sought (RightTable w.cells cover) (table_right o cover) (table_count cover)) complete
    where
      go : Sought (RightTable w.cells cover) (table_count cover) → Dec (Complete w cover) → Decided w cover
      go (at k h before_it f) d = wrong k (record { before = before_it; here = inl (h, f) })
      go (none all) (no n) = wrong (table_count cover) (record { before = all; here = inr (refl, n) })
      go (none all) (yes c) = right (record { tables = all; complete = c })
