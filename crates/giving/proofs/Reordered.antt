-- A cover with its tables reordered is right or wrong where it was: the pins are the same nets, so the cut is the same, and a table answers
-- as before.
use Prim.Native.Nat.{ℕ, ◌*◌, ◌/◌, ◌<◌}
use mathlib.Core.Path.{◌≡◌, sym, ap, ◌∙◌, subst}
use mathlib.Core.Bool.{Bool, true, false}
use mathlib.Core.List.{List}
use mathlib.Core.Logic.{inl, inr, ⊎_elim}
use native.Mathlib.Decide.{ℕ_discrete}
use lib.ListN.{length, get_or}
use Rattle.number.specs.declared.CellNo.{CellNo}
use Rattle.number.specs.declared.SignalNo.{SignalNo}
use Rattle.number.proofs.Bools.{same}
use Rattle.tables.specs.declared.Table.{Table}
use Rattle.tables.specs.Answering.{pins, Formed}
use Rattle.tables.specs.Orders.{orders, order_at, inverse_of}
use Rattle.tables.specs.Reordering.{moved_pins, reordered}
use Rattle.tables.proofs.OrderLaws.{pin_small, inverse_small, pin_back}
use Rattle.tables.proofs.Reorders.{moved_at, moved_length, moved_small, same_answer, undone}
use Rattle.cells.specs.declared.Cell.{Cell}
use Rattle.cells.specs.Cells.{cell_at}
use Rattle.cells.specs.Netlist.{Netlist}
use Rattle.run.specs.Held.{SolvesHeld}
use Rattle.cuts.specs.Cut.{pin_at, is_gate, is_constant, is_pin, Met, operand, onward}
use Rattle.covers.specs.Covers.{size, table_count, table_at, Carried}
use Rattle.cuts.specs.Cut.{RightCut}
use Rattle.covers.specs.Covers.{RightTable, Complete, RightCover, FirstWrong}
use Rattle.cuts.proofs.Pins.{pin_found, found_pin}
use Rattle.covers.proofs.Reading.{pins_long}
use Rattle.giving.specs.Reordering.{OneReordered, Reordered, none, and_one}

-- Pins in another order.
module _ (o : ℕ) (ho : o < orders) (cut : List CellNo) (long : length cut ≡ pins) where
  abbrev moved : List CellNo
  moved = moved_pins (order_at o) cut

  -- each new pin is an old one ..
  pin_was : (q : ℕ) → q < pins → pin_at moved q ≡ pin_at cut (get_or (order_at o) q 0)
  pin_was q h = moved_at o ho cut q h

  -- .. and each old one is carried
  pin_is : (p : ℕ) → p < pins → pin_at moved (get_or (order_at (inverse_of o)) p 0) ≡ pin_at cut p
  pin_is p h = pin_was _ (pin_small (inverse_of o) p (inverse_small o ho) h) ∙ ap (pin_at cut) (pin_back o p ho h)

  same_pins : (x : CellNo) → is_pin moved x ≡ is_pin cut x
  same_pins x = same (is_pin moved x) (is_pin cut x) was is
    where
      was : is_pin moved x ≡ true → is_pin cut x ≡ true
      was e =
          let f = pin_found moved x e in
          let q : f.0 < pins = rw (moved_length o ho cut) at f.1 in
          let old = pin_was f.0 q in
          ap (is_pin cut) (sym f.2 ∙ old) ∙ found_pin cut (get_or (order_at o) f.0 0) (rw long (pin_small o f.0 ho q))

      is : is_pin cut x ≡ true → is_pin moved x ≡ true
      is e =
          let f = pin_found cut x e in
          let p : f.0 < pins = rw long at f.1 in
          let place : ℕ = get_or (order_at (inverse_of o)) f.0 0 in
          let small : place < pins = pin_small (inverse_of o) f.0 (inverse_small o ho) p in
          ap (is_pin moved) (sym f.2 ∙ sym (pin_is f.0 p)) ∙ found_pin moved place (rw (moved_length o ho cut) small)

  module _ (cells : List Cell) (c : CellNo) where
    same_met : (y : CellNo) → Met cells cut c y → Met cells moved c y
    same_met y (operand n) = operand n
    same_met y (onward {x = x} m free n) = onward (same_met x m) (same_pins x ∙ free) n

    same_met_back : (y : CellNo) → Met cells moved c y → Met cells cut c y
    same_met_back y (operand n) = operand n
    same_met_back y (onward {x = x} m free n) = onward (same_met_back x m) (sym (same_pins x) ∙ free) n

  same_held : (h v : CellNo → Bool) (J : SignalNo → Bool) (S : ℕ → Bool) (cells : List Cell) → SolvesHeld (is_pin moved) h J S cells v
      → SolvesHeld (is_pin cut) h J S cells v
  same_held h v J S cells s x = rw (same_pins x) at (s x)

-- The cut of a reordered table.
cut_right : (o : ℕ) → o < orders → (cells : List Cell) (t : Table) → Formed t → RightCut cells t → RightCut cells (reordered o t)
unfolding reordered
cut_right o ho cells t f r =
    let cut : List CellNo = t.pins in
    let long : length cut ≡ pins = f.as_many in
    record {
      met = λ q h free.
          let was = pin_was o ho cut long q h in
          let old : is_constant (cell_at cells (pin_at cut (get_or (order_at o) q 0))) ≡ false =
          ap (λ (x : CellNo). is_constant (cell_at cells x)) (sym was) ∙ free in
          subst (Met cells (moved_pins (order_at o) cut) t.cell) (sym was)
          (same_met o ho cut long cells t.cell _ (r.met (get_or (order_at o) q 0) (pin_small o q ho h) old));
      ends = λ y m source. same_pins o ho cut long y ∙ r.ends y (same_met_back o ho cut long cells t.cell y m) source;
      equal = λ h v J S s. same_answer o ho t f v ∙ r.equal h v J S (same_held o ho cut long h v J S cells s);
    }

-- The cover, with one table reordered.
module _ (w : Netlist) {cover cover' : List ℕ} {k o : ℕ} (one : OneReordered k o cover cover') where
  as_many : table_count cover' ≡ table_count cover
  as_many = ap (λ (n : ℕ). n / size) one.long

  -- no table's cell moves
  same_cell : (j : ℕ) → (table_at cover' j).cell ≡ (table_at cover j).cell
  unfolding reordered
  same_cell j = go (ℕ_discrete j k)
    where
      go : Dec (j ≡ k) → (table_at cover' j).cell ≡ (table_at cover j).cell
      go (yes e) = rw e (ap (λ (t : Table). t.cell) one.this)
      go (no n) = ap (λ (t : Table). t.cell) (one.others j n)

  carried : {x : CellNo} → Carried w.cells cover x → Carried w.cells cover' x
  carried c =
      record {
        cell = c.cell;
        tabled = λ g. let h = c.tabled g in (h.0, rw as_many h.1, same_cell h.0 ∙ h.2);
      }

  table_right : (j : ℕ) → RightTable w.cells cover j → RightTable w.cells cover' j
  unfolding reordered
  table_right j r = go (ℕ_discrete j k)
    where
      single : (i : ℕ) → i < j → (table_at cover' i).cell ≡ (table_at cover' j).cell → ⊥
      single i h e = r.single i h (sym (same_cell i) ∙ e ∙ same_cell j)

      gate : is_gate (cell_at w.cells (table_at cover' j).cell) ≡ true
      gate = ap (λ (x : CellNo). is_gate (cell_at w.cells x)) (same_cell j) ∙ r.gate

      go : Dec (j ≡ k) → RightTable w.cells cover' j
      go (yes e) =
          let here : table_at cover' j ≡ reordered o (table_at cover j) = rw e one.this in
          let own : Formed (table_at cover j) = rw e one.formed in
          let cut : List CellNo = (table_at cover j).pins in
          record {
            gate = gate;
            pins_carried = λ q h.
                let was = pin_was o one.order cut own.as_many q h in
                let at_pin : pin_at (table_at cover' j).pins q ≡ pin_at cut (get_or (order_at o) q 0) =
                ap (λ (t : Table). pin_at t.pins q) here ∙ was in
                subst (Carried w.cells cover') (sym at_pin) (carried
                (r.pins_carried (get_or (order_at o) q 0) (pin_small o q one.order h)));
            single = single;
            cut = subst (RightCut w.cells) (sym here) (cut_right o one.order w.cells (table_at cover j) own r.cut);
          }
      go (no n) =
          let here : table_at cover' j ≡ table_at cover j = one.others j n in
          record {
            gate = gate;
            pins_carried = λ q h.
                subst (Carried w.cells cover') (ap (λ (t : Table). pin_at t.pins q) (sym here)) (carried (r.pins_carried q h));
            single = single;
            cut = subst (RightCut w.cells) (sym here) r.cut;
          }

  complete : Complete w cover → Complete w cover'
  complete c =
      record {
        whole = rw one.long c.whole;
        outputs = λ s h. carried (c.outputs s h);
        operands = λ x y e. carried (c.operands x y e);
      }

  -- the inverse puts the table back
  put_back : OneReordered k (inverse_of o) cover' cover
  unfolding reordered
  put_back =
      record {
        order = inverse_small o one.order;
        formed = record {
          as_many = pins_long cover' (k * size);
          truth_fits = rw (ap (λ (t : Table). t.truth) one.this) (moved_small o one.order (table_at cover k).truth);
        };
        long = sym one.long;
        this = sym (undone o one.order (table_at cover k) one.formed) ∙ ap (reordered (inverse_of o)) (sym one.this);
        others = λ j n. sym (one.others j n);
      }

module _ (w : Netlist) where
  right_on : {cover cover' : List ℕ} {k o : ℕ} → OneReordered k o cover cover' → RightCover w cover → RightCover w cover'
  right_on one r =
      record { tables = λ j h. table_right w one j (r.tables j (rw (as_many w one) at h)); complete = complete w one r.complete }

  wrong_on : {cover cover' : List ℕ} {k o place : ℕ} → OneReordered k o cover cover' → FirstWrong w cover place → FirstWrong w cover' place
  wrong_on {place = place} one f =
      let back = put_back w one in
      record {
        before = λ j h. table_right w one j (f.before j h);
        here =
            ⊎_elim (λ t. inl (rw (as_many w one) t.0, λ r. t.1 (table_right w back place r)))
            (λ e. inr (e.0 ∙ sym (as_many w one), λ c. e.1 (complete w back c))) f.here;
      }

  pub stays_right : {cover cover' : List ℕ} → Reordered cover cover' → RightCover w cover → RightCover w cover'
  stays_right none r = r
  stays_right (and_one rest one) r = right_on one (stays_right rest r)

  pub stays_wrong : {cover cover' : List ℕ} {place : ℕ} → Reordered cover cover' → FirstWrong w cover place → FirstWrong w cover' place
  stays_wrong none f = f
  stays_wrong (and_one rest one) f = wrong_on one (stays_wrong rest f)
