-- A reordered table answers as before on the same cells, and a reorder followed by its inverse gives the table back.
use mathlib.Core.Path.{◌≡◌, refl, sym, ap, ◌∙◌}
use mathlib.Core.Bool.{Bool, true}
use mathlib.Core.List.{List, map}
use Prim.Native.Nat.{ℕ, ◌^◌, ◌<◌, ◌≤◌}
use native.Mathlib.Omega.{arith}
use lib.ListN.{length, get_or, length-map}
use lib.Seq.{ext_get_or}
use borrow.Author.Tests.{le-leb, lt-leb}
use Rattle.number.specs.declared.CellNo.{CellNo}
use Rattle.number.specs.declared.Refusal.TheVariants.{Order}
use Rattle.number.specs.Counts.{cell_no}
use Rattle.number.specs.Number.{pick}
use Rattle.number.specs.Refusals.{refusal_no}
use Rattle.tables.specs.declared.Table.{Table}
use Rattle.tables.specs.Answering.{pins, settings, bit, weigh, setting, answers, Formed}
use Rattle.tables.specs.Orders.{orders, from, order_at, place, row, inverse_of}
use Rattle.tables.specs.Reordering.{moved_pins, placed, moved_truth, reordered, outcome, Reorders}
use Rattle.tables.proofs.Tabulated.{mapped, tabulated, length_from}
use Rattle.tables.proofs.Bits.{same_bits}
use Rattle.tables.proofs.Placing.{placed_bit, placed_most}
use Rattle.tables.proofs.Settings.{cell_at, setting_small, setting_bit}
use Rattle.tables.proofs.OrderLaws.{order_length, pin_small, place_small, row_distinct, row_full}
use Rattle.tables.proofs.OrderLaws.{inverse_small, pin_back, place_back}

module _ (o : ℕ) (ho : o < orders) where
  abbrev order : List ℕ
  order = order_at o

  pub row_at : (b : ℕ) → b < settings → get_or (row order) b 0 ≡ place order b
  unfolding row
  row_at b h = tabulated (place order) settings b 0 h

  pub row_length : length (row order) ≡ settings
  unfolding row
  row_length = length-map (from 0 settings) (place order) ∙ length_from 0 settings

  -- the truth table's bits stand where the row says
  moved_bit : (t b : ℕ) → b < settings → bit (moved_truth order t) (place order b) ≡ bit t b
  unfolding moved_truth
  moved_bit t b h =
      ap (bit (placed (row order) t)) (sym (row_at b h)) ∙ placed_bit (row order) t b (row_distinct o ho) (rw row_length h)

  pub moved_small : (t : ℕ) → moved_truth order t < 2 ^ settings
  unfolding moved_truth
  moved_small t = omega (arith, placed_most (row order) t, row_full o ho)

  -- a new pin has the cell of the old pin that it carries
  pub moved_at : (cells : List CellNo) (q : ℕ) → q < pins → cell_at (moved_pins order cells) q ≡ cell_at cells (get_or order q 0)
  unfolding moved_pins
  moved_at cells q h = mapped (cell_at cells) order q 0 (cell_no 0) (rw (order_length o ho) h)

  pub moved_length : (cells : List CellNo) → length (moved_pins order cells) ≡ pins
  unfolding moved_pins
  moved_length cells = length-map order (cell_at cells) ∙ order_length o ho

  -- the setting of the new pins is where that of the old ones goes
  setting_moved : (v : CellNo → Bool) (cells : List CellNo) → length cells ≡ pins
      → setting v (moved_pins order cells) ≡ place order (setting v cells)
  unfolding setting place
  setting_moved v cells long =
      let values : List Bool = map v (moved_pins order cells) in
      let bits : List Bool = map (bit (setting v cells)) order in
      let new : length values ≡ pins = length-map (moved_pins order cells) v ∙ moved_length cells in
      let old : length bits ≡ pins = length-map order (bit (setting v cells)) ∙ order_length o ho in
      ap weigh (ext_get_or true values bits (new ∙ sym old) (λ q h. at q (rw new at h)))
    where
      at : (q : ℕ) → q < pins → get_or (map v (moved_pins order cells)) q true ≡ get_or (map (bit (setting v cells)) order) q true
      at q h =
          mapped v (moved_pins order cells) q (cell_no 0) true (rw (moved_length cells) h)
          ∙ ap v (moved_at cells q h)
          ∙ sym (setting_bit v cells (get_or order q 0) (rw long (pin_small o q ho h)))
          ∙ sym (mapped (bit (setting v cells)) order q 0 true (rw (order_length o ho) h))

  -- "A reordered table answers as before on the same nets"
  pub same_answer : (t : Table) → Formed t → (v : CellNo → Bool) → answers (reordered o t) v ≡ answers t v
  unfolding answers reordered
  same_answer t f v =
      ap (bit (moved_truth order t.truth)) (setting_moved v t.pins f.as_many)
      ∙ moved_bit t.truth (setting v t.pins) (rw f.as_many at (setting_small v t.pins))

module _ (o : ℕ) (ho : o < orders) (t : Table) (f : Formed t) where
  abbrev r : ℕ
  r = inverse_of o

  hr : r < orders
  hr = inverse_small o ho

  abbrev cells : List CellNo
  cells = moved_pins (order_at o) t.pins

  abbrev truth : ℕ
  truth = moved_truth (order_at o) t.truth

  pins_back : moved_pins (order_at r) cells ≡ t.pins
  pins_back =
      let long = moved_length r hr cells in
      ext_get_or (cell_no 0) (moved_pins (order_at r) cells) t.pins (long ∙ sym f.as_many) (λ q h. at q (rw long at h))
    where
      at : (q : ℕ) → q < pins → cell_at (moved_pins (order_at r) cells) q ≡ cell_at t.pins q
      at q h =
          moved_at r hr cells q h
          ∙ moved_at o ho t.pins (get_or (order_at r) q 0) (pin_small r q hr h)
          ∙ ap (cell_at t.pins) (pin_back o q ho h)

  truth_back : moved_truth (order_at r) truth ≡ t.truth
  truth_back = same_bits settings (moved_truth (order_at r) truth) t.truth (moved_small r hr truth) f.truth_fits at
    where
      at : (b : ℕ) → b < settings → bit (moved_truth (order_at r) truth) b ≡ bit t.truth b
      at b h =
          ap (bit (moved_truth (order_at r) truth)) (sym (place_back o b ho h))
          ∙ moved_bit r hr truth (place (order_at o) b) (place_small o b ho h)
          ∙ moved_bit o ho t.truth b h

  -- "a reorder followed by its inverse gives the table back"
  pub undone : reordered r (reordered o t) ≡ t
  unfolding reordered
  undone = rw (pins_back, truth_back)

-- What is answered: ORDER for 24 and more ..
pub refused : {o no : ℕ} {t : Table} → orders ≤ o → no ≡ refusal_no Order → Reorders o t (record { number = no; place = 0; table = t })
unfolding outcome pick
refused {o} h e = record { answer = simp (le-leb orders o h, e); same = λ v. refl; back = λ few. absurd (omega arith) }

-- .. and the table reordered for every other number
pub accepted : {o : ℕ} {t x : Table} → o < orders → Formed t → x ≡ reordered o t → Reorders o t (record { number = 0; place = 0; table = x })
unfolding outcome pick
accepted {o} {t} h f e =
    record {
      answer = simp (lt-leb orders o h, e);
      same = λ v. ap (λ (x : Table). answers x v) e ∙ same_answer o h t f v;
      back = λ few. ap (reordered (inverse_of o)) e ∙ undone o h t f;
    }
