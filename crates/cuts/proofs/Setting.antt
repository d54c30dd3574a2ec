-- The pins are set one after the other: what is marked, the words of their nets, and the settings that count.
use Prim.Native.Nat.{ℕ, ◌+◌, ◌<◌}
use mathlib.Core.Path.{◌≡◌, refl, sym, ap, ◌∙◌, subst⁻¹}
use mathlib.Core.Bool.{Bool, true, ◌&&◌}
use mathlib.Core.List.{List}
use native.Mathlib.Omega.{arith}
use native.Mathlib.Decide.{ℕ_discrete}
use lib.Bits.{bit_and}
use lib.ListN.{length, get_or, set}
use lib.Seq.{get_or-set_same, get_or-set_other}
use Rattle.number.specs.Counts.{cell_no, of_cell}
use Rattle.number.specs.Number.{pick}
use Rattle.number.specs.declared.CellNo.{CellNo}
use Rattle.number.proofs.Bools.{and_left, and_right, and_both}
use Rattle.tables.specs.Answering.{pins, bit, setting}
use Rattle.tables.proofs.Settings.{setting_bit}
use Rattle.cells.specs.declared.Cell.{Cell}
use Rattle.cells.specs.Cells.{cell_at}
use Rattle.cells.specs.Values.{before, value}
use Rattle.order.specs.Search.{mark}
use Rattle.order.proofs.Columns.{same, mark_same, mark_other}
use Rattle.cuts.specs.Cut.{pin_at, is_pin}
use Rattle.cuts.specs.Cutting.{PinWord, AllNew, Tells, Alike, Pinned, PinSet, again, first, Ready}
use Rattle.cuts.proofs.Words.{bit_and_lem, ones}
use Rattle.cuts.proofs.Pins.{pin_found, found_pin}
use Rattle.cuts.proofs.Visits.{small}

pub pinned_none : (cut : List CellNo) (base : ℕ) (marks values : List ℕ) → AllNew base marks → Pinned cut base marks values 0 65535
pinned_none cut base marks values new =
    record {
      each = λ p h. absurd (omega arith);
      only = λ x h. absurd (omega (arith, new x));
      counted = record { on = λ b h e p q hp. absurd (omega arith); all = λ b h a. ones b h };
    }

-- one pin more
alike_more : (cut : List CellNo) (p b : ℕ) → Alike cut p b → ((j : ℕ) → j < p → pin_at cut j ≡ pin_at cut p → bit b j ≡ bit b p)
    → Alike cut (p + 1) b
alike_more cut p b old last i j hi hj e = go (ℕ_discrete i p) (ℕ_discrete j p)
  where
    go : Dec (i ≡ p) → Dec (j ≡ p) → bit b i ≡ bit b j
    go (yes x) (yes y) = ap (bit b) (x ∙ sym y)
    go (yes x) (no n) = ap (bit b) x ∙ sym (last j (omega arith) (sym e ∙ ap (pin_at cut) x))
    go (no m) (yes y) = last i (omega arith) (e ∙ ap (pin_at cut) y) ∙ sym (ap (bit b) y)
    go (no m) (no n) = old i j (omega arith) (omega arith) e

alike_less : (cut : List CellNo) (p b : ℕ) → Alike cut (p + 1) b → Alike cut p b
alike_less cut p b a i j hi hj e = a i j (omega arith) (omega arith) e

-- the settings that count among those that did
both_on : (a b k : ℕ) → bit (bit_and a b) k ≡ true → (bit a k ≡ true) × (bit b k ≡ true)
both_on a b k e =
    let f : (bit a k && bit b k) ≡ true = sym (bit_and_lem a b k) ∙ e in
    (and_left (bit a k) (bit b k) f, and_right (bit a k) (bit b k) f)

on_both : (a b k : ℕ) → bit a k ≡ true → bit b k ≡ true → bit (bit_and a b) k ≡ true
on_both a b k x y = bit_and_lem a b k ∙ and_both (bit a k) (bit b k) x y

pub pinned_more : {cut : List CellNo} {base : ℕ} {marks values marks' values' : List ℕ} {p counts w r : ℕ}
    → Pinned cut base marks values p counts
    → of_cell (pin_at cut p) < length marks → of_cell (pin_at cut p) < length values → PinWord p w
    → PinSet base marks values (pin_at cut p) w marks' values' r → Pinned cut base marks' values' (p + 1) (bit_and counts r)
pinned_more {cut} {base} {marks} {values} {marks'} {values'} {p} {counts} {w} {r} old in_marks in_values word (again h alike) =
    record {
      each = λ q hq. each q hq (ℕ_discrete q p);
      only = λ y hy. let o = old.only y hy in (o.0, omega (arith, o.1), o.2, o.3);
      counted = record {
        on = λ b hb e.
            let f = both_on counts r b e in
            alike_more cut p b (old.counted.on b hb f.0)
            (λ j hj e'. old.counted.on b hb f.0 j q₀ hj low (e' ∙ sym is) ∙
            (sym (w₀.bits b hb) ∙ alike.on b hb f.1 ∙ word.bits b hb));
        all = λ b hb a.
            on_both counts r b (old.counted.all b hb (alike_less cut p b a))
            (alike.all b hb (w₀.bits b hb ∙ a q₀ p (omega (arith, low)) (omega arith) is ∙ sym (word.bits b hb)));
      };
    }
  where
    q₀ : ℕ
    q₀ = (old.only (pin_at cut p) h).0

    low : q₀ < p
    low = (old.only (pin_at cut p) h).1

    is : pin_at cut q₀ ≡ pin_at cut p
    is = (old.only (pin_at cut p) h).2

    w₀ : PinWord q₀ (get_or values (of_cell (pin_at cut p)) 0)
    w₀ = (old.only (pin_at cut p) h).3

    each : (q : ℕ) → q < p + 1 → Dec (q ≡ p) → mark marks (pin_at cut q) ≡ base + 1
    each q hq (yes e) = ap (λ (i : ℕ). mark marks (pin_at cut i)) e ∙ ap (mark marks) (sym is) ∙ old.each q₀ low
    each q hq (no n) = old.each q (omega arith)
pinned_more {cut} {base} {marks} {values} {marks'} {values'} {p} {counts} {w} {r} old in_marks in_values word (first h all) =
    record {
      each = λ q hq. each q hq (ℕ_discrete q p);
      only = λ y hy. only y hy (same y x);
      counted = record {
        on =
            λ b hb e. let f = both_on counts r b e in alike_more cut p b (old.counted.on b hb f.0)
            (λ j hj e'. absurd (other j hj e'));
        all = λ b hb a. on_both counts r b (old.counted.all b hb (alike_less cut p b a)) (all b hb);
      };
    }
  where
    x : CellNo
    x = pin_at cut p

    other : (j : ℕ) → j < p → pin_at cut j ≡ pin_at cut p → ⊥
    other j hj e = omega (arith, old.each j hj, ap (mark marks) e)

    each : (q : ℕ) → q < p + 1 → Dec (q ≡ p) → mark (set marks (of_cell (pin_at cut p)) (base + 1)) (pin_at cut q) ≡ base + 1
    each q hq (yes e) =
        ap (λ (i : ℕ). mark (set marks (of_cell (pin_at cut p)) (base + 1)) (pin_at cut i)) e ∙ mark_same marks (pin_at cut p) (base + 1)
        in_marks
    each q hq (no n) = mark_other marks (pin_at cut p) (pin_at cut q) (base + 1) (other q (omega arith)) ∙ old.each q (omega arith)

    Is : CellNo → Type 0
    Is y = (q : ℕ) × (q < p + 1) × (pin_at cut q ≡ y) × PinWord q (get_or (set values (of_cell (pin_at cut p)) w) (of_cell y) 0)

    only : (y : CellNo) → base < mark (set marks (of_cell (pin_at cut p)) (base + 1)) y → Dec (y ≡ pin_at cut p) → Is y
    only y hy (yes e) =
        subst⁻¹ Is e (p, omega arith, refl, subst⁻¹ (PinWord p) (get_or-set_same values (of_cell (pin_at cut p)) w 0 in_values) word)
    only y hy (no n) =
        let o = old.only y (rw (mark_other marks (pin_at cut p) y (base + 1) n) at hy) in (
          o.0,
          omega (arith, o.1),
          o.2,
          subst⁻¹ (PinWord o.0) (get_or-set_other values (of_cell (pin_at cut p)) (of_cell y) w 0 (λ e. n (ap cell_no e))) o.3,
        )

-- all pins are set: their nets have the values that a setting gives them
pub ready : (cells : List Cell) {cut : List CellNo} {base : ℕ} {marks values : List ℕ} {counts : ℕ} → length cut ≡ pins
    → Pinned cut base marks values pins counts → Ready cells cut base marks values
unfolding pick
ready cells {cut} {base} {marks} {values} long k =
    record {
      long = long;
      marked = λ x e. let w = pin_found cut x e in ap (mark marks) (sym w.2) ∙ k.each w.0 (omega (arith, w.1, long));
      only = λ x h. let o = k.only x h in ap (is_pin cut) (sym o.2) ∙ found_pin cut o.0 (omega (arith, o.1, long));
      tells = tells;
    }
  where
    tells : (x : CellNo) → base < mark marks x → Tells cells cut (get_or values (of_cell x) 0) x
    tells x m h v J S s =
        let o = k.only x m in
        let pin : is_pin cut x ≡ true = ap (is_pin cut) (sym o.2) ∙ found_pin cut o.0 (omega (arith, o.1, long)) in
        o.3.bits (setting h cut) (small cut long h)
        ∙ setting_bit h cut o.0 (omega (arith, o.1, long))
        ∙ ap h o.2
        ∙ sym (s x ∙ ap (λ (b : Bool). pick b (h x) (value J (S (before cells x)) v (cell_at cells x))) pin)
