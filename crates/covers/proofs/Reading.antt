-- Reading a cover's tables, and listing their cells.
use Prim.Native.Nat.{ℕ, zero, suc, ◌+◌, ◌-◌, ◌*◌, ◌<◌, ◌≤◌}
use mathlib.Core.Path.{◌≡◌, refl, sym, ap, ◌∙◌, subst, subst⁻¹}
use mathlib.Core.List.{List, ◌++◌}
use native.Mathlib.Nat.{add-zero, zero-add}
use native.Mathlib.Omega.{arith}
use native.Mathlib.Decide.{ℕ_discrete}
use lib.ListN.{length, get_or, get_or-append, drop, set, length-set, length-map}
use lib.Seq.{drop-append_seam}
use Rattle.std.specs.Fn.{Called, Mut}
use Rattle.std.specs.Array.{IsFromFnResult, IsFromFnResultFrom}
use Rattle.std.proofs.lemmas.List.{get_or-drop, drop-drop, length-append, length-drop}
use Rattle.std.proofs.lemmas.List.FromFn.{fill_by_all}
use Rattle.number.specs.Counts.{cell_no, of_cell}
use Rattle.number.specs.declared.CellNo.{CellNo}
use Rattle.tables.specs.Answering.{pins}
use Rattle.tables.specs.Orders.{from}
use Rattle.tables.proofs.Tabulated.{length_from}
use Rattle.order.specs.Search.{mark, IsBlank}
use Rattle.order.proofs.Columns.{mark_same}
use Rattle.cuts.proofs.Ways.{marked}
use Rattle.covers.specs.Covers.{size, table_count, pins_from, table_at}
use Rattle.covers.specs.Checking.{Tabled}

pub pins_long : (cover : List ℕ) (at : ℕ) → length (pins_from cover at) ≡ pins
unfolding pins_from
pins_long cover at = length-map (from 0 pins) (λ (p : ℕ). cell_no (get_or cover (at + 1 + p) 0)) ∙ length_from 0 pins

-- What calls of a closure that stays as it is give at each number.
made_from : {F B : Type 0} (g : Mut F (ℕ × Unit {0}) B) (f : F) (h : ℕ → B)
    → ((i : ℕ) (y : B) (q : F) → Called g f (i, tt) y q → (q ≡ f) × (y ≡ h i))
    → (s : F) (ys : List B) (i n : ℕ) → s ≡ f → IsFromFnResultFrom g s ys i n → (k : ℕ) (d : B) → k < n → get_or ys (i + k) d ≡ h (i + k)
made_from g f h one s ys i zero e made k d l = absurd (omega arith)
made_from g f h one s ys i (suc n) e (q, y, at, called, rest) zero d l =
    let now = one i y q (subst (λ s. Called g s (i, tt) y q) e called) in
    rw (add-zero i) (at.1 d ∙ now.1)
made_from g f h one s ys i (suc n) e (q, y, at, called, rest) (suc k) d l =
    let now = one i y q (subst (λ s. Called g s (i, tt) y q) e called) in
    let same : i + suc k ≡ i + 1 + k = omega arith in
    rw same (made_from g f h one q ys (i + 1) n now.0 rest k d (omega arith))

-- The pins of a table are made of its numbers.
pub pins_made : {F : Type 0} (g : Mut F (ℕ × Unit {0}) CellNo) (f : F) (cover : List ℕ) (at : ℕ) (new : List CellNo)
    → IsFromFnResult g f new pins
    → ((p : ℕ) (x : CellNo) (q : F) → Called g f (p, tt) x q → (q ≡ f) × (x ≡ cell_no (get_or cover (at + 1 + p) 0)))
    → new ≡ pins_from cover at
unfolding pins_from
pins_made g f cover at new made one =
    let pin = λ (p : ℕ). cell_no (get_or cover (at + 1 + p) 0) in
    fill_by_all pin new pins (cell_no 0) made.long (λ p h. simp zero-add at (made_from g f pin one f new 0 pins refl made.each p (cell_no 0) h))

-- The next chunk of a cover is its next table, and after the last chunk there is none.
pub chunk_is : (cover numbers : List ℕ) {rest rest' : List ℕ} (k : ℕ) → rest ≡ drop (k * size) cover → k * size ≤ length cover
    → rest ≡ numbers ++ rest' → length numbers ≡ size
    → (get_or cover (k * size) 0 ≡ get_or numbers 0 0) × (rest' ≡ drop ((k + 1) * size) cover) × ((k + 1) * size ≤ length cover)
chunk_is cover numbers {rest} {rest'} k left low e long =
    let all : drop (k * size) cover ≡ numbers ++ rest' = sym left ∙ e in
    let whole : length (drop (k * size) cover) ≡ length cover - k * size = length-drop (k * size) cover in
    let parts : length (drop (k * size) cover) ≡ length numbers + length rest' = ap length all ∙ length-append numbers rest' in
    let here : get_or (drop (k * size) cover) 0 0 ≡ get_or cover (k * size) 0 = simp add-zero at (get_or-drop (k * size) cover 0 0) in
    let first : get_or (numbers ++ rest') 0 0 ≡ get_or numbers 0 0 = get_or-append numbers rest' 0 0 (omega (arith, long)) in
    let next : drop (length numbers) (drop (k * size) cover) ≡ drop (k * size + length numbers) cover = drop-drop (length numbers) (k * size) cover in
    let seam : drop (length numbers) (numbers ++ rest') ≡ rest' = drop-append_seam numbers rest' in
    let far : k * size + length numbers ≡ (k + 1) * size = omega (arith, long) in
    (sym here ∙ ap (λ l. get_or l 0 0) all ∙ first, sym seam ∙ ap (drop (length numbers)) (sym all) ∙ next ∙ ap (λ n. drop n cover) far, omega arith)

pub last_chunk : (cover : List ℕ) {rest : List ℕ} (k : ℕ) → rest ≡ drop (k * size) cover → k * size ≤ length cover → length rest < size
    → k ≡ table_count cover
last_chunk cover k left low short =
    let whole = ap length left ∙ length-drop (k * size) cover in
    omega (arith, whole)

-- No table is listed.
pub none_listed : (cover tabled : List ℕ) → IsBlank tabled → Tabled cover 0 0 tabled
none_listed cover tabled blank =
    record {
      has = λ x h. absurd (omega (arith, blank (of_cell x)));
      all = λ j h. absurd (omega arith);
      earlier = λ x h. absurd (omega (arith, blank (of_cell x)));
      passed = λ j h. absurd (omega arith);
    }

-- One table more is listed, whose cell is in the column, or is not.
module _ {cover tabled : List ℕ} {n : ℕ} (t : Tabled cover n 0 tabled) where
  abbrev x : CellNo
  x = (table_at cover n).cell

  pub listed_more : of_cell x < length tabled → Tabled cover (n + 1) 0 (set tabled (of_cell x) 1)
  listed_more inside =
      record {
        has = marked (λ y m. 0 < m → (j : ℕ) × (j < n + 1) × ((table_at cover j).cell ≡ y)) tabled x 1 inside (λ h. (n, omega arith, refl))
            (λ y d h. let w = t.has y h in (w.0, omega (arith, w.1), w.2));
        all = λ j h low. all j h (rw (length-set tabled (of_cell x) 1) at low) (ℕ_discrete j n);
        earlier =
            marked (λ y m. 1 < m → (j : ℕ) × (j < 0) × ((table_at cover j).cell ≡ y)) tabled x 1 inside (λ h. absurd (omega arith))
            (λ y d. t.earlier y);
        passed = λ j h. absurd (omega arith);
      }
    where
      on : (y : CellNo) → 0 < mark tabled y → 0 < mark (set tabled (of_cell x) 1) y
      on = marked (λ y m. 0 < mark tabled y → 0 < m) tabled x 1 inside (λ h. omega arith) (λ y d h. h)

      all : (j : ℕ) → j < n + 1 → of_cell (table_at cover j).cell < length tabled → Dec (j ≡ n)
          → 0 < mark (set tabled (of_cell x) 1) (table_at cover j).cell
      all j h low (yes e) =
          subst⁻¹ (λ (i : ℕ). 0 < mark (set tabled (of_cell x) 1) (table_at cover i).cell) e (omega (arith, mark_same tabled x 1 inside))
      all j h low (no d) = on (table_at cover j).cell (t.all j (omega arith) low)

  pub listed_past : length tabled ≤ of_cell x → Tabled cover (n + 1) 0 tabled
  listed_past past =
      record {
        has = λ y h. let w = t.has y h in (w.0, omega (arith, w.1), w.2);
        all = λ j h low. all j h low (ℕ_discrete j n);
        earlier = t.earlier;
        passed = t.passed;
      }
    where
      all : (j : ℕ) → j < n + 1 → of_cell (table_at cover j).cell < length tabled → Dec (j ≡ n) → 0 < mark tabled (table_at cover j).cell
      all j h low (yes e) = absurd (omega (arith, ap (λ (i : ℕ). of_cell (table_at cover i).cell) e))
      all j h low (no d) = t.all j (omega arith) low

-- One table more is passed, whose cell is in the column.
pub passed_more : {cover tabled : List ℕ} {n k : ℕ} (t : Tabled cover n k tabled) → k < n → of_cell (table_at cover k).cell < length tabled
    → Tabled cover n (k + 1) (set tabled (of_cell (table_at cover k).cell) 2)
passed_more {cover} {tabled} {n} {k} t more inside =
    record {
      has =
          marked (λ y m. 0 < m → (j : ℕ) × (j < n) × ((table_at cover j).cell ≡ y)) tabled x 2 inside (λ h. (k, more, refl))
          (λ y d. t.has y);
      all = λ j h low. on (table_at cover j).cell (t.all j h (rw (length-set tabled (of_cell x) 2) at low));
      earlier = marked (λ y m. 1 < m → (j : ℕ) × (j < k + 1) × ((table_at cover j).cell ≡ y)) tabled x 2 inside (λ h. (k, omega arith, refl))
          (λ y d h. let w = t.earlier y h in (w.0, omega (arith, w.1), w.2));
      passed = λ j h low. passed j h (rw (length-set tabled (of_cell x) 2) at low) (ℕ_discrete j k);
    }
  where
    x : CellNo
    x = (table_at cover k).cell

    on : (y : CellNo) → 0 < mark tabled y → 0 < mark (set tabled (of_cell (table_at cover k).cell) 2) y
    on = marked (λ y m. 0 < mark tabled y → 0 < m) tabled (table_at cover k).cell 2 inside (λ h. omega arith) (λ y d h. h)

    still : (y : CellNo) → 1 < mark tabled y → 1 < mark (set tabled (of_cell (table_at cover k).cell) 2) y
    still = marked (λ y m. 1 < mark tabled y → 1 < m) tabled (table_at cover k).cell 2 inside (λ h. omega arith) (λ y d h. h)

    passed : (j : ℕ) → j < k + 1 → of_cell (table_at cover j).cell < length tabled → Dec (j ≡ k)
        → 1 < mark (set tabled (of_cell (table_at cover k).cell) 2) (table_at cover j).cell
    passed j h low (yes e) =
        subst⁻¹ (λ (i : ℕ). 1 < mark (set tabled (of_cell (table_at cover k).cell) 2) (table_at cover i).cell) e
        (omega (arith, mark_same tabled (table_at cover k).cell 2 inside))
    passed j h low (no d) = still (table_at cover j).cell (t.passed j (omega arith) low)
