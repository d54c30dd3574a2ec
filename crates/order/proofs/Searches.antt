-- The search for an order, a law for each thing that it does: it begins, opens a new cell, places one whose operands are done, comes back to an open cell,
-- and has been through all cells.
use Prim.Native.Nat.{ℕ, suc, zero, ◌+◌, ◌-◌, ◌<◌, ◌≤◌}
use mathlib.Core.Path.{◌≡◌, refl, sym, ap, ◌∙◌, subst, subst⁻¹}
use mathlib.Core.List.{List}
use native.Mathlib.Omega.{arith}
use native.Mathlib.Decide.{ℕ_discrete}
use lib.ListN.{length, set, length-set}
use borrow.Author.Count.{below_more}
use Rattle.number.specs.Counts.{cell_no, of_cell}
use Rattle.number.specs.declared.CellNo.{CellNo}
use Rattle.cells.specs.declared.Cell.{Cell}
use Rattle.cells.specs.Needs.{IsCell, Needs}
use Rattle.cells.proofs.Needing.{needs_as}
use Rattle.order.specs.Paths.{Reaches, one, more, OnCycle, placed, Ordered}
use Rattle.order.specs.declared.Mark.{Mark}
use Rattle.order.specs.declared.Mark.TheVariants.{Open, Placed}
use Rattle.order.specs.Search.{WorkRoom, progress, Seen, IsOpen, IsDone, HasPlace, waiting, Waits, unmet, IsUnmarked, Searching, Went, Through}
use Rattle.order.proofs.Columns.{same, progress_same, progress_other, still_seen, seen_low, placed_same, placed_other, still_stands, unmet_new, unmet_again}
use Rattle.order.proofs.Columns.{unmet_all, unmet_none, still_lent}

-- Nothing is marked.
pub begins : {cells : List Cell} {marks : List Mark} {order : List ℕ} → WorkRoom cells marks order → IsUnmarked marks → Searching cells marks order 0 0
begins {cells} {marks} l z =
    record {
      stacked = λ x e. absurd (omega (arith, z (of_cell x)));
      opened = λ k h h'. absurd (omega arith);
      apart = λ i k h h' h''. absurd (omega arith);
      way = λ k h h'. absurd (omega arith);
      listed = λ x h. absurd (omega (arith, z (of_cell x)));
      done = λ j h. absurd (omega arith);
      once = λ i j h h'. absurd (omega arith);
      after = λ j y h. absurd (omega arith);
      within = λ x h. absurd (omega (arith, z (of_cell x)));
      room = omega (arith, unmet_all (length cells) marks l.wide z);
      lent = l;
    }

-- A new cell y comes on top of a cell that needs it, or on the empty stack: at place p, the next one down from the column's end.
module _ {cells : List Cell} {marks : List Mark} {order : List ℕ} {top count : ℕ} (s : Searching cells marks order top count) (y : CellNo)
    (is : IsCell cells y) (new : progress marks y ≡ 0) where
  in_marks : of_cell y < length marks
  in_marks = omega (arith, s.lent.wide)

  one_less : suc (unmet (length cells) (set marks (of_cell y) Open)) ≡ unmet (length cells) marks
  one_less = unmet_new (length cells) marks (of_cell y) Open (omega arith) is in_marks new

  -- the place is free: behind the placed cells
  pub place_free : count + top < length order
  place_free = omega (arith, one_less, s.room, s.lent.deep)

  -- the other marks stay
  kept : (x : CellNo) → Seen marks x → progress (set marks (of_cell y) Open) x ≡ progress marks x
  kept x h = progress_other marks y x Open (λ e. omega (arith, ap (progress marks) e))

  opens : (p : ℕ) → p + (top + 1) ≡ length order → ((k : ℕ) → 0 < k → k ≡ top → Needs cells (waiting order k) y)
      → Searching cells (set marks (of_cell y) Open) (set order p (of_cell y)) (top + 1) count
  opens p next needed =
      record {
        stacked = stacked;
        opened = opened;
        apart = apart;
        way = way;
        listed = listed;
        done = done;
        once = λ i j h h' e. s.once i j h h' (sym (before i (omega arith)) ∙ e ∙ before j h');
        after = λ j z h n. still_stands p j y (omega (arith, place_free)) (omega arith) (s.after j z h (needs_as (sym (before j h)) refl n));
        within = within;
        room = omega (arith, s.room, one_less);
        lent = still_lent s.lent (length-set marks (of_cell y) Open) long;
      }
    where
      marks' : List Mark
      marks' = set marks (of_cell y) Open

      order' : List ℕ
      order' = set order p (of_cell y)

      long : length order' ≡ length order
      long = length-set order p (of_cell y)

      -- what is placed stays
      before : (j : ℕ) → j < count → placed order' j ≡ placed order j
      before j h = placed_other order j p y (λ e. omega (arith, place_free))

      on_top : (k : ℕ) → k ≡ top + 1 → waiting order' k ≡ y
      on_top k e =
          let here : length order' - k ≡ p = omega (arith, long) in
          ap (placed order') here ∙ placed_same order p y (omega arith)

      -- what waits below it stays
      below : (k : ℕ) → 0 < k → k ≤ top → waiting order' k ≡ waiting order k
      below k h h' =
          let here : length order' - k ≡ length order - k = omega (arith, long) in
          ap (placed order') here ∙ placed_other order (length order - k) p y (λ e. omega (arith, place_free))

      stacked : (x : CellNo) → IsOpen marks' x → Waits order' (top + 1) x
      stacked x h = go (same x y)
        where
          go : Dec (x ≡ y) → Waits order' (top + 1) x
          go (yes e) = record { depth = top + 1; some = omega arith; low = omega arith; is = on_top (top + 1) refl ∙ sym e }
          go (no n) =
              let w = s.stacked x (sym (progress_other marks y x Open n) ∙ h) in
              record { depth = w.depth; some = w.some; low = omega (arith, w.low); is = below w.depth w.some w.low ∙ w.is }

      opened : (k : ℕ) → 0 < k → k ≤ top + 1 → IsOpen marks' (waiting order' k)
      opened k h h' = go (ℕ_discrete k (top + 1))
        where
          go : Dec (k ≡ top + 1) → IsOpen marks' (waiting order' k)
          go (yes e) = ap (progress marks') (on_top k e) ∙ progress_same marks y Open in_marks
          go (no n) =
              let low : k ≤ top = omega arith in
              let was = s.opened k h low in
              ap (progress marks') (below k h low) ∙ kept (waiting order k) (omega (arith, was)) ∙ was

      apart : (i k : ℕ) → 0 < i → i < k → k ≤ top + 1 → waiting order' i ≡ waiting order' k → ⊥
      apart i k z h h' e = go (ℕ_discrete k (top + 1))
        where
          low : i ≤ top
          low = omega arith

          go : Dec (k ≡ top + 1) → ⊥
          go (yes q) = omega (arith, s.opened i z low, ap (progress marks) (sym (below i z low) ∙ e ∙ on_top k q))
          go (no n) =
              let k_low : k ≤ top = omega arith in
              s.apart i k z h k_low (sym (below i z low) ∙ e ∙ below k (omega arith) k_low)

      way : (k : ℕ) → 0 < k → k < top + 1 → Needs cells (waiting order' k) (waiting order' (k + 1))
      way k z h = go (ℕ_discrete k top)
        where
          low : k ≤ top
          low = omega arith

          go : Dec (k ≡ top) → Needs cells (waiting order' k) (waiting order' (k + 1))
          go (yes e) = needs_as (below k z low) (on_top (k + 1) (omega arith)) (needed k z e)
          go (no n) = needs_as (below k z low) (below (k + 1) (omega arith) (omega arith)) (s.way k z (omega arith))

      listed : (x : CellNo) → IsDone marks' x → HasPlace order' count x
      listed x h = go (same x y)
        where
          go : Dec (x ≡ y) → HasPlace order' count x
          go (yes e) = absurd (omega (arith, ap (progress marks') e, progress_same marks y Open in_marks))
          go (no n) =
              still_stands p count y (omega (arith, place_free)) (omega arith) (s.listed x (rw (progress_other marks y x Open n) at h))

      done : (j : ℕ) → j < count → IsDone marks' (placed order' j)
      done j h =
          let was = s.done j h in
          let same_mark = ap (progress marks') (before j h) ∙ kept (placed order j) (omega (arith, was)) in
          omega (arith, same_mark, was)

      within : (x : CellNo) → Seen marks' x → IsCell cells x
      within x h = go (same x y)
        where
          go : Dec (x ≡ y) → IsCell cells x
          go (yes e) = subst⁻¹ (IsCell cells) e is
          go (no n) = s.within x (rw (progress_other marks y x Open n) at h)

-- The cell on top is placed, where all that it needs is done: at most over its own place on the stack.
module _ {cells : List Cell} {marks : List Mark} {order : List ℕ} {top count : ℕ} (s : Searching cells marks order top count) (x : CellNo)
    (some : 0 < top) (last : waiting order top ≡ x) where
  open_top : IsOpen marks x
  open_top = ap (progress marks) (sym last) ∙ s.opened top some (omega arith)

  pub is_cell : IsCell cells x
  is_cell = s.within x (omega (arith, open_top))

  -- the placed cells end before the stack does
  pub in_order : count + top ≤ length order
  in_order = omega (arith, s.room, s.lent.deep)

  pub places : ((y : CellNo) → Needs cells x y → IsDone marks y)
      → Searching cells (set marks (of_cell x) Placed) (set order count (of_cell x)) (top - 1) (count + 1)
  places ready =
      record {
        stacked = stacked;
        opened = opened;
        apart = λ i k z h h' e.
            s.apart i k z h (omega arith) (sym (below i z (omega arith)) ∙ e ∙ below k (omega arith) h');
        way = λ k z h. needs_as (below k z (omega arith)) (below (k + 1) (omega arith) (omega arith)) (s.way k z (omega arith));
        listed = listed;
        done = done;
        once = once;
        after = after;
        within = within;
        room = omega (arith, s.room, unmet_again (length cells) marks (of_cell x) Placed (omega arith) (omega (arith, open_top)));
        lent = still_lent s.lent (length-set marks (of_cell x) Placed) long;
      }
    where
      marks' : List Mark
      marks' = set marks (of_cell x) Placed

      order' : List ℕ
      order' = set order count (of_cell x)

      long : length order' ≡ length order
      long = length-set order count (of_cell x)

      now_done : progress marks' x ≡ 2
      now_done = progress_same marks x Placed (seen_low marks x (omega (arith, open_top)))

      at_last : (j : ℕ) → j ≡ count → placed order' j ≡ x
      at_last j e = ap (placed order') e ∙ placed_same order count x (omega (arith, in_order))

      before : (j : ℕ) → j < count → placed order' j ≡ placed order j
      before j h = placed_other order j count x (λ e. omega arith)

      -- what waits below it stays
      below : (k : ℕ) → 0 < k → k ≤ top - 1 → waiting order' k ≡ waiting order k
      below k h h' =
          let here : length order' - k ≡ length order - k = omega (arith, long) in
          ap (placed order') here ∙ placed_other order (length order - k) count x (λ e. omega (arith, in_order))

      stacked : (y : CellNo) → IsOpen marks' y → Waits order' (top - 1) y
      stacked y h = go (same y x)
        where
          go : Dec (y ≡ x) → Waits order' (top - 1) y
          go (yes e) = absurd (omega (arith, ap (progress marks') e, now_done))
          go (no n) =
              let w = s.stacked y (sym (progress_other marks x y Placed n) ∙ h) in
              let other : w.depth ≡ top → ⊥ = λ e. n (sym w.is ∙ ap (waiting order) e ∙ last) in
              let low : w.depth ≤ top - 1 = omega (arith, w.low) in
              record { depth = w.depth; some = w.some; low = low; is = below w.depth w.some low ∙ w.is }

      opened : (k : ℕ) → 0 < k → k ≤ top - 1 → IsOpen marks' (waiting order' k)
      opened k z h =
          ap (progress marks') (below k z h)
          ∙ progress_other marks x (waiting order k) Placed (λ e. s.apart k top z (omega arith) (omega arith) (e ∙ sym last))
          ∙ s.opened k z (omega arith)

      listed : (y : CellNo) → IsDone marks' y → HasPlace order' (count + 1) y
      listed y h = go (same y x)
        where
          go : Dec (y ≡ x) → HasPlace order' (count + 1) y
          go (yes e) = record { place = count; low = omega arith; is = at_last count refl ∙ sym e }
          go (no n) = still_stands count (count + 1) x (omega arith) (omega arith) (s.listed y (rw (progress_other marks x y Placed n) at h))

      -- what was done is another cell than x
      other : (j : ℕ) → j < count → placed order j ≡ x → ⊥
      other j h e = omega (arith, s.done j h, ap (progress marks) e, open_top)

      done : (j : ℕ) → j < count + 1 → IsDone marks' (placed order' j)
      done j h = go (ℕ_discrete j count)
        where
          go : Dec (j ≡ count) → IsDone marks' (placed order' j)
          go (yes e) = omega (arith, ap (progress marks') (at_last j e), now_done)
          go (no n) =
              let j_low : j < count = omega arith in
              let same_mark : progress marks' (placed order' j) ≡ progress marks (placed order j) =
              ap (progress marks') (before j j_low) ∙ progress_other marks x (placed order j) Placed (other j j_low) in
              omega (arith, same_mark, s.done j j_low)

      once : (i j : ℕ) → i < j → j < count + 1 → placed order' i ≡ placed order' j → ⊥
      once i j h h' e = go (ℕ_discrete j count)
        where
          i_low : i < count
          i_low = omega arith

          go : Dec (j ≡ count) → ⊥
          go (yes q) = other i i_low (sym (before i i_low) ∙ e ∙ at_last j q)
          go (no n) = let j_low : j < count = omega arith in s.once i j h j_low (sym (before i i_low) ∙ e ∙ before j j_low)

      after : (j : ℕ) (y : CellNo) → j < count + 1 → Needs cells (placed order' j) y → HasPlace order' j y
      after j y h needs = go (ℕ_discrete j count)
        where
          go : Dec (j ≡ count) → HasPlace order' j y
          go (yes e) =
              still_stands count j x (omega arith) (omega arith) (s.listed y (ready y (needs_as (sym (at_last j e)) refl needs)))
          go (no n) =
              let j_low : j < count = omega arith in
              still_stands count j x (omega arith) (omega arith) (s.after j y j_low (needs_as (sym (before j j_low)) refl needs))

      within : (y : CellNo) → Seen marks' y → IsCell cells y
      within y h = go (same y x)
        where
          go : Dec (y ≡ x) → IsCell cells y
          go (yes e) = subst⁻¹ (IsCell cells) e is_cell
          go (no n) = s.within y (rw (progress_other marks x y Placed n) at h)

  -- The cell on top needs an open one: the stack is a way from that one back to it.
  pub comes_back : (y : CellNo) → Needs cells x y → IsOpen marks y → OnCycle cells y
  comes_back y needs is_open =
      let w = s.stacked y is_open in
      let goal : Reaches cells (waiting order w.depth) y = up (top - w.depth) w.depth w.some (omega (arith, w.low)) in
      subst (λ (z : CellNo). Reaches cells z y) w.is goal
    where
      up : (n k : ℕ) → 0 < k → k + n ≡ top → Reaches cells (waiting order k) y
      up zero k z e = let here : k ≡ top = omega arith in one (needs_as (ap (waiting order) here ∙ last) refl needs)
      up (suc n) k z e = more (s.way k z (omega arith)) (up n (k + 1) (omega arith) (omega arith))

-- A step deeper, and a step that places the cell on top.
module _ {cells : List Cell} {marks : List Mark} {order : List ℕ} {top count : ℕ} (s : Searching cells marks order top count) (some : 0 < top) where
  pub goes_deeper : (p : ℕ) (y : CellNo) → IsCell cells y → progress marks y ≡ 0 → p + (top + 1) ≡ length order → Needs cells (waiting order top) y
      → Went cells marks (set marks (of_cell y) Open) (set order p (of_cell y)) top (top + 1) count
  goes_deeper p y is new next needs =
      record {
        searching = opens s y is new p next (λ k z e. needs_as (ap (waiting order) e) refl needs);
        less = omega (arith, one_less s y is new);
        still = λ x h. still_seen marks y x Open (omega arith) (in_marks s y is new) h;
      }

  pub top_in_marks : of_cell (waiting order top) < length marks
  top_in_marks = omega (arith, is_cell s (waiting order top) some refl, s.lent.wide)

  pub places_top : ((y : CellNo) → Needs cells (waiting order top) y → IsDone marks y)
      → Went cells marks (set marks (of_cell (waiting order top)) Placed) (set order count (of_cell (waiting order top))) top (top - 1) (count + 1)
  places_top ready =
      let x : CellNo = waiting order top in
      record {
        searching = places s x some refl ready;
        less = omega (arith, unmet_again (length cells) marks (of_cell x) Placed (omega arith) (omega (arith, s.opened top some (omega arith))));
        still = λ y h. still_seen marks x y Placed (omega arith) top_in_marks h;
      }

-- A search is under way that began with the marks marks₀.
pub record Under (cells : List Cell) (marks₀ marks : List Mark) (order : List ℕ) (top count : ℕ) : Type 0 where
  pub searching : Searching cells marks order top count
  pub still : (y : CellNo) → Seen marks₀ y → Seen marks y

-- it began at x, which was new and was opened
pub under_begins : {cells : List Cell} {marks : List Mark} {order : List ℕ} {count : ℕ} (p : ℕ) (x : CellNo) → Searching cells marks order 0 count
    → IsCell cells x → progress marks x ≡ 0 → p + 1 ≡ length order
    → Under cells (set marks (of_cell x) Open) (set marks (of_cell x) Open) (set order p (of_cell x)) 1 count
under_begins p x s is new next = record { searching = opens s x is new p next (λ k z e. absurd (omega arith)); still = λ y h. h }

pub under_goes_on : {cells : List Cell} {marks₀ marks marks' : List Mark} {order order' : List ℕ} {top top' count count' : ℕ}
    → Under cells marks₀ marks order top count → Went cells marks marks' order' top top' count' → Under cells marks₀ marks' order' top' count'
under_goes_on u w = record { searching = w.searching; still = λ y h. w.still y (u.still y h) }

pub under_ends : {cells : List Cell} {marks marks' : List Mark} {order : List ℕ} {count : ℕ} (x : CellNo) → of_cell x < length marks
    → Under cells (set marks (of_cell x) Open) marks' order 0 count → Through cells marks marks' order x count
under_ends {marks = marks} x h u =
    record {
      searching = u.searching;
      seen = u.still x (omega (arith, progress_same marks x Open h));
      still = λ y s. u.still y (still_seen marks x y Open (omega arith) h s);
    }

-- The cells below i have been searched from.
pub record Upto (cells : List Cell) (marks : List Mark) (order : List ℕ) (count i : ℕ) : Type 0 where
  pub searching : Searching cells marks order 0 count
  pub seen : (k : ℕ) → k < i → Seen marks (cell_no k)

pub upto_more : {cells : List Cell} {marks marks' : List Mark} {order order' : List ℕ} {count count' i : ℕ} → Upto cells marks order count i
    → Through cells marks marks' order' (cell_no i) count' → Upto cells marks' order' count' (i + 1)
upto_more {marks' = marks'} {i = i} u t =
    record { searching = t.searching; seen = below_more (λ (k : ℕ). Seen marks' (cell_no k)) i (λ k h. t.still (cell_no k) (u.seen k h)) t.seen }

-- Every cell has been searched from.
pub all_placed : {cells : List Cell} {marks : List Mark} {order : List ℕ} {count : ℕ} → Searching cells marks order 0 count
    → ((i : ℕ) → i < length cells → Seen marks (cell_no i)) → Ordered cells order
all_placed {cells} {marks} {order} {count} s seen =
    record {
      cell = λ j h. s.within (placed order j) (omega (arith, s.done j (omega (arith, whole))));
      once = λ i j h h'. s.once i j h (omega (arith, whole));
      each = λ x h. let w = s.listed x (is_done x h) in (w.place, omega (arith, w.low, whole), w.is);
      after = λ j y h needs. let w = s.after j y (omega (arith, whole)) needs in (w.place, w.low, w.is);
    }
  where
    whole : count ≡ length cells
    whole = omega (arith, s.room, unmet_none (length cells) marks seen)

    -- no cell is open, since none is on the stack
    is_done : (x : CellNo) → IsCell cells x → IsDone marks x
    is_done x h = go (ℕ_discrete (progress marks x) 1)
      where
        go : Dec (IsOpen marks x) → IsDone marks x
        go (yes e) = let w = s.stacked x e in absurd (omega (arith, w.some, w.low))
        go (no n) = omega (arith, seen (of_cell x) h)
