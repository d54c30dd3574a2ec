-- The search for what a cell reaches, a law for each thing that it does: it begins, notes a cell, has noted both operands of one, takes one from the
-- stack, and ends with an empty stack. Then what is seen is what the cell reaches.
use Prim.Native.Nat.{ℕ, suc, ◌+◌, ◌-◌, ◌<◌, ◌≤◌}
use mathlib.Core.Path.{◌≡◌, refl, sym, ap, ◌∙◌, subst, subst⁻¹}
use mathlib.Core.List.{List}
use mathlib.Core.Logic.{◌⊎◌, inl, inr, ⊎_elim}
use native.Mathlib.Omega.{arith}
use native.Mathlib.Decide.{ℕ_discrete, dec_lt}
use borrow.Author.Count.{below_more}
use lib.ListN.{length, set, length-set}
use Rattle.number.specs.Counts.{cell_no, of_cell}
use Rattle.number.specs.declared.CellNo.{CellNo}
use Rattle.cells.specs.declared.Cell.{Cell}
use Rattle.cells.specs.Cells.{cell_at}
use Rattle.cells.specs.Needs.{IsCell, pins_of, Needs, Closed}
use Rattle.cells.proofs.Needing.{needs_cell, needs_as, needs_first, needs_second, needs_only, needs_none}
use Rattle.order.specs.Paths.{Reaches, one, more, OnCycle, placed}
use Rattle.order.specs.declared.Mark.{Mark}
use Rattle.order.specs.declared.Mark.TheVariants.{Open}
use Rattle.order.specs.Search.{WorkRoom, progress, IsUnmarked, Seen, HasPlace, unmet, HasCycle, Hunting, Noted, old, new, Expanded}
use Rattle.order.proofs.Columns.{same, progress_same, progress_other, still_seen, placed_same, placed_other, still_stands, unmet_new, unmet_all, still_lent}
use Rattle.std.specs.Prelude.{Some, None}

-- Nothing is marked.
hunt_begins : {cells : List Cell} {marks : List Mark} {stack : List ℕ} (c e : CellNo) → WorkRoom cells marks stack → IsUnmarked marks
    → Hunting cells c marks stack 0 e
hunt_begins {cells} {marks} c e l z =
    record {
      sound = λ x h. absurd (omega (arith, z (of_cell x)));
      closed = λ x y h. absurd (omega (arith, z (of_cell x)));
      waits = λ j h. absurd (omega arith);
      within = λ x h. absurd (omega (arith, z (of_cell x)));
      room = omega (arith, unmet_all (length cells) marks l.wide z);
      lent = l;
    }

-- There is room on the stack for a cell that is new.
pub note_room : {cells : List Cell} {marks : List Mark} {stack : List ℕ} {top : ℕ} (y : CellNo) → WorkRoom cells marks stack
    → top + unmet (length cells) marks ≤ length cells
    → IsCell cells y → progress marks y ≡ 0 → top < length stack
note_room {cells} {marks} y l room is fresh =
    omega (arith, unmet_new (length cells) marks (of_cell y) Open (omega arith) is (omega (arith, l.wide)) fresh, l.deep)

-- What noting a cell y leaves as it was, and what it changes.
noted_still : {marks : List Mark} {stack : List ℕ} {marks' : List Mark} {stack' : List ℕ} {top top' : ℕ} {y : CellNo} → of_cell y < length marks
    → Noted marks stack top y marks' stack' top'
    → (x : CellNo) → Seen marks x → Seen marks' x
noted_still h (old seen) x s = s
noted_still {marks} {y = y} h (new e) x s = still_seen marks y x Open (omega arith) h s

noted_seen : {marks : List Mark} {stack : List ℕ} {marks' : List Mark} {stack' : List ℕ} {top top' : ℕ} {y : CellNo} → of_cell y < length marks → Noted marks stack top y marks' stack' top'
    → Seen marks' y
noted_seen h (old seen) = seen
noted_seen {marks} {y = y} h (new e) = omega (arith, progress_same marks y Open h)

pub noted_lent : {cells : List Cell} {marks : List Mark} {stack : List ℕ} {marks' : List Mark} {stack' : List ℕ} {top top' : ℕ} {y : CellNo} → WorkRoom cells marks stack
    → Noted marks stack top y marks' stack' top' → WorkRoom cells marks' stack'
noted_lent l (old seen) = l
noted_lent {marks = marks} {stack} {top = top} {y = y} l (new e) = still_lent l (length-set marks (of_cell y) Open) (length-set stack top (of_cell y))

pub noted_even : {cells : List Cell} {marks : List Mark} {stack : List ℕ} {marks' : List Mark} {stack' : List ℕ} {top top' : ℕ} {y : CellNo} → WorkRoom cells marks stack → IsCell cells y
    → Noted marks stack top y marks' stack' top' → top' + unmet (length cells) marks' ≡ top + unmet (length cells) marks
noted_even l is (old seen) = refl
noted_even {cells} {marks} {y = y} l is (new e) =
    omega (arith, unmet_new (length cells) marks (of_cell y) Open (omega arith) is (omega (arith, l.wide)) e)

-- A new cell y that c reaches is marked and waits.
module _ {cells : List Cell} {marks : List Mark} {stack : List ℕ} {c e : CellNo} {top : ℕ} (h : Hunting cells c marks stack top e) (y : CellNo)
    (is : IsCell cells y) (fresh : progress marks y ≡ 0) (way : Reaches cells c y) where
  in_marks : of_cell y < length marks
  in_marks = omega (arith, h.lent.wide)

  in_stack : top < length stack
  in_stack = note_room y h.lent h.room is fresh

  one_less : suc (unmet (length cells) (set marks (of_cell y) Open)) ≡ unmet (length cells) marks
  one_less = unmet_new (length cells) marks (of_cell y) Open (omega arith) is in_marks fresh

  hunts_new : Hunting cells c (set marks (of_cell y) Open) (set stack top (of_cell y)) (top + 1) e
  hunts_new =
      record {
        sound = each (Reaches cells c) way h.sound;
        closed = λ x z s. each (λ (w : CellNo). Needs cells w z → Seen marks' z ⊎ (HasPlace stack' (top + 1) w ⊎ (w ≡ e))) (new_one z) (old_one z) x s;
        waits = waits;
        within = each (IsCell cells) is h.within;
        room = omega (arith, one_less, h.room);
        lent = still_lent h.lent (length-set marks (of_cell y) Open) (length-set stack top (of_cell y));
      }
    where
      marks' : List Mark
      marks' = set marks (of_cell y) Open

      stack' : List ℕ
      stack' = set stack top (of_cell y)

      kept : (x : CellNo) → Seen marks x → Seen marks' x
      kept x s = still_seen marks y x Open (omega arith) in_marks s

      -- what is seen is y, or was seen before
      each : (P : CellNo → Type 0) → P y → ((x : CellNo) → Seen marks x → P x) → (x : CellNo) → Seen marks' x → P x
      each P at_y before x s = go (same x y)
        where
          go : Dec (x ≡ y) → P x
          go (yes q) = subst⁻¹ P q at_y
          go (no n) = before x (rw (progress_other marks y x Open n) at s)

      new_one : (z : CellNo) → Needs cells y z → Seen marks' z ⊎ (HasPlace stack' (top + 1) y ⊎ (y ≡ e))
      new_one z needs = inr (inl (record { place = top; low = omega arith; is = placed_same stack top y in_stack }))

      old_one : (z w : CellNo) → Seen marks w → Needs cells w z → Seen marks' z ⊎ (HasPlace stack' (top + 1) w ⊎ (w ≡ e))
      old_one z w s needs =
          ⊎_elim (λ t. inl (kept z t)) (λ t. inr (⊎_elim (λ u. inl (still_stands top (top + 1) y (omega arith) (omega arith) u)) (λ q. inr q) t))
          (h.closed w z s needs)

      waits : (j : ℕ) → j < top + 1 → Seen marks' (placed stack' j)
      waits j low = go (ℕ_discrete j top)
        where
          here : Seen marks' y
          here = omega (arith, progress_same marks y Open in_marks)

          go : Dec (j ≡ top) → Seen marks' (placed stack' j)
          go (yes q) = subst⁻¹ (Seen marks') (ap (placed stack') q ∙ placed_same stack top y in_stack) here
          go (no n) = subst⁻¹ (Seen marks') (placed_other stack j top y n) (kept (placed stack j) (h.waits j (omega arith)))

noted_hunting : {cells : List Cell} {marks : List Mark} {stack : List ℕ} {marks' : List Mark} {stack' : List ℕ} {c e : CellNo} {top top' : ℕ} {y : CellNo}
    → Hunting cells c marks stack top e
    → IsCell cells y → Reaches cells c y → Noted marks stack top y marks' stack' top' → Hunting cells c marks' stack' top' e
noted_hunting h is way (old seen) = h
noted_hunting {y = y} h is way (new fresh) = hunts_new h y is fresh way

-- All that x needs is seen: x is no exception any more.
no_exception : {cells : List Cell} {marks : List Mark} {stack : List ℕ} {c x : CellNo} {top : ℕ} → Hunting cells c marks stack top x
    → ((y : CellNo) → Needs cells x y → Seen marks y) → Hunting cells c marks stack top (cell_no (length cells))
no_exception {cells} {marks} {stack} {c} {x} {top} h all =
    record { sound = h.sound; closed = closed; waits = h.waits; within = h.within; room = h.room; lent = h.lent }
  where
    closed : (w y : CellNo) → Seen marks w → Needs cells w y → Seen marks y ⊎ (HasPlace stack top w ⊎ (w ≡ cell_no (length cells)))
    closed w y s needs =
        ⊎_elim (λ t. inl t) (⊎_elim (λ t. inr (inl t)) (λ q. inl (all y (needs_as (sym q) refl needs)))) (h.closed w y s needs)

pub expand_none : {cells : List Cell} {marks : List Mark} {stack : List ℕ} {top : ℕ} (x : CellNo) → pins_of (cell_at cells x) ≡ None
    → Expanded cells marks stack top x marks stack top
expand_none {cells} {marks} x pins = record { hunting = λ c h way. no_exception h all; needs = all; still = λ y s. s; even = refl }
  where
    all : (y : CellNo) → Needs cells x y → Seen marks y
    all y needs = absurd (needs_none pins needs)

pub expand_both : {cells : List Cell} {marks marks₁ marks₂ : List Mark} {stack stack₁ stack₂ : List ℕ} {top top₁ top₂ : ℕ} {x a b : CellNo} → Closed cells
    → WorkRoom cells marks stack → pins_of (cell_at cells x) ≡ Some (a, b) → Noted marks stack top a marks₁ stack₁ top₁
    → Noted marks₁ stack₁ top₁ b marks₂ stack₂ top₂ → Expanded cells marks stack top x marks₂ stack₂ top₂
expand_both {cells} {marks} {marks₁} {marks₂} {stack} {stack₁} {stack₂} {top} {top₁} {top₂} {x} {a} {b} closed l pins p q =
    record {
      hunting = λ c h way. no_exception (both c h way) all;
      needs = all;
      still = λ y s. noted_still in_b q y (noted_still in_a p y s);
      even = noted_even l₁ is_b q ∙ noted_even l is_a p;
    }
  where
    is_a : IsCell cells a
    is_a = closed.gates x a (needs_first pins)

    is_b : IsCell cells b
    is_b = closed.gates x b (needs_second pins)

    l₁ : WorkRoom cells marks₁ stack₁
    l₁ = noted_lent l p

    in_a : of_cell a < length marks
    in_a = omega (arith, is_a, l.wide)

    in_b : of_cell b < length marks₁
    in_b = omega (arith, is_b, l₁.wide)

    all : (y : CellNo) → Needs cells x y → Seen marks₂ y
    all = needs_only pins (Seen marks₂) (noted_still in_b q a (noted_seen in_a p)) (noted_seen in_b q)

    both : (c : CellNo) → Hunting cells c marks stack top x → ((y : CellNo) → Needs cells x y → Reaches cells c y)
        → Hunting cells c marks₂ stack₂ top₂ x
    both c h way = noted_hunting (noted_hunting h is_a (way a (needs_first pins)) p) is_b (way b (needs_second pins)) q

-- Between two cells: all that c needs is seen, and no cell is an exception.
pub record Between (cells : List Cell) (c : CellNo) (marks : List Mark) (stack : List ℕ) (top : ℕ) : Type 0 where
  pub hunting : Hunting cells c marks stack top (cell_no (length cells))
  pub first : (y : CellNo) → Needs cells c y → Seen marks y

pub between_begins : {cells : List Cell} {marks marks' : List Mark} {stack stack' : List ℕ} {top : ℕ} (c : CellNo) → WorkRoom cells marks stack → IsUnmarked marks
    → Expanded cells marks stack 0 c marks' stack' top → Between cells c marks' stack' top
between_begins c l z ex = record { hunting = ex.hunting c (hunt_begins c c l z) (λ y needs. one needs); first = ex.needs }

join : {cells : List Cell} {x y z : CellNo} → Reaches cells x y → Needs cells y z → Reaches cells x z
join (one h) needs = more h (one needs)
join (more h way) needs = more h (join way needs)

-- what is seen and does not wait has all that it needs seen
settled : {cells : List Cell} {marks : List Mark} {stack : List ℕ} {c : CellNo} {top : ℕ} → Between cells c marks stack top → (x y : CellNo) → Seen marks x
    → Needs cells x y → Seen marks y ⊎ HasPlace stack top x
settled b x y s needs =
    ⊎_elim (λ t. inl t) (⊎_elim (λ t. inr t) (λ e. absurd (omega (arith, b.hunting.within x s, ap of_cell e)))) (b.hunting.closed x y s needs)

-- The cell on top is taken from the stack.
module _ {cells : List Cell} {marks : List Mark} {stack : List ℕ} {c : CellNo} {top : ℕ} (b : Between cells c marks stack top) (x : CellNo) (some : 0 < top)
    (last : placed stack (top - 1) ≡ x) where
  taken_seen : Seen marks x
  taken_seen = subst (Seen marks) last (b.hunting.waits (top - 1) (omega arith))

  taken_way : (y : CellNo) → Needs cells x y → Reaches cells c y
  taken_way y needs = join (b.hunting.sound x taken_seen) needs

  taken : Hunting cells c marks stack (top - 1) x
  taken =
      record {
        sound = b.hunting.sound;
        closed = closed;
        waits = λ j h. b.hunting.waits j (omega arith);
        within = b.hunting.within;
        room = omega (arith, b.hunting.room);
        lent = b.hunting.lent;
      }
    where
      closed : (w y : CellNo) → Seen marks w → Needs cells w y → Seen marks y ⊎ (HasPlace stack (top - 1) w ⊎ (w ≡ x))
      closed w y s needs = ⊎_elim (λ t. inl t) (λ t. inr (go t (ℕ_discrete t.place (top - 1)))) (settled b w y s needs)
        where
          go : (t : HasPlace stack top w) → Dec (t.place ≡ top - 1) → HasPlace stack (top - 1) w ⊎ (w ≡ x)
          go t (yes e) = inr (sym t.is ∙ ap (placed stack) e ∙ last)
          go t (no n) = inl (record { place = t.place; low = omega (arith, t.low); is = t.is })

pub goes_on : {cells : List Cell} {marks marks' : List Mark} {stack stack' : List ℕ} {c : CellNo} {top top' : ℕ} (x : CellNo)
    → Between cells c marks stack top → 0 < top
    → placed stack (top - 1) ≡ x → Expanded cells marks stack (top - 1) x marks' stack' top' → Between cells c marks' stack' top'
goes_on {c = c} x b some last ex =
    record {
      hunting = ex.hunting c (taken b x some last) (taken_way b x some last);
      first = λ y needs. ex.still y (b.first y needs);
    }

-- Nothing waits: all that c reaches is seen.
module _ {cells : List Cell} {marks : List Mark} {stack : List ℕ} {c : CellNo} (b : Between cells c marks stack 0) where
  follow : {x z : CellNo} → Seen marks x → Reaches cells x z → Seen marks z
  follow {x} {z} s (one needs) = ⊎_elim (λ t. t) (λ t. absurd (omega (arith, t.low))) (settled b x z s needs)
  follow {x} {z} s (more {y = y} needs way) =
      follow (⊎_elim (λ t. t) (λ t. absurd (omega (arith, t.low))) (settled b x y s needs)) way

  pub all_seen : {z : CellNo} → Reaches cells c z → Seen marks z
  all_seen {z} (one needs) = b.first z needs
  all_seen {z} (more {y = y} needs way) = follow (b.first y needs) way

-- Cell by cell: none of those below i is on a cycle.
pub record Passed (cells : List Cell) (i : ℕ) : Type 0 where
  pub free : (k : ℕ) → k < i → OnCycle cells (cell_no k) → ⊥

pub passed_more : {cells : List Cell} {i : ℕ} → Passed cells i → (OnCycle cells (cell_no i) → ⊥) → Passed cells (i + 1)
passed_more {cells} {i} p here = record { free = below_more (λ (k : ℕ). OnCycle cells (cell_no k) → ⊥) i p.free here }

on_cycle_cell : {cells : List Cell} {x : CellNo} → OnCycle cells x → IsCell cells x
on_cycle_cell (one needs) = needs_cell needs
on_cycle_cell (more needs way) = needs_cell needs

-- so where some cell is on a cycle i is a cell
pub passed_low : {cells : List Cell} {i : ℕ} → Passed cells i → HasCycle cells → i < length cells
passed_low {cells} {i} p (x, on) = go (dec_lt (of_cell x) i)
  where
    go : Dec (of_cell x < i) → i < length cells
    go (yes h) = absurd (p.free (of_cell x) h on)
    go (no n) = omega (arith, on_cycle_cell on)
