-- There is an answer for all closed cells, as a fact about the definitions: the searches' own laws, followed by functions. So cells
-- without a cycle have an order.
use Prim.Native.Nat.{ℕ, suc, zero, ◌+◌, ◌-◌, ◌<◌, ◌≤◌}
use mathlib.Core.Path.{◌≡◌, refl, subst}
use mathlib.Core.List.{List}
use mathlib.Core.Logic.{◌⊎◌, inl, inr, ⊎_elim}
use native.Mathlib.Omega.{arith}
use native.Mathlib.Decide.{dec_lt}
use lib.ListN.{length, set, replicate, length-replicate}
use Rattle.number.specs.Counts.{cell_no, of_cell}
use Rattle.number.specs.declared.CellNo.{CellNo}
use Rattle.cells.specs.declared.Cell.{Cell}
use Rattle.cells.specs.Cells.{cell_at}
use Rattle.cells.specs.Needs.{IsCell, pins_of, Needs, Closed}
use Rattle.cells.proofs.Needing.{needs_first, needs_second, needs_only, needs_none}
use Rattle.order.specs.Paths.{OnCycle, Lowest, placed, Ordered, Answers}
use Rattle.order.specs.declared.Mark.{Mark}
use Rattle.order.specs.declared.Mark.TheVariants.{New, Open}
use Rattle.order.specs.Search.{WorkRoom, progress, IsOpen, IsDone, waiting, unmet, Searching, HasCycle, left, Went, Through, Noted, old, new}
use Rattle.order.specs.Search.{Expanded}
use Rattle.order.proofs.Columns.{new_marks}
use Rattle.order.proofs.Searches.{begins, place_free, goes_deeper, places_top, comes_back, Under, under_begins, under_goes_on, under_ends}
use Rattle.order.proofs.Searches.{Upto, upto_more, all_placed}
use Rattle.order.proofs.Hunts.{expand_none, expand_both, Between, between_begins, goes_on, all_seen, Passed, passed_more, passed_low}
use Rattle.order.proofs.Unique.{answers_found, answers_cycle, answer_found}
use Rattle.order.specs.declared.Cycle.{Cycle}
use Rattle.std.specs.Prelude.{Option, Some, None, Result, Ok, Err}

module _ {cells : List Cell} (closed : Closed cells) where
  -- what is next for the cell x: an operand that is new, one that is open, or nothing is left to do
  data Next (marks : List Mark) (x : CellNo) : Type 0 where
    fresh : (y : CellNo) → Needs cells x y → progress marks y ≡ 0 → Next marks x
    back : (y : CellNo) → Needs cells x y → IsOpen marks y → Next marks x
    clear : ((y : CellNo) → Needs cells x y → IsDone marks y) → Next marks x

  look : (marks : List Mark) (x : CellNo) → Next marks x
  look marks x = go (pins_of (cell_at cells x)) refl
    where
      second : (a b : CellNo) → pins_of (cell_at cells x) ≡ Some (a, b) → IsDone marks a → (m : ℕ) → progress marks b ≡ m → Next marks x
      second a b pins done zero e = fresh b (needs_second pins) e
      second a b pins done (suc zero) e = back b (needs_second pins) e
      second a b pins done (suc (suc m)) e = clear (needs_only pins (IsDone marks) done (omega (arith, e)))

      first : (a b : CellNo) → pins_of (cell_at cells x) ≡ Some (a, b) → (m : ℕ) → progress marks a ≡ m → Next marks x
      first a b pins zero e = fresh a (needs_first pins) e
      first a b pins (suc zero) e = back a (needs_first pins) e
      first a b pins (suc (suc m)) e = second a b pins (omega (arith, e)) (progress marks b) refl

      go : (p : Option (CellNo × CellNo)) → pins_of (cell_at cells x) ≡ p → Next marks x
      go None e = clear (λ y needs. absurd (needs_none e needs))
      go (Some (a, b)) e = first a b e (progress marks a) refl

  -- a search that has ended
  record Finished (marks₀ : List Mark) : Type 0 where
    marks : List Mark
    order : List ℕ
    count : ℕ
    under : Under cells marks₀ marks order 0 count

  ended : {marks₀ marks : List Mark} {order : List ℕ} {top count : ℕ} → Under cells marks₀ marks order top count → top ≡ 0 → Finished marks₀
  ended {marks₀} {marks} {order} {count = count} u e =
      let under = subst (λ (n : ℕ). Under cells marks₀ marks order n count) e u in
      record { marks = marks; order = order; count = count; under = under }

  -- one step, from which the search goes on
  module _ {marks₀ marks : List Mark} {order : List ℕ} {top count : ℕ} (u : Under cells marks₀ marks order top count)
      (on : (marks' : List Mark) (order' : List ℕ) (top' count' : ℕ) → Went cells marks marks' order' top top' count' → HasCycle cells ⊎ Finished marks₀)
    where
      abbrev x : CellNo
      x = waiting order top

      step : 0 < top → Next marks x → HasCycle cells ⊎ Finished marks₀
      step some (fresh y needs is_new) =
          let is = closed.gates x y needs in
          let free = place_free u.searching y is is_new in
          on _ _ _ _ (goes_deeper u.searching some (length order - (top + 1)) y is is_new (omega (arith, free)) needs)
      step some (back y needs is_open) = inl (y, comes_back u.searching x some refl y needs is_open)
      step some (clear done) = on _ _ _ _ (places_top u.searching some done)

      turn : Dec (0 < top) → HasCycle cells ⊎ Finished marks₀
      turn (yes some) = step some (look marks x)
      turn (no none) = inr (ended u (omega arith))

  -- it ends, since each step leaves less to do
  search : (fuel : ℕ) {marks₀ marks : List Mark} {order : List ℕ} {top count : ℕ} → left cells marks top ≤ fuel → Under cells marks₀ marks order top count
      → HasCycle cells ⊎ Finished marks₀
  search zero few u = inr (ended u (omega arith))
  search (suc fuel) {top = top} few u =
      turn u (λ marks' order' top' count' w. search fuel (omega (arith, w.less)) (under_goes_on u w)) (dec_lt 0 top)

  record HasOrder : Type 0 where
    order : List ℕ
    ordered : Ordered cells order

  -- from each cell in turn
  record Visited (i : ℕ) : Type 0 where
    marks : List Mark
    order : List ℕ
    count : ℕ
    upto : Upto cells marks order count i

  visit : (i : ℕ) → IsCell cells (cell_no i) → Visited i → HasCycle cells ⊎ Visited (i + 1)
  visit i is v = go (progress v.marks (cell_no i)) refl
    where
      now : Searching cells v.marks v.order 0 v.count
      now = v.upto.searching

      wide : i < length v.marks
      wide = omega (arith, now.lent.wide)

      further : {marks : List Mark} {order : List ℕ} {count : ℕ} → Through cells v.marks marks order (cell_no i) count → Visited (i + 1)
      further {marks} {order} {count} t = record { marks = marks; order = order; count = count; upto = upto_more v.upto t }

      after : HasCycle cells ⊎ Finished (set v.marks i Open) → HasCycle cells ⊎ Visited (i + 1)
      after (inl cycle) = inl cycle
      after (inr f) = inr (further (under_ends (cell_no i) wide f.under))

      go : (m : ℕ) → progress v.marks (cell_no i) ≡ m → HasCycle cells ⊎ Visited (i + 1)
      go zero e =
          let end : ℕ = length v.order - 1 in
          let begun = under_begins end (cell_no i) now is e (omega (arith, place_free now (cell_no i) is e)) in
          after (search (left cells (set v.marks i Open) 1) (omega arith) begun)
      go (suc m) e = inr (further (record { searching = now; seen = omega (arith, e); still = λ y h. h }))

  -- k are left
  place : (k i : ℕ) → i + k ≡ length cells → Visited i → HasCycle cells ⊎ HasOrder
  place zero i all v = inr (record { order = v.order; ordered = all_placed v.upto.searching (λ j h. v.upto.seen j (omega arith)) })
  place (suc k) i all v = ⊎_elim (λ cycle. inl cycle) (λ next. place k (i + 1) (omega arith) next) (visit i (omega arith) v)

  module _ (few : length cells ≤ 65536) where
    abbrev nothing : List ℕ
    nothing = replicate (length cells) 0

    long : length nothing ≡ length cells
    long = length-replicate {A = ℕ} (length cells) 0

    abbrev unmarked : List Mark
    unmarked = replicate (length cells) New

    lent : WorkRoom cells unmarked nothing
    lent = record { few = few; wide = omega (arith, length-replicate {A = Mark} (length cells) New); deep = omega (arith, long) }

    cycle_or_order : HasCycle cells ⊎ HasOrder
    cycle_or_order =
        let first : Upto cells unmarked nothing 0 0 = record { searching = begins lent (new_marks (length cells)); seen = λ k h. absurd (omega arith) } in
        place (length cells) 0 (omega arith) (record { marks = unmarked; order = nothing; count = 0; upto = first })

  -- Whether a cell reaches itself: y is noted, and all that x needs is.
  record Noting (marks : List Mark) (stack : List ℕ) (top : ℕ) (y : CellNo) : Type 0 where
    marks' : List Mark
    stack' : List ℕ
    top' : ℕ
    noted : Noted marks stack top y marks' stack' top'

  note : (marks : List Mark) (stack : List ℕ) (top : ℕ) (y : CellNo) → Noting marks stack top y
  note marks stack top y = go (progress marks y) refl
    where
      go : (m : ℕ) → progress marks y ≡ m → Noting marks stack top y
      go zero e = record { marks' = set marks (of_cell y) Open; stack' = set stack top (of_cell y); top' = top + 1; noted = new e }
      go (suc m) e = record { marks' = marks; stack' = stack; top' = top; noted = old (omega (arith, e)) }

  record Expanding (marks : List Mark) (stack : List ℕ) (top : ℕ) (x : CellNo) : Type 0 where
    marks' : List Mark
    stack' : List ℕ
    top' : ℕ
    expanded : Expanded cells marks stack top x marks' stack' top'

  expand : (marks : List Mark) (stack : List ℕ) (top : ℕ) (x : CellNo) → WorkRoom cells marks stack → Expanding marks stack top x
  expand marks stack top x room = go (pins_of (cell_at cells x)) refl
    where
      go : (p : Option (CellNo × CellNo)) → pins_of (cell_at cells x) ≡ p → Expanding marks stack top x
      go None e = record { marks' = marks; stack' = stack; top' = top; expanded = expand_none x e }
      go (Some (a, b)) e =
          let p = note marks stack top a in
          let q = note p.marks' p.stack' p.top' b in
          record { marks' = q.marks'; stack' = q.stack'; top' = q.top'; expanded = expand_both closed room e p.noted q.noted }

  -- nothing waits: what is seen is what the cell reaches
  decided : {marks : List Mark} {stack : List ℕ} {top : ℕ} {c : CellNo} → Between cells c marks stack top → top ≡ 0 → Dec (OnCycle cells c)
  decided {marks} {stack} {top} {c} b e = go (progress marks c) refl
    where
      go : (m : ℕ) → progress marks c ≡ m → Dec (OnCycle cells c)
      go zero is = no (λ on. omega (arith, is, all_seen (subst (Between cells c marks stack) e b) on))
      go (suc m) is = yes (b.hunting.sound c (omega (arith, is)))

  module _ {marks : List Mark} {stack : List ℕ} {top : ℕ} {c : CellNo} (b : Between cells c marks stack top)
      (on : (marks' : List Mark) (stack' : List ℕ) (top' : ℕ) → top' + unmet (length cells) marks' < top + unmet (length cells) marks → Between cells c marks' stack' top'
      → Dec (OnCycle cells c)) where
    take_one : Dec (0 < top) → Dec (OnCycle cells c)
    take_one (no none) = decided b (omega arith)
    take_one (yes some) =
        let x : CellNo = placed stack (top - 1) in
        let e = expand marks stack (top - 1) x b.hunting.lent in
        on e.marks' e.stack' e.top' (omega (arith, e.expanded.even)) (goes_on x b some refl e.expanded)

  hunt : (fuel : ℕ) {marks : List Mark} {stack : List ℕ} {top : ℕ} {c : CellNo} → top + unmet (length cells) marks ≤ fuel
      → Between cells c marks stack top → Dec (OnCycle cells c)
  hunt zero few b = decided b (omega arith)
  hunt (suc fuel) {marks} {top = top} few b = take_one b (λ marks' stack' top' less next. hunt fuel (omega arith) next) (dec_lt 0 top)

  module _ (few : length cells ≤ 65536) where
    on_cycle : (c : CellNo) → Dec (OnCycle cells c)
    on_cycle c =
        let e = expand (unmarked few) (nothing few) 0 c (lent few) in
        hunt (e.top' + unmet (length cells) e.marks') (omega arith) (between_begins c (lent few) (new_marks (length cells)) e.expanded)

    record HasLowest : Type 0 where
      cell : CellNo
      lowest : Lowest cells cell

    here_or_on : (i : ℕ) → Passed cells i → Dec (OnCycle cells (cell_no i)) → (Passed cells (i + 1) → HasLowest) → HasLowest
    here_or_on i p (yes on) further = record { cell = cell_no i; lowest = record { on = on; below = λ y h. p.free (of_cell y) h } }
    here_or_on i p (no off) further = further (passed_more p off)

    -- none below i is on a cycle, and k are left
    lowest_from : (k i : ℕ) → i + k ≡ length cells → Passed cells i → HasCycle cells → HasLowest
    lowest_from zero i all p cycle = absurd (omega (arith, passed_low p cycle))
    lowest_from (suc k) i all p cycle = here_or_on i p (on_cycle (cell_no i)) (λ more. lowest_from k (i + 1) (omega arith) more cycle)

-- an answer that satisfies the description
pub record Answered (cells : List Cell) : Type 0 where
  pub order : List ℕ
  pub answer : Result (Unit {0}) Cycle
  pub is : Answers cells order answer

-- There is one for all cells whose operands are cells.
pub answered : {cells : List Cell} → Closed cells → length cells ≤ 65536 → Answered cells
answered {cells} closed few = go (cycle_or_order closed few)
  where
    go : HasCycle cells ⊎ HasOrder closed → Answered cells
    go (inl cycle) =
        let l = lowest_from closed few (length cells) 0 (omega arith) (record { free = λ k h. absurd (omega arith) }) cycle in
        record { order = nothing closed few; answer = Err (record { lowest = l.cell }); is = answers_cycle l.lowest }
    go (inr o) = record { order = o.order; answer = Ok tt; is = answers_found o.ordered }

-- And where no cell reaches itself it is an order.
pub acyclic_ordered : {cells : List Cell} (a : Answered cells) → ((x : CellNo) → OnCycle cells x → ⊥) → Ordered cells a.order
acyclic_ordered a free = a.is.found (answer_found a.answer a.is free)
