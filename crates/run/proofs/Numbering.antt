-- The registers' bits and operands, found in one pass over the cells; and the next state that the operands feed.
use Prim.Native.Nat.{ℕ, zero, suc, ◌+◌, ◌<◌, ◌≤◌}
use mathlib.Core.Path.{◌≡◌, refl, sym, ap, ap₂, ◌∙◌, subst}
use mathlib.Core.Bool.{Bool, false, ◌&&◌, ◌||◌, or-false}
use mathlib.Core.List.{List, [], ◌∷◌, ◌++◌, map}
use native.Mathlib.Omega.{arith}
use native.Mathlib.Decide.{dec_lt, ℕ_discrete}
use lib.Dec.{eqb, ltb}
use lib.ListN.{length, get_or, take, set, length-set, length-append, length-map, get_or-eq_default}
use lib.Seq.{sets, sets-eq, length-sets, length-take-le, take_all, take_at, get_or-set_same, get_or-set_other}
use borrow.Author.Tests.{eq-eqb, ne_eqb, lt-ltb, le-ltb}
use Rattle.number.specs.Counts.{cell_no, of_cell}
use Rattle.number.specs.declared.CellNo.{CellNo}
use Rattle.number.specs.declared.SignalNo.{SignalNo}
use Rattle.bits.specs.Bits.{has, signals_in}
use Rattle.bits.proofs.Laws.{empty}
use Rattle.cells.specs.declared.Cell.{Cell}
use Rattle.cells.specs.declared.Cell.TheVariants.{Low, High, Input, Gate, Register}
use Rattle.cells.specs.Cells.{cell_at}
use Rattle.cells.specs.Values.{tally, registers, before, Solves, operands_of, next_of}
use Rattle.run.specs.Words.{outputs_of}
use Rattle.run.specs.React.{Clock, fed, Numberable, Numbers}
use Rattle.cells.proofs.Counting.{one_more, operands_append, one_length}
use Rattle.run.proofs.Counting.{Counted, counted_none, counted_next, counted_room, counted_all}

-- a cell that is no register leaves the operands as they are ..
pub not_kept : (l : List ℕ) (k : ℕ) (c : Cell) → ((x : CellNo) → c ≡ Register x → ⊥) → (k ≡ tally c k) × (l ≡ sets l k (operands_of (c ∷ [])))
unfolding operands_of
not_kept l k Low other = (refl, refl)
not_kept l k High other = (refl, refl)
not_kept l k (Input s) other = (refl, refl)
not_kept l k (Gate g x y) other = (refl, refl)
not_kept l k (Register x) other = absurd (other x refl)

-- .. and a register adds its own
pub one_kept : (l : List ℕ) (k : ℕ) {c : Cell} {x : CellNo} {n : ℕ} → c ≡ Register x → n ≡ of_cell x
    → (k + 1 ≡ tally c k) × (set l k n ≡ sets l k (operands_of (c ∷ [])))
unfolding operands_of
one_kept l k is number = rw (is, number) (omega arith, refl)

-- what is laid behind the first k entries
pub laid_more : (l xs : List ℕ) (k : ℕ) → k + length xs ≤ length l → take (k + length xs) (sets l k xs) ≡ take k l ++ xs
laid_more l xs k room =
    let long : length (take k l ++ xs) ≡ k + length xs = length-append (take k l) xs ∙ ap (λ (n : ℕ). n + length xs) (length-take-le k l (omega arith)) in
    rw (sets-eq xs l k room) (take_at (take k l ++ xs) _ (k + length xs) long)

-- the pass has come to cell i, and to register k
pub record Numbering (cells : List Cell) (bits operands : List ℕ) (k i : ℕ) : Type 0 where
  pub counted : Counted cells k i
  pub places : length cells ≤ length bits
  pub room : registers cells ≤ length operands
  pub bit : (x : CellNo) → of_cell x < i → get_or bits (of_cell x) 0 ≡ before cells x
  pub feeds : take k operands ≡ operands_of (take i cells)

module _ {cells : List Cell} {bits operands : List ℕ} where
  pub numbering_none : Numberable cells bits operands → Numbering cells bits operands 0 0
  unfolding operands_of
  numbering_none n =
      record { counted = counted_none cells; places = n.places; room = n.room; bit = λ x h. absurd (omega arith); feeds = refl }

  pub numbering_next : {k i : ℕ} (c : Cell) {operands' : List ℕ} → Numbering cells bits operands k i → i < length cells → c ≡ cell_at cells (cell_no i)
      → operands' ≡ sets operands k (operands_of (c ∷ [])) → Numbering cells (set bits i k) operands' (tally c k) (i + 1)
  numbering_next {k} {i} c {operands'} n h e laid =
      record {
        counted = counted_next c n.counted h e;
        places = omega (arith, length-set bits i k, n.places);
        room = omega (arith, ap length laid, length-sets operands k (operands_of (c ∷ [])), n.room);
        bit = λ x l. at x l (ℕ_discrete (of_cell x) i);
        feeds = rw laid (rw (← (one_length c k)) (laid_more operands (operands_of (c ∷ [])) k fits ∙ more));
      }
    where
      fits : k + length (operands_of (c ∷ [])) ≤ length operands
      fits = omega (arith, one_length c k, counted_room c n.counted h e, n.room)

      more : take k operands ++ operands_of (c ∷ []) ≡ operands_of (take (i + 1) cells)
      more =
          ap₂ {C = List ℕ} (λ (a : List ℕ) (x : Cell). a ++ operands_of (x ∷ [])) n.feeds e ∙ sym (operands_append (take i cells) (cell_at cells (cell_no i) ∷ []))
          ∙ sym (ap operands_of (one_more cells i h))

      at : (x : CellNo) → of_cell x < i + 1 → Dec (of_cell x ≡ i) → get_or (set bits i k) (of_cell x) 0 ≡ before cells x
      at x l (yes y) =
          subst (λ (m : ℕ). get_or (set bits i k) m 0 ≡ registers (take m cells)) (sym y)
          (get_or-set_same bits i k 0 (omega (arith, n.places)) ∙ n.counted.count)
      at x l (no y) = get_or-set_other bits i (of_cell x) k 0 y ∙ n.bit x (omega arith)

  pub numbering_all : {k i : ℕ} → Numbering cells bits operands k i → length cells ≤ i → Numbers cells bits operands k
  numbering_all {k} {i} n h =
      record {
        numbered = record { long = n.places; bit = λ x l. n.bit x (omega arith) };
        count = counted_all n.counted h;
        feeds = n.feeds ∙ ap operands_of (take_all i cells h);
      }

-- an entry of a list of values
at_entry : (f : ℕ → Bool) (l : List ℕ) (n : ℕ) → n < length l → get_or (map f l) n false ≡ f (get_or l n 0)
at_entry f [] n h = absurd (omega arith)
at_entry f (x ∷ l) zero h = refl
at_entry f (x ∷ l) (suc n) h = at_entry f l n (omega arith)

-- what they feed is the next state
fed_next : (v : CellNo → Bool) (cells : List Cell) {l : List ℕ} → l ≡ operands_of cells → (b : ℕ) → fed l v b ≡ next_of v cells b
fed_next v cells {l} e b = go (dec_lt b (length l)) ∙ sym (ap (λ (bs : List Bool). get_or bs b false) (sym (ap (map f) e)))
  where
    f : ℕ → Bool
    f x = v (cell_no x)

    go : Dec (b < length l) → fed l v b ≡ get_or (map f l) b false
    go (yes h) = rw (lt-ltb b (length l) h) (sym (at_entry f l b h))
    go (no h) = rw (le-ltb b (length l) (omega arith)) (sym (get_or-eq_default (map f l) false {n = b} (omega (arith, length-map l f))))

-- the state has come to bit k
pub record Feeding (operands : List ℕ) (v : CellNo → Bool) (w k : ℕ) : Type 0 where
  pub upto : k ≤ length operands
  pub bits : (b : ℕ) → has w b ≡ (ltb b k && v (cell_no (get_or operands b 0)))

module _ {operands : List ℕ} {v : CellNo → Bool} where
  pub feeding_none : Feeding operands v 0 0
  feeding_none = record { upto = omega arith; bits = λ b. empty b ∙ rw (le-ltb b 0 (omega arith)) refl }

  pub feeding_next : {w k : ℕ} (w' : ℕ) → Feeding operands v w k → k < length operands
      → ((b : ℕ) → has w' b ≡ (has w b || (eqb b k && v (cell_no (get_or operands k 0))))) → Feeding operands v w' (k + 1)
  feeding_next {w} {k} w' s h f = record { upto = omega arith; bits = λ b. f b ∙ rw (s.bits b) (go b (dec_lt b k) (ℕ_discrete b k)) }
    where
      go : (b : ℕ) → Dec (b < k) → Dec (b ≡ k)
          → ((ltb b k && v (cell_no (get_or operands b 0))) || (eqb b k && v (cell_no (get_or operands k 0)))) ≡ (ltb b (k + 1) && v (cell_no (get_or operands b 0)))
      go b (yes l) d = rw (ne_eqb b k (λ e. omega arith), lt-ltb b k l, lt-ltb b (k + 1) (omega arith), or-false)
      go b (no l) (yes e) = rw (e, eq-eqb k k refl, le-ltb k k (omega arith), lt-ltb k (k + 1) (omega arith))
      go b (no l) (no e) = rw (ne_eqb b k e, le-ltb b k (omega arith), le-ltb b (k + 1) (omega arith))

  pub feeding_all : {w k : ℕ} → Feeding operands v w k → length operands ≤ k → (b : ℕ) → has w b ≡ fed operands v b
  feeding_all {w} {k} s h b =
      let all : k ≡ length operands = omega (arith, s.upto) in
      s.bits b ∙ ap (λ (n : ℕ). ltb b n && v (cell_no (get_or operands b 0))) all

-- values that solve the cells, with the outputs that they show and the state that their operands feed, are a clock
pub clock_of : (I O : ℕ) (cells : List Cell) {state event outputs next : ℕ} {l : List ℕ} (v : CellNo → Bool) → l ≡ operands_of cells
    → Solves (signals_in event) (has state) cells v → ((s : SignalNo) → signals_in outputs s ≡ outputs_of I O v s) → ((b : ℕ) → has next b ≡ fed l v b)
    → Clock I O cells state event outputs next
clock_of I O cells v feeds solves shows keeps = record { values = v; solves = solves; shows = shows; keeps = λ b. keeps b ∙ fed_next v cells feeds b }
