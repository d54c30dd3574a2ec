-- Cells in an order have exactly one solution, whichever of them are held: by their rank a solution is computed, and two solutions agree. So a
-- netlist has one answer to an event.
use Prim.Native.Nat.{ℕ, zero, suc, ◌<◌}
use mathlib.Core.Path.{◌≡◌, refl, sym, ap, ◌∙◌}
use mathlib.Core.Bool.{Bool, false, ◌&&◌}
use mathlib.Core.List.{List, [], ◌∷◌, map}
use native.Mathlib.Omega.{arith}
use native.Mathlib.Nat.{not-suc-le-zero}
use lib.ListN.{get_or}
use Rattle.cells.specs.Cells.{signal_cell}
use Rattle.number.specs.Counts.{cell_no, signal_no}
use Rattle.number.specs.Number.{pick}
use Rattle.number.specs.declared.CellNo.{CellNo}
use Rattle.number.specs.declared.SignalNo.{SignalNo}
use Rattle.bits.specs.Bits.{has, signals_in}
use Rattle.bits.proofs.Laws.{ext}
use Rattle.cells.specs.declared.Cell.{Cell}
use Rattle.cells.specs.Cells.{cell_at}
use Rattle.cells.specs.Values.{before, value, Solves, operands_of, next_of}
use Rattle.cells.specs.Needs.{pins_of, Among}
use Rattle.order.specs.Paths.{Ordered}
use Rattle.run.specs.Words.{is_output, outputs_of}
use Rattle.run.specs.Held.{SolvesHeld, none, OneSolution}
use Rattle.run.specs.React.{Clock}
use Rattle.cells.proofs.Needing.{value_same}
use Rattle.run.proofs.Rank.{Ranked, rank, ranked}

module _ (hold h : CellNo → Bool) (J : SignalNo → Bool) (S : ℕ → Bool) (cells : List Cell) (rank : CellNo → ℕ) (lower : Ranked rank cells) where
  -- what a net is to be, where those that it needs have the values v
  abbrev asked : (CellNo → Bool) → CellNo → Bool
  asked v x = pick (hold x) (h x) (value J (S (before cells x)) v (cell_at cells x))

  asked_same : (u v : CellNo → Bool) (x : CellNo) → ((y : CellNo) → rank y < rank x → u y ≡ v y) → asked u x ≡ asked v x
  asked_same u v x f =
      let needed : (y : CellNo) → Among (pins_of (cell_at cells x)) y → u y ≡ v y = λ y n. f y (lower x y (record { among = n })) in
      ap (pick (hold x) (h x)) (value_same J (S (before cells x)) u v (cell_at cells x) needed)

  -- two solutions agree on the nets of rank below m
  agree : (u v : CellNo → Bool) → SolvesHeld hold h J S cells u → SolvesHeld hold h J S cells v → (m : ℕ) (x : CellNo) → rank x < m → u x ≡ v x
  agree u v su sv zero x l = absurd (not-suc-le-zero l)
  agree u v su sv (suc m) x l = su x ∙ asked_same u v x (λ y g. agree u v su sv m y (omega arith)) ∙ sym (sv x)

  -- a solution for the nets of rank below m
  upto : ℕ → CellNo → Bool
  upto zero x = false
  upto (suc m) x = asked (upto m) x

  settles : (m n : ℕ) (x : CellNo) → rank x < m → rank x < n → upto m x ≡ upto n x
  unfolding upto
  settles zero n x l g = absurd (not-suc-le-zero l)
  settles (suc m) zero x l g = absurd (not-suc-le-zero g)
  settles (suc m) (suc n) x l g = asked_same (upto m) (upto n) x (λ y k. settles m n y (omega arith) (omega arith))

  solution : CellNo → Bool
  solution x = upto (suc (rank x)) x

  solves : SolvesHeld hold h J S cells solution
  unfolding solution upto
  solves x = asked_same (upto (rank x)) solution x (λ y k. settles (rank x) (suc (rank y)) y k (omega arith))

  pub held_by_rank : OneSolution hold h J S cells
  held_by_rank =
      record { values = solution; solves = solves; only = λ v sv x. agree v solution sv solves (suc (rank x)) x (omega arith) }

module _ (cells : List Cell) (order : List ℕ) (o : Ordered cells order) where
  -- "with any set of cells held at given values the rest still has exactly one solution"
  pub held : (hold h : CellNo → Bool) (J : SignalNo → Bool) (S : ℕ → Bool) → OneSolution hold h J S cells
  held hold h J S = held_by_rank hold h J S cells (rank cells order o) (ranked cells order o)

  -- where none is held there is a solution ..
  pub a_solution : (J : SignalNo → Bool) (S : ℕ → Bool) → (v : CellNo → Bool) × Solves J S cells v
  unfolding pick
  a_solution J S = let one : OneSolution none none J S cells = held none none J S in (one.values, one.solves)

  -- .. and no other
  pub one_solution : (J : SignalNo → Bool) (S : ℕ → Bool) (u v : CellNo → Bool) → Solves J S cells u → Solves J S cells v
      → (x : CellNo) → u x ≡ v x
  unfolding pick
  one_solution J S u v su sv x =
      let one : OneSolution none none J S cells = held none none J S in
      one.only u su x ∙ sym (one.only v sv x)

-- the next state is the same where the nets are
operands_same : (u v : CellNo → Bool) → ((x : CellNo) → u x ≡ v x) → (l : List ℕ) → map (λ (x : ℕ). u (cell_no x)) l ≡ map (λ (x : ℕ). v (cell_no x)) l
operands_same u v f [] = refl
operands_same u v f (x ∷ l) = rw (f (cell_no x), operands_same u v f l)

module _ (I O : ℕ) (cells : List Cell) (order : List ℕ) (o : Ordered cells order) (state event : ℕ) where
  -- what a clock shows and keeps is so by whatever solves the cells
  module _ (a n : ℕ) (p : Clock I O cells state event a n) (v : CellNo → Bool) (sv : Solves (signals_in event) (has state) cells v) where
    same : (x : CellNo) → p.values x ≡ v x
    same = one_solution cells order o (signals_in event) (has state) p.values v p.solves sv

    pub shows_by : (s : SignalNo) → signals_in a s ≡ outputs_of I O v s
    shows_by s = p.shows s ∙ ap (λ (on : Bool). is_output I O s && on) (same (signal_cell s))

    pub keeps_by : (b : ℕ) → has n b ≡ next_of v cells b
    keeps_by b = p.keeps b ∙ ap (λ (bits : List Bool). get_or bits b false) (operands_same p.values v same (operands_of cells))

  pub one_clock : (a b n m : ℕ) → Clock I O cells state event a n → Clock I O cells state event b m → (a ≡ b) × (n ≡ m)
  one_clock a b n m p q =
      let v : CellNo → Bool = q.values in (
        ext a b (λ j. shows_by a n p v q.solves (signal_no j) ∙ sym (q.shows (signal_no j))),
        ext n m (λ j. keeps_by a n p v q.solves j ∙ sym (q.keeps j)),
      )
