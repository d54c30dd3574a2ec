-- Applying the rules from tick and the inputs comes to the one set that agrees, in at most as many rounds as there are outputs and locals: each round
-- sets one signal more right for good, by the rank of its cell.
use mathlib.Core.Path.{◌≡◌, refl, sym, ◌∙◌}
use mathlib.Core.Bool.{Bool, true, false, ◌||◌, false≢true, true≢false}
use mathlib.Core.List.{List}
use Prim.Native.Nat.{ℕ, zero, suc, ◌+◌, ◌<◌, ◌≤◌}
use native.Mathlib.Omega.{arith}
use native.Mathlib.Nat.{not-suc-le-zero}
use native.Mathlib.Decide.{dec_lt, ℕ_discrete}
use lib.Dec.{ltb}
use borrow.Author.Tests.{ltb-true, lt-ltb, le-ltb, ne_eqb}
use Rattle.number.specs.Counts.{cell_no, of_cell, signal_no, of_signal}
use Rattle.number.specs.declared.CellNo.{CellNo}
use Rattle.number.specs.declared.SignalNo.{SignalNo}
use Rattle.sheet.specs.Stmt.{Stmt}
use Rattle.sheet.specs.Read.{Sheet, only}
use Rattle.rules.specs.Rules.{Signals}
use Rattle.rules.specs.States.{State, tick, Event, fits}
use Rattle.cells.specs.declared.Cell.{Cell}
use Rattle.cells.specs.Cells.{low, signal_cell, cell_at}
use Rattle.cells.specs.Values.{before}
use Rattle.cells.proofs.Needing.{value_same}
use Rattle.builder.specs.Netlist.{sheet_netlist}
use Rattle.run.proofs.Rank.{Ranked, rank, ranked}
use Rattle.agreement.specs.Demand.{others, signals_of, WholeReaction}
use Rattle.agreement.specs.Rounds.{renewed, rounds, ReachIn}
use Rattle.agreement.proofs.Admitted.{Admitted}
use Rattle.agreement.proofs.Made.{past_signals, given_signals}
use Rattle.agreement.proofs.Agreeing.{asked, under, under_low, under_signal, under_past, under_made}

-- how many of the k numbers from a on pass the test
tally : Bool → ℕ → ℕ
tally true m = suc m
tally false m = m

count : (ℕ → Bool) → ℕ → ℕ → ℕ
count f a zero = 0
count f a (suc k) = tally (f a) (count f (suc a) k)

module _ (f g : ℕ → Bool) (more : (j : ℕ) → f j ≡ true → g j ≡ true) where
  tally_le : (x y : Bool) (m m' : ℕ) → (x ≡ true → y ≡ true) → m ≤ m' → tally x m ≤ tally y m'
  unfolding tally
  tally_le true true m m' i l = omega arith
  tally_le true false m m' i l = absurd (false≢true (i refl))
  tally_le false true m m' i l = omega arith
  tally_le false false m m' i l = l

  count_le : (a k : ℕ) → count f a k ≤ count g a k
  unfolding count
  count_le a zero = omega arith
  count_le a (suc k) = tally_le (f a) (g a) (count f (suc a) k) (count g (suc a) k) (more a) (count_le (suc a) k)

  tally_lt : (x y : Bool) (m m' : ℕ) → (x ≡ true → y ≡ true) → m < m' → tally x m < tally y m'
  unfolding tally
  tally_lt true true m m' i l = omega arith
  tally_lt true false m m' i l = absurd (false≢true (i refl))
  tally_lt false true m m' i l = omega arith
  tally_lt false false m m' i l = l

  tally_here : (x y : Bool) (m m' : ℕ) → x ≡ false → y ≡ true → m ≤ m' → tally x m < tally y m'
  unfolding tally
  tally_here true y m m' x_off y_on l = absurd (true≢false x_off)
  tally_here false true m m' x_off y_on l = omega arith
  tally_here false false m m' x_off y_on l = absurd (false≢true y_on)

  -- fewer pass f where one that passes g does not
  count_less : (a k j : ℕ) → a ≤ j → j < a + k → f j ≡ false → g j ≡ true → count f a k < count g a k
  unfolding count
  count_less a zero j l r x y = absurd (omega arith)
  count_less a (suc k) j l r x y = go (ℕ_discrete j a) (count_less (suc a) k j)
    where
      go : Dec (j ≡ a) → (suc a ≤ j → j < suc a + k → f j ≡ false → g j ≡ true → count f (suc a) k < count g (suc a) k)
          → tally (f a) (count f (suc a) k) < tally (g a) (count g (suc a) k)
      go (yes e) rest =
          tally_here (f a) (g a) (count f (suc a) k) (count g (suc a) k) (rw (← e) x) (rw (← e) y) (count_le (suc a) k)
      go (no e) rest = tally_lt (f a) (g a) (count f (suc a) k) (count g (suc a) k) (more a) (rest (omega arith) (omega arith) x y)

every : ℕ → Bool
every j = true

count_every : (a k : ℕ) → count every a k ≡ k
unfolding count tally every
count_every a zero = refl
count_every a (suc k) = let rest : count every (suc a) k ≡ k = count_every (suc a) k in omega arith

module _ (w : Sheet) (ok : Admitted w) (J : Signals) (event : Event w.inputs J) (S : State) (fit : fits S w.root ≡ true)
    (reaction : WholeReaction w J S) where
  abbrev t : Stmt
  t = w.root

  abbrev I : ℕ
  I = w.inputs

  abbrev n : ℕ
  n = signals_of w

  abbrev cells : List Cell
  cells = sheet_netlist w

  abbrev present : Signals
  present = reaction.present

  -- the rank of a cell, and of a signal's
  order_rank : CellNo → ℕ
  order_rank = rank cells ok.order ok.ordered

  lower : Ranked order_rank cells
  unfolding order_rank
  lower = ranked cells ok.order ok.ordered

  abbrev signal_rank : SignalNo → ℕ
  signal_rank s = order_rank (signal_cell s)

  abbrev asks : (CellNo → Bool) → CellNo → Bool
  asks = asked w ok J event S fit

  -- Held at a set that is right in the signals of rank below m, the nets of rank below m are those of the solution.
  module _ (E : Signals) (tick_in : E tick ≡ true) (m : ℕ)
      (right : (s : SignalNo) → of_signal s < signals_of w → order_rank (signal_cell s) < m → E s ≡ reaction.present s) where
    abbrev u : CellNo → Bool
    u = under w ok J event S fit E tick_in

    -- two nets ask for the same where all of lower rank are the same
    asks_same : (x : CellNo) → ((y : CellNo) → order_rank y < order_rank x → u y ≡ reaction.values y) → asks u x ≡ asks reaction.values x
    asks_same x f =
        value_same J (S (before cells x)) u reaction.values (cell_at cells x) (λ y a. f y (lower x y (record { among = a })))

    low_nets : (k : ℕ) (x : CellNo) → k ≤ m → order_rank x < k → u x ≡ reaction.values x
    low_nets zero x few l = absurd (not-suc-le-zero l)
    low_nets (suc k) x few l = go (of_cell x) l (asks_same x (λ y r. low_nets k y (omega arith) (omega arith)))
      where
        go : (c : ℕ) → order_rank (cell_no c) < suc k → asks u (cell_no c) ≡ asks reaction.values (cell_no c) → u (cell_no c) ≡ reaction.values (cell_no c)
        go zero r same = under_low w ok J event S fit E tick_in ∙ same ∙ sym (reaction.solves low)
        go (suc c) r same = side (dec_lt c n)
          where
            side : Dec (c < n) → u (cell_no (suc c)) ≡ reaction.values (cell_no (suc c))
            side (yes i) =
                under_signal w ok J event S fit E tick_in (signal_no c) i ∙ right (signal_no c) i (omega arith) ∙ sym (reaction.shown (signal_no c) i)
            side (no i) =
                under_past w ok J event S fit E tick_in (cell_no (suc c)) (omega arith) ∙ same ∙ sym (reaction.solves (cell_no (suc c)))

    -- so a signal of rank m is right in the set made anew
    next_right : (s : SignalNo) → of_signal s < n → signal_rank s ≡ m → renewed J S t E s ≡ present s
    next_right s l e =
        sym (under_made w ok J event S fit E tick_in s l)
        ∙ asks_same (signal_cell s) (λ y r. low_nets m y (omega arith) (omega arith))
        ∙ sym (reaction.solves (signal_cell s)) ∙ reaction.shown s l

  -- tick, the inputs and what is past the last signal are right from the first round on
  tick_round : (k : ℕ) → rounds J S t k tick ≡ true
  unfolding rounds
  tick_round zero = refl
  tick_round (suc k) = refl

  given_round : (k : ℕ) (s : SignalNo) → of_signal s ≤ I → rounds J S t k s ≡ (only tick s || J s)
  unfolding rounds
  given_round zero s l = refl
  given_round (suc k) s l = given_signals ok.proper ok.no_instant ok.no_twice J event S fit (rounds J S t k) s l

  given_right : (k : ℕ) (s : SignalNo) → of_signal s ≤ I → rounds J S t k s ≡ present s
  given_right k s l =
      given_round k s l ∙ sym (reaction.agrees s ∙ given_signals ok.proper ok.no_instant ok.no_twice J event S fit present s l)

  past_round : (k : ℕ) (s : SignalNo) → n ≤ of_signal s → rounds J S t k s ≡ false
  unfolding rounds
  past_round zero s l = rw (ne_eqb (of_signal s) 0 (λ e. omega arith), event.own s (omega arith))
  past_round (suc k) s l = past_signals ok.proper ok.no_instant ok.no_twice J event S fit (rounds J S t k) s l

  past_right : (k : ℕ) (s : SignalNo) → n ≤ of_signal s → rounds J S t k s ≡ present s
  past_right k s l =
      past_round k s l ∙ sym (reaction.agrees s ∙ past_signals ok.proper ok.no_instant ok.no_twice J event S fit present s l)

  -- how many outputs and locals have a lower rank
  ranks_below : ℕ → ℕ → Bool
  ranks_below m j = ltb (signal_rank (signal_no j)) m

  place : SignalNo → ℕ
  place s = count (ranks_below (signal_rank s)) (1 + I) (others w)

  not_itself : (s : SignalNo) → ranks_below (signal_rank s) (of_signal s) ≡ false
  unfolding ranks_below
  not_itself s = le-ltb (signal_rank s) (signal_rank s) (omega arith)

  lower_place : (s s' : SignalNo) → I < of_signal s' → of_signal s' < n → signal_rank s' < signal_rank s → place s' < place s
  unfolding place ranks_below
  lower_place s s' l r h =
      count_less (ranks_below (signal_rank s')) (ranks_below (signal_rank s)) between (1 + I) (others w) (of_signal s') (omega arith) (omega arith)
      (not_itself s') (lt-ltb (signal_rank s') (signal_rank s) h)
    where
      between : (j : ℕ) → ranks_below (signal_rank s') j ≡ true → ranks_below (signal_rank s) j ≡ true
      between j e = let b = ltb-true (signal_rank (signal_no j)) (signal_rank s') e in lt-ltb (signal_rank (signal_no j)) (signal_rank s) (omega arith)

  few_places : (s : SignalNo) → I < of_signal s → of_signal s < n → place s < others w
  unfolding place every
  few_places s l r =
      let all : count every (1 + I) (others w) ≡ others w = count_every (1 + I) (others w) in
      let less : count (ranks_below (signal_rank s)) (1 + I) (others w) < count every (1 + I) (others w) =
      count_less (ranks_below (signal_rank s)) every (λ j e. refl) (1 + I) (others w) (of_signal s) (omega arith) (omega arith) (not_itself s) refl in
      omega arith

  -- after k rounds the k outputs and locals of lowest rank are right
  rounds_right : (k : ℕ) (s : SignalNo) → I < of_signal s → of_signal s < n → place s < k → rounds J S t k s ≡ present s
  unfolding rounds
  rounds_right zero s i l h = absurd (not-suc-le-zero h)
  rounds_right (suc k) s i l h =
      next_right (rounds J S t k) (tick_round k) (signal_rank s) (λ s' l' r. go s' l' r (dec_lt I (of_signal s')) (rounds_right k s')) s l refl
    where
      go : (s' : SignalNo) → of_signal s' < n → signal_rank s' < signal_rank s → Dec (I < of_signal s')
          → (I < of_signal s' → of_signal s' < n → place s' < k → rounds J S t k s' ≡ present s') → rounds J S t k s' ≡ present s'
      go s' l' r (yes i') rest = let b = lower_place s s' i' l' r in rest i' l' (omega arith)
      go s' l' r (no i') rest = given_right k s' (omega arith)

  -- so after as many rounds as there are outputs and locals all signals are, and stay so
  pub settles_at : ReachIn (others w) J S w.root reaction.present
  settles_at k h s = go (dec_lt I (of_signal s)) (dec_lt (of_signal s) n)
    where
      go : Dec (I < of_signal s) → Dec (of_signal s < n) → rounds J S t k s ≡ present s
      go (no i) l = given_right k s (omega arith)
      go (yes i) (no l) = past_right k s (omega arith)
      go (yes i) (yes l) = let b = few_places s i l in rounds_right k s i l (omega arith)
