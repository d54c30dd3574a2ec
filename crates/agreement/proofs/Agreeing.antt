-- Exactly one set of signals agrees with the rules: the one that the netlist's one solution shows.
use mathlib.Core.Path.{◌≡◌, sym, ◌∙◌, ap}
use mathlib.Core.Bool.{Bool, true, false, ◌&&◌}
use mathlib.Core.List.{List}
use Prim.Native.Nat.{ℕ, zero, suc, ◌-◌, ◌<◌, ◌≤◌}
use native.Mathlib.Omega.{arith}
use native.Mathlib.Decide.{dec_lt}
use lib.Dec.{ltb}
use borrow.Author.Tests.{lt-ltb, le-ltb}
use Rattle.number.specs.Counts.{cell_no, of_cell, signal_no, of_signal}
use Rattle.number.specs.Number.{pick}
use Rattle.number.specs.declared.CellNo.{CellNo}
use Rattle.number.specs.declared.SignalNo.{SignalNo}
use Rattle.sheet.specs.Stmt.{Stmt}
use Rattle.sheet.specs.Read.{Sheet}
use Rattle.rules.specs.Rules.{Signals, Outcome}
use Rattle.rules.specs.States.{State, tick, react, next_state, Event, Agrees, fits}
use Rattle.rules.proofs.Own.{react_reads}
use Rattle.rules.proofs.Again.{fits_again}
use Rattle.cells.specs.declared.Cell.{Cell}
use Rattle.cells.specs.Cells.{low, high, signal_cell, cell_at}
use Rattle.cells.specs.Values.{before, value, Solves, next_of}
use Rattle.builder.specs.Netlist.{sheet_netlist}
use Rattle.run.specs.Held.{OneSolution}
use Rattle.run.proofs.One.{held, a_solution, one_solution}
use Rattle.agreement.specs.Demand.{others, signals_of, WholeReaction}
use Rattle.agreement.specs.Rounds.{renewed}
use Rattle.agreement.proofs.Admitted.{Admitted}
use Rattle.agreement.proofs.Root.{next_is}
use Rattle.agreement.proofs.Made.{tick_at, zero_at, scoped, past_signals, made}

module _ (w : Sheet) (ok : Admitted w) (J : Signals) (event : Event w.inputs J) (S : State) (fit : fits S w.root ≡ true) where
  abbrev t : Stmt
  t = w.root

  abbrev I : ℕ
  I = w.inputs

  abbrev U : ℕ
  U = others w

  abbrev n : ℕ
  n = signals_of w

  abbrev cells : List Cell
  cells = sheet_netlist w

  abbrev pub asked : (CellNo → Bool) → CellNo → Bool
  asked v x = value J (S (before cells x)) v (cell_at cells x)

  -- What is so of any solution.
  module _ (v : CellNo → Bool) (solves : Solves J S (sheet_netlist w) v) where
    solution_low : v low ≡ false
    solution_low = solves low ∙ ap (value J (S (before cells low)) v) (zero_at I U t)

    solution_high : v high ≡ true
    solution_high = solves high ∙ ap (value J (S (before cells high)) v) (tick_at I U t)

    -- the signals that it shows, and none past the last
    abbrev pub shown_by : Signals
    shown_by s = ltb (of_signal s) (signals_of w) && v (signal_cell s)

    pub shown_by_lem : (s : SignalNo) → of_signal s < signals_of w → v (signal_cell s) ≡ shown_by s
    shown_by_lem s l = rw (lt-ltb (of_signal s) n l)

    -- they agree with the rules
    pub shown_agree : Agrees J S shown_by t
    shown_agree s = go (dec_lt (of_signal s) n)
      where
        go : Dec (of_signal s < n) → shown_by s ≡ renewed J S t shown_by s
        go (yes l) =
            sym (shown_by_lem s l) ∙ solves (signal_cell s)
            ∙ made ok.proper ok.no_instant ok.no_twice J event S fit v solution_low solution_high (λ x k. solves x) shown_by shown_by_lem
            (S (before cells (signal_cell s))) s l
        go (no l) =
            rw (le-ltb (of_signal s) n (omega arith))
            (sym (past_signals ok.proper ok.no_instant ok.no_twice J event S fit shown_by s (omega arith)))

    -- and the registers' operands hold their next state
    pub shown_next : (b : ℕ) → next_of v cells b ≡ next_state (react shown_by S t) b
    shown_next b =
        next_is ok.proper ok.no_instant ok.no_twice J S fit v solution_low solution_high (λ x k. solves x) b
        ∙ ap (λ (o : Outcome). next_state o b) (react_reads I n (λ s. v (signal_cell s)) shown_by shown_by_lem S t (scoped ok.proper))

  -- The signals' cells held at any set with tick in it: the others still have one solution.
  module _ (E : Signals) (tick_in : E tick ≡ true) where
    is_signal : CellNo → Bool
    is_signal x = ltb 0 (of_cell x) && ltb (of_cell x) (suc n)

    held_at : CellNo → Bool
    held_at x = E (signal_no (of_cell x - 1))

    others_solved : OneSolution is_signal held_at J S cells
    others_solved = held cells ok.order ok.ordered is_signal held_at J S

    pub under : CellNo → Bool
    under = others_solved.values

    pub under_signal : (s : SignalNo) → of_signal s < n → under (signal_cell s) ≡ E s
    unfolding under is_signal held_at pick
    under_signal s l =
        let number : suc (of_signal s) - 1 ≡ of_signal s = omega arith in
        others_solved.solves (signal_cell s)
        ∙ rw (lt-ltb 0 (suc (of_signal s)) (omega arith), lt-ltb (suc (of_signal s)) (suc n) (omega arith), number)

    pub under_low : under low ≡ asked under low
    unfolding under is_signal pick
    under_low = others_solved.solves low

    pub under_past : (x : CellNo) → suc n ≤ of_cell x → under x ≡ asked under x
    unfolding under is_signal pick
    under_past x l = others_solved.solves x ∙ rw (lt-ltb 0 (of_cell x) (omega arith), le-ltb (of_cell x) (suc n) l)

    -- what the signals' cells ask for is E made anew
    pub under_made : (s : SignalNo) → of_signal s < n → asked under (signal_cell s) ≡ renewed J S t E s
    under_made s l =
        made ok.proper ok.no_instant ok.no_twice J event S fit under (under_low ∙ ap (value J (S (before cells low)) under) (zero_at I U t))
        (under_signal tick (omega arith) ∙ tick_in) (λ x k. under_past x (omega arith)) E under_signal (S (before cells (signal_cell s))) s l

  -- Whatever agrees with the rules is what a solution shows: held at it, all cells are solved.
  module _ (E : Signals) (agrees : Agrees J S E t) where
    u : CellNo → Bool
    u = under E (agrees tick)

    all_solved : Solves J S cells u
    unfolding u
    all_solved x = go (of_cell x)
      where
        go : (k : ℕ) → u (cell_no k) ≡ asked u (cell_no k)
        go zero = under_low E (agrees tick)
        go (suc k) = side (dec_lt k n)
          where
            side : Dec (k < n) → u (cell_no (suc k)) ≡ asked u (cell_no (suc k))
            side (yes l) = under_signal E (agrees tick) (signal_no k) l ∙ agrees (signal_no k) ∙ sym (under_made E (agrees tick) (signal_no k) l)
            side (no l) = under_past E (agrees tick) (cell_no (suc k)) (omega arith)

    pub only_shown : (v : CellNo → Bool) (solves : Solves J S cells v) (s : SignalNo) → E s ≡ shown_by v solves s
    unfolding u
    only_shown v solves s = go (dec_lt (of_signal s) n)
      where
        go : Dec (of_signal s < n) → E s ≡ shown_by v solves s
        go (yes l) =
            sym (under_signal E (agrees tick) s l) ∙ one_solution cells ok.order ok.ordered J S u v all_solved solves (signal_cell s)
            ∙ shown_by_lem v solves s l
        go (no l) =
            agrees s ∙ past_signals ok.proper ok.no_instant ok.no_twice J event S fit E s (omega arith)
            ∙ sym (rw (le-ltb (of_signal s) n (omega arith)))

  pub reaction_of : WholeReaction w J S
  reaction_of =
      let one = a_solution cells ok.order ok.ordered J S in
      let v : CellNo → Bool = one.0 in
      let solves : Solves J S cells v = one.1 in
      record {
        present = shown_by v solves;
        agrees = shown_agree v solves;
        alone = λ E a s. only_shown E a v solves s;
        values = v;
        solves = solves;
        single = λ x sx. one_solution cells ok.order ok.ordered J S x v sx solves;
        shown = shown_by_lem v solves;
        next = shown_next v solves;
        again = fits_again ok.proper ok.no_instant (shown_by v solves) S fit;
      }
