-- What a signal's cell asks for is the set made anew: "tick, the event's inputs and the emissions", those under the signals that the nets show.
use mathlib.Core.Path.{◌≡◌, refl, sym, ◌∙◌, ap, subst}
use mathlib.Core.Bool.{Bool, true, false, ◌||◌, or-false}
use mathlib.Core.List.{List, ◌∷◌, ◌++◌}
use Prim.Native.Nat.{ℕ, zero, suc, ◌+◌, ◌-◌, ◌<◌, ◌≤◌}
use native.Mathlib.Omega.{arith}
use native.Mathlib.Nat.{not-suc-le-zero, le_of_suc-le-suc, add-zero, add-suc, suc-add}
use native.Mathlib.Decide.{dec_lt}
use lib.ListN.{length, get_or, length-append, get_or-append}
use lib.Seq.{get_or-append-add}
use borrow.Author.Tests.{ne_eqb}
use Rattle.number.specs.Counts.{cell_no, of_cell, signal_no, of_signal, stmt_no}
use Rattle.number.specs.declared.CellNo.{CellNo}
use Rattle.number.specs.declared.SignalNo.{SignalNo}
use Rattle.number.proofs.Bools.{off}
use Rattle.sheet.specs.Stmt.{Stmt, local_count}
use Rattle.sheet.specs.Read.{only}
use Rattle.sheet.specs.Form.{Proper}
use Rattle.sheet.proofs.Notions.{Scoped, proper_scoped}
use Rattle.sets.specs.Faults.{instant}
use Rattle.rules.specs.Rules.{Signals}
use Rattle.rules.specs.States.{State, tick, react, Event, fits}
use Rattle.rules.proofs.Own.{react_emits, react_reads}
use Rattle.cells.specs.declared.Cell.{Cell}
use Rattle.cells.specs.declared.Cell.TheVariants.{Low, High, Gate, Register}
use Rattle.cells.specs.declared.Gate.TheVariants.{Or, Butnot}
use Rattle.cells.specs.Cells.{low, high, signal_cell, cell_at}
use Rattle.cells.specs.Values.{value}
use Rattle.parts.specs.Equations.{list_of}
use Rattle.builder.specs.Netlist.{input_cells, signal_cells, netlist}
use Rattle.builder.proofs.Ends.{length_inputs, length_signals}
use Rattle.builder.proofs.Format.{root, input_at, boot_split}
use Rattle.agreement.specs.Rounds.{renewed}
use Rattle.agreement.proofs.Restarts.{NoRestart}
use Rattle.agreement.proofs.Root.{Asked, emitted}
use Rattle.std.specs.Prelude.{None}

-- Where the signals' cells stand.
list_at : (L : List CellNo) (s k j : ℕ) → j < k → get_or (signal_cells L s k) j Low ≡ Gate Or (list_of L (signal_no (s + j))) low
unfolding signal_cells
list_at L s zero j h = absurd (not-suc-le-zero h)
list_at L s (suc k) zero h = ap (λ (x : ℕ). Gate Or (list_of L (signal_no x)) low) (sym (add-zero s))
list_at L s (suc k) (suc j) h =
    list_at L (suc s) k j (le_of_suc-le-suc h) ∙ ap (λ (x : ℕ). Gate Or (list_of L (signal_no x)) low) (suc-add s j ∙ sym (add-suc s j))

module _ (I U : ℕ) (t : Stmt) where
  pub tick_at : cell_at (netlist I U t) high ≡ High
  unfolding netlist
  tick_at = refl

  pub zero_at : cell_at (netlist I U t) low ≡ Low
  unfolding netlist
  zero_at = refl

  -- "cell 1+s of each output and local becomes or(list, 0)"
  pub signal_at : (k : ℕ) → k < U → cell_at (netlist I U t) (cell_no (suc (suc (I + k)))) ≡ Gate Or (list_of (root I U t).lists (signal_no (1 + I + k))) low
  signal_at k l =
      let L : List CellNo = (root I U t).lists in
      let signals : List Cell = signal_cells L (1 + I) U in
      let inputs : List Cell = input_cells 1 I in
      let rest : List Cell = Register high ∷ (Gate Butnot high (cell_no (2 + I + U)) ∷ (root I U t).cells) in
      let short : I + k < length (inputs ++ signals) = omega (arith, length-append inputs signals, length_inputs 1 I, length_signals L (1 + I) U) in
      let skipped : get_or (inputs ++ signals) (I + k) Low ≡ get_or signals k Low =
      subst (λ (m : ℕ). get_or (inputs ++ signals) (m + k) Low ≡ get_or signals k Low) (length_inputs 1 I) (get_or-append-add inputs signals k Low) in
      rw (boot_split I U t) (get_or-append (inputs ++ signals) rest Low (I + k) short ∙ skipped ∙ list_at L (1 + I) U k l)

module _ {I O : ℕ} {t : Stmt} (proper : Proper I O t) where
  -- the signals of a sheet, counted as its netlist counts them
  pub scoped : Scoped I (1 + I + (O + local_count t)) t
  scoped =
      let all : 1 + I + O + local_count t ≡ 1 + I + (O + local_count t) = omega arith in
      subst (λ (n : ℕ). Scoped I n t) all (proper_scoped proper)

  -- neither tick nor an input is emitted, nor a signal past the last
  pub not_emitted : (E : Signals) (S : State) (s : SignalNo) → (I < of_signal s → of_signal s < 1 + I + (O + local_count t) → ⊥)
      → (react E S t).emits s ≡ false
  not_emitted E S s outside =
      off ((react E S t).emits s)
      (λ on. let own = react_emits I (1 + I + (O + local_count t)) E S t scoped s on in outside own.0 own.1)

module _ {I O : ℕ} {t : Stmt} (proper : Proper I O t) (clear : instant (stmt_no 0) t ≡ None) (once : NoRestart t)
    (J : Signals) (event : Event I J) (S : State) (fit : fits S t ≡ true) where
  abbrev U : ℕ
  U = O + local_count t

  abbrev n : ℕ
  n = 1 + I + U

  abbrev cells : List Cell
  cells = netlist I U t

  -- past the last signal nothing is present
  pub past_signals : (E : Signals) (s : SignalNo) → n ≤ of_signal s → renewed J S t E s ≡ false
  past_signals E s l =
      rw (ne_eqb (of_signal s) 0 (λ e. omega arith), event.own s (omega arith), not_emitted proper E S s (λ a b. omega arith))

  -- tick and the inputs are as the event has them
  pub given_signals : (E : Signals) (s : SignalNo) → of_signal s ≤ I → renewed J S t E s ≡ (only tick s || J s)
  given_signals E s l = rw (not_emitted proper E S s (λ a b. omega arith), or-false)

  module _ (v : CellNo → Bool) (zero_low : v low ≡ false) (tick_on : v high ≡ true)
      (solves : (x : CellNo) → 2 + I + (O + local_count t) ≤ of_cell x → Asked (netlist I (O + local_count t) t) J S v x)
      (E : Signals) (shown : (s : SignalNo) → of_signal s < 1 + I + (O + local_count t) → v (signal_cell s) ≡ E s) where
    same_run : react (λ s. v (signal_cell s)) S t ≡ react E S t
    same_run = react_reads I n (λ s. v (signal_cell s)) E shown S t (scoped proper)

    made_tick : (q : Bool) → value J q v (cell_at cells (signal_cell tick)) ≡ renewed J S t E tick
    made_tick q = rw (tick_at I U t)

    made_input : (q : Bool) (k : ℕ) → k < I → value J q v (cell_at cells (cell_no (suc (suc k)))) ≡ renewed J S t E (signal_no (suc k))
    made_input q k l =
        let number : 1 + k ≡ suc k = omega arith in
        rw (input_at I U t k l, number, given_signals E (signal_no (suc k)) (omega arith), ne_eqb (suc k) 0 (λ e. omega arith))

    made_other : (q : Bool) (k : ℕ) → k < U → value J q v (cell_at cells (cell_no (suc (suc (I + k))))) ≡ renewed J S t E (signal_no (suc (I + k)))
    made_other q k l =
        let number : 1 + I + k ≡ suc (I + k) = omega arith in
        let x : SignalNo = signal_no (suc (I + k)) in
        rw (
          signal_at I U t k l,
          number,
          zero_low,
          or-false,
          emitted proper clear once J S fit v zero_low tick_on solves x (omega (arith, proper.signals)),
          same_run,
          ne_eqb (suc (I + k)) 0 (λ e. omega arith),
          event.own x (omega arith),
        )

    pub made : (q : Bool) (s : SignalNo) → of_signal s < n → value J q v (cell_at cells (signal_cell s)) ≡ renewed J S t E s
    made q s l = go (of_signal s) l
      where
        go : (m : ℕ) → m < n → value J q v (cell_at cells (signal_cell (signal_no m))) ≡ renewed J S t E (signal_no m)
        go zero l = made_tick q
        go (suc k) l = side (dec_lt k I)
          where
            side : Dec (k < I) → value J q v (cell_at cells (signal_cell (signal_no (suc k)))) ≡ renewed J S t E (signal_no (suc k))
            side (yes i) = made_input q k i
            side (no i) =
                let e : I + (k - I) ≡ k = omega arith in
                subst (λ (m : ℕ). value J q v (cell_at cells (cell_no (suc (suc m)))) ≡ renewed J S t E (signal_no (suc m))) e (made_other q (k - I) (omega arith))
