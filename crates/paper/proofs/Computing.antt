-- What the entries answer of an accepted sheet, computed: an order of its cells by a test, and a run by the rules' rounds.
use mathlib.Core.Path.{◌≡◌, refl, sym, ap, ◌∙◌, fun_ext}
use mathlib.Core.Bool.{Bool, true, false, not, ◌&&◌, ◌||◌}
use mathlib.Core.List.{List, [], ◌∷◌, ◌++◌}
use Prim.Native.Nat.{ℕ, zero, suc, ◌^◌, ◌<◌, ◌≤◌}
use native.Mathlib.Omega.{arith}
use lib.Dec.{eqb}
use lib.ListN.{length}
use Rattle.number.specs.Counts.{signal_no, of_cell}
use Rattle.number.specs.Number.{pick}
use Rattle.number.proofs.Bools.{and_left, and_right}
use Rattle.limits.specs.Limits.{max_signals}
use Rattle.bits.specs.Bits.{has, signals_in, width}
use Rattle.bits.proofs.Laws.{ext, has_past}
use Rattle.sheet.specs.Read.{Sheet, sheet}
use Rattle.sets.specs.Words.{word_of}
use Rattle.sets.proofs.Columns.{has_word}
use Rattle.rules.specs.Rules.{Signals, Outcome}
use Rattle.rules.specs.States.{react, next_state, fits}
use Rattle.cells.specs.declared.Cell.{Cell}
use Rattle.cells.specs.Needs.{pins_of}
use Rattle.builder.specs.Netlist.{sheet_netlist}
use Rattle.order.proofs.ByTest.{every, in_order_at, ordered}
use Rattle.run.specs.Words.{is_output, event_ok}
use Rattle.run.specs.Many.{each}
use Rattle.compiler.specs.Check.{judge, Accepted, accepted}
use Rattle.agreement.specs.Demand.{others, WholeReaction}
use Rattle.agreement.specs.Rounds.{rounds}
use Rattle.agreement.proofs.Theorem.{reaction, settles}
use Rattle.interpreter.proofs.Settling.{event_of}
use Rattle.sheet_entries.specs.Sheets.{sheet_accepted}
use Rattle.krankovel.specs.Promise.{Reacts, Clocks, ended, goes}
use Rattle.krankovel.proofs.Entries.{does_fit}
use Rattle.number.specs.declared.CellNo.{CellNo}
use Rattle.std.specs.Prelude.{Option, Some, None}

-- An order: the cells one after the other, again and again, each once its operands stand.
unfoldable pub among : ℕ → List ℕ → Bool
among x [] = false
among x (y ∷ ys) = eqb x y || among x ys

unfoldable pub stand : List ℕ → Option (CellNo × CellNo) → Bool
unfolding among
stand done None = true
stand done (Some (a, b)) = among (of_cell a) done && among (of_cell b) done

unfoldable pub pass : List Cell → ℕ → List ℕ → List ℕ
unfolding among stand pick
pass [] x done = done
pass (c ∷ cells) x done = pass cells (suc x) (pick (not (among x done) && stand done (pins_of c)) (done ++ (x ∷ [])) done)

unfoldable pub passes : ℕ → List Cell → List ℕ → List ℕ
unfolding pass
passes zero cells done = done
passes (suc k) cells done = passes k cells (pass cells 0 done)

-- and each cell's place in it
unfoldable pub place_in : ℕ → List ℕ → ℕ
unfolding pick
place_in x [] = 0
place_in x (y ∷ ys) = pick (eqb x y) 0 (suc (place_in x ys))

unfoldable pub places_in : ℕ → ℕ → List ℕ → List ℕ
unfolding place_in
places_in zero x order = []
places_in (suc k) x order = place_in x order ∷ places_in k (suc x) order

-- eight passes do for the sheets of the table
unfoldable pub order_of : List Cell → List ℕ
unfolding passes
order_of cells = passes 8 cells []

unfoldable pub is_ordered : List Cell → Bool
unfolding order_of places_in every in_order_at
is_ordered cells = let order : List ℕ = order_of cells in every (length cells) (in_order_at cells order (places_in (length cells) 0 order))

pub accepted_by : {s : List ℕ} {w : Sheet} → judge s ≡ sheet w → is_ordered (sheet_netlist w) ≡ true → Accepted s w
unfolding is_ordered
accepted_by {w = w} judged all =
    let cells : List Cell = sheet_netlist w in
    let order : List ℕ = order_of cells in
    accepted order judged (ordered cells order (places_in (length cells) 0 order) all)

-- A reaction: the set that the rounds come to, and what the rules give under it.
abbrev settled : Sheet → ℕ → ℕ → Signals
settled w state event = rounds (signals_in event) (has state) w.root (others w)

abbrev outcome : Sheet → ℕ → ℕ → Outcome
outcome w state event = react (settled w state event) (has state) w.root

unfoldable pub emissions_of : Sheet → ℕ → ℕ → ℕ
unfolding word_of react rounds
emissions_of w state event = word_of max_signals (λ k. (outcome w state event).emits (signal_no k))

unfoldable pub outputs_of : Sheet → ℕ → ℕ → ℕ
unfolding word_of rounds
outputs_of w state event = word_of max_signals (λ k. is_output w.inputs w.outputs (signal_no k) && settled w state event (signal_no k))

unfoldable pub next_of : Sheet → ℕ → ℕ → ℕ
unfolding word_of react rounds
next_of w state event = word_of width (next_state (outcome w state event))

-- a number whose bits are those of a set
number_of : (n x : ℕ) (A : ℕ → Bool) → x < 2 ^ n → ((j : ℕ) → has x j ≡ A j) → x ≡ word_of n A
number_of n x A small bits =
    let bounded : (j : ℕ) → n ≤ j → A j ≡ false = λ j l. sym (bits j) ∙ has_past n x j small l in
    ext x (word_of n A) (λ j. bits j ∙ sym (ap (λ (B : ℕ → Bool). B j) (has_word n A bounded)))

module _ {s : List ℕ} {w : Sheet} (ok : Accepted s w) where
  -- a reaction that the entries answer is the one that is computed
  module _ {state event emissions outputs next : ℕ} (fit : fits (has state) w.root ≡ true) (own : event_ok w.inputs event ≡ true)
      (r : Reacts s w (sheet_accepted (sheet w)) state event emissions outputs next) where
    present_is : r.present ≡ settled w state event
    present_is =
        let event_is = event_of w.inputs event own in
        let one : WholeReaction w (signals_in event) (has state) = reaction ok (signals_in event) (has state) fit event_is in
        fun_ext λ x. sym (r.alone one.present one.agrees x)
        ∙ sym (settles ok (signals_in event) (has state) fit event_is (others w) (omega arith) x)

    outcome_is : react r.present (has state) w.root ≡ outcome w state event
    outcome_is = ap (λ (E : Signals). react E (has state) w.root) present_is

    emissions_are : emissions ≡ emissions_of w state event
    unfolding emissions_of
    emissions_are =
        number_of max_signals emissions _ r.emissions_small (λ j. r.emits (signal_no j) ∙ ap (λ (o : Outcome). o.emits (signal_no j)) outcome_is)

    outputs_are : outputs ≡ outputs_of w state event
    unfolding outputs_of
    outputs_are =
        number_of max_signals outputs _ r.outputs_small
        (λ j. r.shows (signal_no j) ∙ ap (λ (E : Signals). is_output w.inputs w.outputs (signal_no j) && E (signal_no j)) present_is)

    next_is : next ≡ next_of w state event
    unfolding next_of
    next_is = number_of width next _ r.next_small (λ b. r.keeps b ∙ ap (λ (o : Outcome). next_state o b) outcome_is)

-- a run, step by step
pub record Computed : Type 0 where
  pub emissions : List ℕ
  pub outputs : List ℕ
  pub states : List ℕ

unfoldable pub computed : Sheet → ℕ → List ℕ → Computed
unfolding emissions_of outputs_of next_of
computed w state [] = record { emissions = []; outputs = []; states = [] }
computed w state (event ∷ events) =
    let next : ℕ = next_of w state event in
    let rest : Computed = computed w next events in
    record {
      emissions = emissions_of w state event ∷ rest.emissions;
      outputs = outputs_of w state event ∷ rest.outputs;
      states = next ∷ rest.states;
    }

module _ {s : List ℕ} {w : Sheet} (ok : Accepted s w) where
  pub clocks_computed : {state : ℕ} {events es os ns : List ℕ} → fits (has state) w.root ≡ true
      → each (event_ok w.inputs) events ≡ true
      → Clocks s w (sheet_accepted (sheet w)) state events es os ns
      → computed w state events ≡ record { emissions = es; outputs = os; states = ns }
  unfolding computed each
  clocks_computed fit all ended = refl
  clocks_computed {state} fit all (goes {event = e} {emissions = x} {outputs = y} {next = n} {events = es} {es = xs} {os = ys} {ns = ns} r rest) =
      let own = and_left (event_ok w.inputs e) (each (event_ok w.inputs) es) all in
      let next_fit = does_fit ok n r.again.allowed in
      let later = clocks_computed next_fit (and_right (event_ok w.inputs e) (each (event_ok w.inputs) es) all) rest in
      let from : computed w (next_of w state e) es ≡ record { emissions = xs; outputs = ys; states = ns } =
      ap (λ (m : ℕ). computed w m es) (sym (next_is ok fit own r)) ∙ later in
      let x_is = sym (emissions_are ok fit own r) in
      let y_is = sym (outputs_are ok fit own r) in
      let n_is = sym (next_is ok fit own r) in
      λ i. record { emissions = x_is i ∷ (from i).emissions; outputs = y_is i ∷ (from i).outputs; states = n_is i ∷ (from i).states }
