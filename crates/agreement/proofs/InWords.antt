-- Demand 3 over sets as numbers.
use mathlib.Core.Path.{◌≡◌, refl, sym, ◌∙◌, ap, subst, fun_ext}
use mathlib.Core.Bool.{Bool, true, false, ◌&&◌}
use mathlib.Core.List.{List}
use Prim.Native.Nat.{ℕ, zero, suc, ◌+◌, ◌-◌, ◌^◌, ◌<◌, ◌≤◌}
use native.Mathlib.Omega.{arith}
use native.Mathlib.Decide.{dec_lt}
use lib.Dec.{ltb, leb}
use borrow.Author.Tests.{leb-true}
use Rattle.number.specs.Counts.{signal_no, of_signal}
use Rattle.number.specs.Number.{pick}
use Rattle.number.specs.declared.SignalNo.{SignalNo}
use Rattle.number.proofs.Bools.{taut, and_left, and_right}
use Rattle.bits.specs.Bits.{has, signals_in, boot, width}
use Rattle.bits.proofs.Laws.{has_past, ext}
use Rattle.bits.proofs.NoBits.{bit_off}
use Rattle.bits.proofs.None.{past_none}
use Rattle.limits.specs.Limits.{max_halts, max_signals}
use Rattle.sheet.specs.Stmt.{Stmt, halt_count}
use Rattle.sheet.specs.Read.{Sheet}
use Rattle.sheet.proofs.Notions.{proper_numbered}
use Rattle.sets.specs.Codes.{Codes}
use Rattle.sets.specs.Words.{word_of}
use Rattle.sets.proofs.Bounds.{Bounded}
use Rattle.sets.proofs.Columns.{has_word, word_small}
use Rattle.rules.specs.Rules.{Signals}
use Rattle.rules.specs.States.{State, react, next_state, Event, Agrees, apart, halts_of, no_halts_from, fits}
use Rattle.cells.specs.Cells.{signal_cell}
use Rattle.cells.specs.Values.{registers}
use Rattle.builder.specs.Netlist.{sheet_netlist}
use Rattle.builder.proofs.Format.{netlist_registers}
use Rattle.run.specs.Words.{is_output, event_ok, state_ok}
use Rattle.run.proofs.Words.{event_no_tick, event_own}
use Rattle.run.proofs.One.{one_clock}
use Rattle.compiler.specs.Check.{Accepted}
use Rattle.agreement.specs.Demand.{others, WholeReaction}
use Rattle.agreement.specs.Words.{RuleClock, NetClock, WordReaction}
use Rattle.agreement.proofs.Admitted.{Admitted, admitted}
use Rattle.agreement.proofs.Root.{no_halt_past}
use Rattle.agreement.proofs.Made.{past_signals}
use Rattle.agreement.proofs.Theorem.{reaction}

right_off : (a b : Bool) → b ≡ false → (a && b) ≡ false
right_off = taut 2 1 _ _ _ tt

-- what is shown only where g holds need be the same only there
pub same_where : (g a b : Bool) → (g ≡ true → a ≡ b) → (g && a) ≡ (g && b)
same_where true a b f = f refl
same_where false a b f = refl

-- Past its halts a state that fits has no bit on: "only existing halts are set".
module _ (w : Sheet) (ok : Admitted w) where
  abbrev h : ℕ
  h = halt_count w.root

  past_halts : (S : State) → fits S w.root ≡ true → (j : ℕ) → 1 + h ≤ j → j < width → S j ≡ false
  unfolding fits pick
  past_halts S fit j l r = go (S boot) fit
    where
      go : (b : Bool) → pick b (no_halts_from h S && apart (halts_of S) w.root) (no_halts_from 0 S) ≡ true → S j ≡ false
      go true f =
          bit_off (max_halts - h) (1 + h) S (and_left (no_halts_from h S) (apart (halts_of S) w.root) f) j l (omega (arith, ok.proper.halts))
      go false f = bit_off max_halts 1 S f j (omega arith) (omega arith)

  -- so the netlist, which has a register for boot and one for each halt, does not refuse it
  pub state_ok_lem : (state : ℕ) → state < 2 ^ width → fits (has state) w.root ≡ true → state_ok (registers (sheet_netlist w)) state ≡ true
  state_ok_lem state small fit =
      let count : registers (sheet_netlist w) ≡ 1 + halt_count w.root = netlist_registers w.inputs (others w) w.root in
      past_none (registers (sheet_netlist w)) state (λ j l. go j (omega arith) (dec_lt j width))
    where
      go : (j : ℕ) → 1 + halt_count w.root ≤ j → Dec (j < width) → has state j ≡ false
      go j l (yes r) = past_halts (has state) fit j l r
      go j l (no r) = has_past width state j small (omega arith)

  next_bounded : (E : Signals) (S : State) → Bounded width (next_state (react E S w.root))
  next_bounded E S zero l = absurd (omega arith)
  next_bounded E S (suc k) l = no_halt_past w.root (proper_numbered ok.proper) E S k (omega (arith, ok.proper.halts))

-- a set of signals, none past the most, as a number
module _ (E : Signals) (few : (s : SignalNo) → max_signals ≤ of_signal s → E s ≡ false) where
  signal_word : ℕ
  signal_word = word_of max_signals (λ k. E (signal_no k))

  signal_word_lem : signals_in signal_word ≡ E
  unfolding signal_word
  signal_word_lem = fun_ext λ s. ap (λ (A : Codes). A (of_signal s)) (has_word max_signals (λ k. E (signal_no k)) (λ j l. few (signal_no j) l))

module _ {bytes : List ℕ} {w : Sheet} (accepted : Accepted bytes w) (state : ℕ) (small : state < 2 ^ width) (fit : fits (has state) w.root ≡ true)
    (event : ℕ) (own : event_ok w.inputs event ≡ true) where
  abbrev t : Stmt
  t = w.root

  abbrev I : ℕ
  I = w.inputs

  abbrev O : ℕ
  O = w.outputs

  abbrev J : Signals
  J = signals_in event

  abbrev S : State
  S = has state

  ok : Admitted w
  ok = admitted accepted

  is_event : Event I J
  is_event = record { no_tick = event_no_tick I event own; own = event_own I event own }

  abbrev one : WholeReaction w J S
  one = reaction accepted J S fit is_event

  present_few : (s : SignalNo) → max_signals ≤ of_signal s → one.present s ≡ false
  present_few s l =
      one.agrees s
      ∙ past_signals ok.proper ok.no_instant ok.no_twice J is_event S fit one.present s (omega (arith, ok.proper.signals))

  -- the word of the set that agrees, of its outputs, and of the next state
  present_word : ℕ
  present_word = signal_word one.present present_few

  present_is : signals_in present_word ≡ one.present
  unfolding present_word
  present_is = signal_word_lem one.present present_few

  shown : Signals
  shown s = is_output I O s && one.present s

  shown_few : (s : SignalNo) → max_signals ≤ of_signal s → shown s ≡ false
  unfolding shown
  shown_few s l = right_off (is_output I O s) (one.present s) (present_few s l)

  output_word : ℕ
  output_word = signal_word shown shown_few

  output_is : signals_in output_word ≡ shown
  unfolding output_word
  output_is = signal_word_lem shown shown_few

  next_word : ℕ
  next_word = word_of width (next_state (react one.present S t))

  next_is : has next_word ≡ next_state (react one.present S t)
  unfolding next_word
  next_is = has_word width (next_state (react one.present S t)) (next_bounded w ok one.present S)

  by_rules : RuleClock w state event output_word next_word
  unfolding shown
  by_rules =
      record {
        present = present_word;
        agrees = subst (λ (E : Signals). Agrees J S E t) (sym present_is) one.agrees;
        shows = λ s. ap (λ (E : Signals). E s) output_is ∙ sym (ap (λ (E : Signals). is_output I O s && E s) present_is);
        keeps = λ b. ap (λ (A : State). A b) next_is ∙ sym (ap (λ (E : Signals). next_state (react E S t) b) present_is);
      }

  alone_by_rules : (o n : ℕ) → RuleClock w state event o n → (o ≡ output_word) × (n ≡ next_word)
  unfolding shown
  alone_by_rules o n k =
      let same : signals_in k.present ≡ one.present = fun_ext (one.alone (signals_in k.present) k.agrees) in (
        ext o output_word (λ j. k.shows (signal_no j) ∙ ap (λ (E : Signals). is_output I O (signal_no j) && E (signal_no j)) same
            ∙ sym (ap (λ (E : Signals). E (signal_no j)) output_is)),
        ext n next_word (λ j. k.keeps j ∙ ap (λ (E : Signals). next_state (react E S t) j) same ∙ sym (ap (λ (A : State). A j) next_is)),
      )

  -- an output is one of the signals that the netlist shows
  output_shown : (s : SignalNo) → is_output I O s ≡ true → one.present s ≡ one.values (signal_cell s)
  output_shown s e =
      let most = leb-true (of_signal s) (I + O) (and_right (ltb I (of_signal s)) (leb (of_signal s) (I + O)) e) in
      sym (one.shown s (omega arith))

  by_netlist : NetClock w state event output_word next_word
  unfolding shown
  by_netlist =
      record {
        values = one.values;
        solves = one.solves;
        shows = λ s. ap (λ (E : Signals). E s) output_is
            ∙ same_where (is_output I O s) (one.present s) (one.values (signal_cell s)) (output_shown s);
        keeps = λ b. ap (λ (A : State). A b) next_is ∙ sym (one.next b);
      }

  -- one reaction
  pub word_reaction : WordReaction w state event
  unfolding next_word by_rules
  word_reaction =
      record {
        outputs = output_word;
        next = next_word;
        rules = by_rules;
        alone = alone_by_rules;
        one_set = λ E a s. one.alone E a s ∙ sym (ap (λ (X : Signals). X s) present_is);
        netlist = by_netlist;
        single = λ o n k. one_clock I O (sheet_netlist w) ok.order ok.ordered state event o output_word n next_word k by_netlist;
        event_taken = own;
        state_taken = state_ok_lem w ok state small fit;
        small = word_small width (next_state (react one.present S t));
        again = subst (λ (A : State). fits A t ≡ true) (sym next_is) one.again;
      }
