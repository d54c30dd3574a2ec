-- One reaction of an accepted sheet from a state that fits, and runs: what the three engines answer, and that it is what the rules, the
-- netlist and 004 say.
use mathlib.Core.Path.{◌≡◌, refl, ap, ◌∙◌}
use mathlib.Core.Bool.{Bool, true, false, not}
use mathlib.Core.List.{List, [], ◌∷◌}
use Prim.Native.Nat.{ℕ, ◌+◌, ◌^◌, ◌<◌, ◌≤◌}
use native.Mathlib.Omega.{arith}
use lib.Seq.{sets}
use Rattle.number.specs.declared.SignalNo.{SignalNo}
use Rattle.number.specs.Counts.{signal_no, of_signal}
use Rattle.number.specs.Number.{pick}
use Rattle.number.proofs.Bools.{and_left, and_right, and_both}
use Rattle.limits.specs.Limits.{max_signals}
use Rattle.bits.specs.Bits.{has, signals_in, none_from, words, width, is_whole, words_of, sets_in, column_of}
use Rattle.bits.proofs.Whole.{words_of_long}
use Rattle.bits.proofs.None.{none_past}
use Rattle.sheet.specs.Stmt.{Stmt}
use Rattle.sheet.specs.Read.{Sheet, sheet}
use Rattle.sets.specs.Words.{word_of}
use Rattle.sets.proofs.Columns.{has_word, word_small}
use Rattle.rules.specs.Rules.{Signals, Outcome}
use Rattle.rules.specs.States.{react, fits}
use Rattle.cells.specs.Values.{registers}
use Rattle.cells.specs.Netlist.{Netlist}
use Rattle.builder.specs.Netlist.{sheet_netlist, sheet_file}
use Rattle.run.specs.Words.{event_ok, state_ok}
use Rattle.run.specs.Many.{Step, Steps, ended, goes, last_state, each, events_ok, Ran}
use Rattle.files.specs.Read.{FileOutcome, netlist, read_file}
use Rattle.netlists.specs.Words.{judge_cells}
use Rattle.netlists.specs.Check.{NetChecks, accepted as in_order}
use Rattle.compiler.specs.Check.{Checks, Accepted, accepted}
use Rattle.compiler.proofs.OfSheets.{built_accepted}
use Rattle.agreement.specs.Words.{RuleClock, NetClock, WordReaction}
use Rattle.agreement.proofs.Admitted.{admitted}
use Rattle.agreement.proofs.Made.{not_emitted}
use Rattle.agreement.proofs.InWords.{word_reaction, state_ok_lem}
use Rattle.berry.proofs.Promise.{faithful}
use Rattle.berry.proofs.Chains.{chained}
use Rattle.interpreter.specs.Interpret.{Moment}
use Rattle.interpreter.proofs.Interpreting.{accepted_proper}
use Rattle.interpreter.proofs.Settling.{event_of}
use Rattle.verdicts.specs.declared.Answer.{Answer}
use Rattle.verdicts.specs.Answers.{verdict, with_state, reaction_of}
use Rattle.verdicts.specs.Runs.{Asked, has_room, one, Once}
use Rattle.verdicts.proofs.Running.{ran_on}
use Rattle.sheet_entries.specs.Sheets.{sheet_verdict, sheet_accepted, sheet_events, sheet_fits, sheet_step, ReactedMany}
use Rattle.sheet_entries.proofs.OneSheetAnswer.{one_reacted_many, one_reacted}
use Rattle.netlist_entries.specs.Netlists.{net_verdict, net_accepted, net_events, net_state, net_step, NetReactedMany}
use Rattle.netlist_entries.proofs.OneNetAnswer.{one_net_reacted_many, one_net_reacted}
use Rattle.compile_entries.proofs.CompileEntries.{accepted_few}
use Rattle.compile_entries.proofs.CellsBack.{sheet_handed_in}
use Rattle.krankovel.specs.Promise.{Answers, file_of, cells_of, of_netlist, Reacts, HasReaction, Clocks, ended as no_clock}
use Rattle.krankovel.specs.Promise.{goes as clock, asking, telling, Runs}
use Rattle.krankovel.proofs.Sets.{small, no_output, one_set, one_room, reacted_once}
use Rattle.krankovel.proofs.Entries.{fitting}

-- what a run leaves in the slices
pub ran_of : {step : Step} {state : ℕ} {events signals states shown passed : List ℕ} → Steps step state (sets_in events) shown passed
    → Ran step state events signals (sets signals 0 (column_of shown)) states (sets states 0 (column_of passed)) (last_state state passed)
ran_of {shown = shown} {passed = passed} steps =
    record { shown = shown; passed = passed; steps = steps; signals_left = refl; states_left = refl; ends = refl }

-- a run that nothing stops
module _ {s : List ℕ} {w : Sheet} (ok : Accepted s w) where
  abbrev I : ℕ
  I = w.inputs

  abbrev O : ℕ
  O = w.outputs

  abbrev t : Stmt
  t = w.root

  abbrev own : Answer
  own = sheet_accepted (sheet w)

  abbrev net : Netlist
  net = sheet_file w

  -- the netlist of the sheet is accepted, in its file and as words
  pub file_ok : NetChecks (read_file (file_of w)) (netlist net)
  file_ok = go ok
    where
      go : Checks s (sheet w) → NetChecks (read_file (file_of w)) (netlist net)
      go (accepted order judged ordered) =
          let was = accepted order judged ordered in
          in_order order (built_accepted w (accepted_proper was) (accepted_few was)) ordered

  pub cells_ok : NetChecks (judge_cells I O (cells_of w)) (netlist net)
  cells_ok = sheet_handed_in ok

  module _ (ask : Asked) (events : events_ok I ask.events ≡ true) (room : has_room ask ≡ true) {shown passed : List ℕ} where
    sheet_ran : fits (has ask.state) t ≡ true → Steps (Moment t) ask.state (sets_in ask.events) shown passed
        → ReactedMany s ask (telling own ask shown passed)
    unfolding sheet_verdict sheet_events sheet_fits sheet_step verdict pick
    sheet_ran fit steps =
        record {
          outcome = sheet w;
          checks = ok;
          answer = ran_on (rw (events, fit, room)) (ran_of steps);
        }

    net_ran : {found : FileOutcome} → NetChecks found (netlist net) → state_ok (registers (sheet_netlist w)) ask.state ≡ true
        → Steps (NetClock w) ask.state (sets_in ask.events) shown passed
        → NetReactedMany found ask (telling (of_netlist own) ask shown passed)
    unfolding net_verdict net_events net_state net_step net_accepted sheet_accepted verdict pick
    net_ran was fit steps =
        record {
          outcome = netlist net;
          checks = was;
          answer = ran_on (rw (events, fit, room)) (ran_of steps);
        }

    many_by_rules : fits (has ask.state) t ≡ true → Steps (Moment t) ask.state (sets_in ask.events) shown passed
        → Answers (ReactedMany s ask) (telling own ask shown passed)
    many_by_rules fit steps =
        let ran = sheet_ran fit steps in record { allowed = ran; alone = λ other x. one_reacted_many s ask other _ x ran }

    many_by_net : {found : FileOutcome} → NetChecks found (netlist net) → state_ok (registers (sheet_netlist w)) ask.state ≡ true
        → Steps (NetClock w) ask.state (sets_in ask.events) shown passed
        → Answers (NetReactedMany found ask) (telling (of_netlist own) ask shown passed)
    many_by_net {found} was fit steps =
        let ran = net_ran was fit steps in record { allowed = ran; alone = λ other x. one_net_reacted_many found ask other _ x ran }

  -- One reaction.
  module _ (state : ℕ) (state_small : state < 2 ^ width) (fit : fits (has state) t ≡ true) (event : ℕ)
      (is_own : event_ok I event ≡ true) where
    abbrev r : WordReaction w state event
    r = word_reaction ok state state_small fit event is_own

    abbrev E : Signals
    E = signals_in r.rules.present

    abbrev o : Outcome
    o = react E (has state) t

    -- no signal past the last is emitted
    emits_few : (k : ℕ) → max_signals ≤ k → o.emits (signal_no k) ≡ false
    emits_few k l =
        let proper = (admitted ok).proper in
        not_emitted proper E (has state) (signal_no k) (λ a b. omega (arith, proper.signals))

    emissions : ℕ
    emissions = word_of max_signals (λ k. o.emits (signal_no k))

    emissions_are : (s : SignalNo) → signals_in emissions s ≡ o.emits s
    unfolding emissions
    emissions_are s = ap (λ (A : ℕ → Bool). A (of_signal s)) (has_word max_signals (λ k. o.emits (signal_no k)) emits_few)

    emissions_few : emissions < 2 ^ width
    unfolding emissions
    emissions_few = word_small max_signals (λ k. o.emits (signal_no k))

    outputs_few : r.outputs < 2 ^ width
    outputs_few = small width r.outputs past
      where
        past : (j : ℕ) → width ≤ j → has r.outputs j ≡ false
        past j l = r.rules.shows (signal_no j) ∙ no_output I O j (E (signal_no j)) (omega (arith, (admitted ok).proper.header))

    event_small : event < 2 ^ width
    event_small =
        let past = and_right (not (has event 0)) (none_from (1 + I) event) is_own in
        small width event (λ j l. none_past (1 + I) event past j (omega (arith, (admitted ok).proper.header)))

    moment : Moment t state event emissions r.next
    moment = record { present = E; agrees = r.rules.agrees; emits = emissions_are; keeps = r.rules.keeps }

    one_own : events_ok I (words_of words event) ≡ true
    unfolding each
    one_own =
        let ends : is_whole (words_of words event) ≡ true = rw (words_of_long words event) in
        let event_own : each (event_ok I) (sets_in (words_of words event)) ≡ true = rw (one_set event event_small, is_own) in
        and_both (is_whole (words_of words event)) (each (event_ok I) (sets_in (words_of words event))) ends event_own

    reacts : Reacts s w own state event emissions r.outputs r.next
    reacts =
        record {
          present = E;
          agrees = r.rules.agrees;
          alone = r.one_set;
          interpreter = by_rules;
          emits = emissions_are;
          keeps = r.rules.keeps;
          faithful = faithful ok (has state) fit (signals_in event) (event_of I event is_own) E r.rules.agrees;
          file = by_net file_ok;
          cells = by_net cells_ok;
          shows = r.rules.shows;
          again = fitting ok r.next r.again;
          emissions_small = emissions_few;
          outputs_small = outputs_few;
          next_small = r.small;
        }
      where
        run : Steps (Moment t) state (sets_in (words_of words event)) (emissions ∷ []) (r.next ∷ [])
        run = rw (one_set event event_small) (goes moment ended)

        net_run : Steps (NetClock w) state (sets_in (words_of words event)) (r.outputs ∷ []) (r.next ∷ [])
        net_run = rw (one_set event event_small) (goes r.netlist ended)

        by_rules : Answers (Once (ReactedMany s) state event) (reaction_of (with_state own r.next) emissions)
        by_rules =
            let done = reacted_once (ReactedMany s) own state event emissions r.next emissions_few
            (sheet_ran (one state event) one_own (one_room state event) fit run) in
            record { allowed = done; alone = λ other x. one_reacted s state event x done }

        by_net : {found : FileOutcome} → NetChecks found (netlist net)
            → Answers (Once (NetReactedMany found) state event) (reaction_of (with_state (of_netlist own) r.next) r.outputs)
        by_net {found} was =
            let done = reacted_once (NetReactedMany found) (of_netlist own) state event r.outputs r.next outputs_few
            (net_ran (one state event) one_own (one_room state event) was r.state_taken net_run) in
            record { allowed = done; alone = λ other x. one_net_reacted found state event x done }

    pub has_reaction : HasReaction s w own state event
    has_reaction = record { emissions = emissions; outputs = r.outputs; next = r.next; is = reacts }

  -- Many.
  pub record Course (state : ℕ) (events : List ℕ) : Type 0 where
    pub emitted : List ℕ
    pub shown : List ℕ
    pub passed : List ℕ
    pub clocks : Clocks s w own state events emitted shown passed
    pub moments : Steps (Moment t) state events emitted passed
    pub nets : Steps (NetClock w) state events shown passed
    pub rules : Steps (RuleClock w) state events shown passed

  pub course : (events : List ℕ) (state : ℕ) → state < 2 ^ width → fits (has state) t ≡ true → each (event_ok I) events ≡ true
      → Course state events
  unfolding each
  course [] state h fit all =
      record { emitted = []; shown = []; passed = []; clocks = no_clock; moments = ended; nets = ended; rules = ended }
  course (e ∷ es) state h fit all =
      let is_own : event_ok I e ≡ true = and_left (event_ok I e) (each (event_ok I) es) all in
      let r : WordReaction w state e = word_reaction ok state h fit e is_own in
      let rest : Course r.next es = course es r.next r.small r.again (and_right (event_ok I e) (each (event_ok I) es) all) in
      record {
        emitted = emissions state h fit e is_own ∷ rest.emitted;
        shown = r.outputs ∷ rest.shown;
        passed = r.next ∷ rest.passed;
        clocks = clock (reacts state h fit e is_own) rest.clocks;
        moments = goes (moment state h fit e is_own) rest.moments;
        nets = goes r.netlist rest.nets;
        rules = goes r.rules rest.rules;
      }

  pub runs : (state : ℕ) → state < 2 ^ width → fits (has state) t ≡ true → (events : List ℕ) → events_ok I events ≡ true
      → Runs s w own state events
  runs state h fit events all =
      let all_own : each (event_ok I) (sets_in events) ≡ true = and_right (is_whole events) (each (event_ok I) (sets_in events)) all in
      let c : Course state (sets_in events) = course (sets_in events) state h fit all_own in
      let taken : state_ok (registers (sheet_netlist w)) state ≡ true = state_ok_lem w (admitted ok) state h fit in
      record {
        emissions = c.emitted;
        outputs = c.shown;
        states = c.passed;
        clocks = c.clocks;
        interpreter = λ signals passed room. many_by_rules (asking state events signals passed) all room fit c.moments;
        file = λ signals passed room. many_by_net (asking state events signals passed) all room file_ok taken c.nets;
        cells = λ signals passed room. many_by_net (asking state events signals passed) all room cells_ok taken c.nets;
        chain = chained ok all_own fit c.rules;
      }

  -- the netlist's clocks are that run's
  pub run_clocks : (state : ℕ) (h : state < 2 ^ width) (fit : fits (has state) t ≡ true) (events : List ℕ) (all : events_ok I events ≡ true)
      → let run : Runs s w own state events = runs state h fit events all in
      Steps (NetClock w) state (sets_in events) run.outputs run.states
  unfolding runs
  run_clocks state h fit events all =
      (course (sets_in events) state h fit (and_right (is_whole events) (each (event_ok I) (sets_in events)) all)).nets
