-- Demand 1: every entry has one answer for all arguments, and a refusal leaves what was lent as it was.
use mathlib.Core.Path.{◌≡◌, refl, ap, ◌∙◌}
use mathlib.Core.Bool.{Bool, true, false}
use mathlib.Core.List.{List, [], ◌∷◌}
use Prim.Native.Nat.{ℕ, ◌^◌, ◌<◌, ◌≤◌}
use native.Mathlib.Omega.{arith}
use lib.ListN.{take}
use Rattle.number.specs.declared.CellNo.{CellNo}
use Rattle.number.specs.Counts.{signal_no, of_signal}
use Rattle.number.proofs.Bools.{and_right}
use Rattle.limits.specs.Limits.{max_signals, max_registers}
use Rattle.bits.specs.Bits.{has, signals_in, words, width, is_whole, whole_in, words_of, sets_in, bits_of}
use Rattle.sheet.specs.Read.{SheetOutcome, sheet, faulty}
use Rattle.sets.specs.Words.{word_of}
use Rattle.sets.proofs.Columns.{has_word}
use Rattle.rules.specs.States.{fits}
use Rattle.cells.specs.Values.{Solves, next_of}
use Rattle.cells.specs.Netlist.{Netlist, WellFormed}
use Rattle.order.specs.Paths.{Ordered}
use Rattle.run.specs.Words.{outputs_of, event_ok}
use Rattle.run.specs.Many.{Step, Steps, ended, goes, each, events_ok}
use Rattle.run.specs.React.{Clock}
use Rattle.run.proofs.One.{a_solution}
use Rattle.files.specs.Read.{FileOutcome, netlist, faulty as no_netlist, read_file}
use Rattle.files.proofs.Sound.{read_well_formed}
use Rattle.netlists.specs.Words.{judge_cells}
use Rattle.netlists.specs.Check.{NetChecks, refused as net_refused, cyclic as net_cyclic, accepted as in_order}
use Rattle.netlists.proofs.Exists as netlists
use Rattle.netlists.proofs.Words.{cells_right}
use Rattle.compiler.specs.Check.{Checks}
use Rattle.compiler.proofs.Exists as sheets
use Rattle.verdicts.specs.declared.Answer.{Answer}
use Rattle.verdicts.specs.declared.Reaction.{Reaction}
use Rattle.verdicts.specs.Answers.{Verdict, passes, stops, verdict, answer_of, refusal, with_state, buffer_after, reaction_of}
use Rattle.verdicts.specs.Runs.{Asked, Told, needed, has_room, Runs, one, Once}
use Rattle.verdicts.proofs.Running.{all_pass, ran_stopped, ran_on, one_once}
use Rattle.sheet_entries.specs.Sheets.{sheet_verdict, sheet_accepted, Checked, sheet_fits, Fitting, sheet_events, sheet_step, ReactedMany}
use Rattle.sheet_entries.proofs.OneSheetAnswer.{one_checked, one_fitting, one_reacted_many}
use Rattle.netlist_entries.specs.Netlists.{net_verdict, net_accepted, NetChecked, net_events, net_state, net_step, NetReactedMany}
use Rattle.netlist_entries.specs.Files.{file_of as filed_as, write_verdict, NetWritten}
use Rattle.netlist_entries.specs.Cells.{words_of as words_in, listing_of, NetListed}
use Rattle.netlist_entries.proofs.OneNetAnswer.{one_net_checked, one_net_written, one_net_listed, one_net_reacted_many}
use Rattle.compile_entries.specs.Compile.{sheet_net, Written, Listed}
use Rattle.compile_entries.proofs.OneCompileAnswer.{one_written, one_listed}
use Rattle.cover_entries.specs.Covers.{CoverChecked}
use Rattle.cover_entries.proofs.OneCoverAnswer as covers
use Rattle.cover_entries.proofs.OneCoverAnswer.{one_cover_checked}
use Rattle.krankovel.specs.Promise.{Answered, Lent, LentTwo, Returned, Entries, telling}
use Rattle.krankovel.proofs.Sets.{no_output, no_register}
use Rattle.krankovel.proofs.Entries.{leaves}
use Rattle.krankovel.proofs.Reactions.{ran_of, course}

-- two constructors are never equal
never : {A : Type 0} → ◌≡◌ {A = ℕ} 0 1 → A
never e = absurd (omega arith)

-- what a refusal leaves, where an acceptance has number 0
kept : (v : Verdict) (accepted : Answer) (file buffer : List ℕ) → (v ≡ passes → accepted.number ≡ 0)
    → ((answer_of v accepted).number ≡ 0 → ⊥)
    → buffer_after v file buffer ≡ buffer
unfolding answer_of buffer_after
kept passes accepted file buffer is_0 n = absurd (n (is_0 refl))
kept (stops f) accepted file buffer is_0 n = refl

kept_words : (v : Verdict) (o : FileOutcome) (accepted : Answer) (file buffer : List ℕ) → (v ≡ passes → (listing_of v o accepted).number ≡ 0)
    → ((listing_of v o accepted).number ≡ 0 → ⊥) → buffer_after v file buffer ≡ buffer
unfolding listing_of buffer_after
kept_words passes o accepted file buffer is_0 n = absurd (n (is_0 refl))
kept_words (stops f) o accepted file buffer is_0 n = refl

-- nothing is written of a fault, so that what passes is a netlist, and its acceptance has number 0
module _ (whole buffer : List ℕ) where
  net_0 : (o : FileOutcome) → write_verdict o whole buffer ≡ passes → (net_accepted o).number ≡ 0
  unfolding write_verdict verdict net_verdict net_accepted
  net_0 (no_netlist f) e = never (cc)
  net_0 (netlist w) e = refl

  sheet_0 : (o : SheetOutcome) → write_verdict (sheet_net o) whole buffer ≡ passes → (sheet_accepted o).number ≡ 0
  unfolding sheet_net write_verdict verdict net_verdict sheet_accepted
  sheet_0 (faulty f) e = never (cc)
  sheet_0 (sheet w) e = refl

  list_0 : (o : FileOutcome) (a : Answer) → (write_verdict o whole buffer ≡ passes → a.number ≡ 0) → write_verdict o whole buffer ≡ passes
      → (listing_of (write_verdict o whole buffer) o a).number ≡ 0
  unfolding write_verdict verdict net_verdict listing_of
  list_0 (no_netlist f) a is_0 e = never (cc)
  list_0 (netlist w) a is_0 e = by_verdict (write_verdict (netlist w) whole buffer) e
    where
      by_verdict : (v : Verdict) → v ≡ passes → (listing_of v (netlist w) a).number ≡ 0
      by_verdict passes p = is_0 e
      by_verdict (stops f) p = never (cc)

-- The entries that write.
abbrev writing : FileOutcome → List ℕ → Verdict
writing o buffer = write_verdict o (filed_as o) buffer

abbrev handing : FileOutcome → List ℕ → Verdict
handing o words = write_verdict o (words_in o) words

module _ (s : List ℕ) where
  abbrev found : SheetOutcome
  found = (sheets.answered s).outcome

  abbrev so : Checks s found
  so = (sheets.answered s).checks

  abbrev accepted : Answer
  accepted = sheet_accepted found

  of_check : Answered (Checked s)
  of_check =
      let did : Checked s (answer_of (sheet_verdict found) accepted) = record { outcome = found; checks = so; answer = refl } in
      record { answer = answer_of (sheet_verdict found) accepted; is = record { allowed = did; alone = λ other x. one_checked s x did } }

  of_fits : (state : ℕ) → Answered (Fitting s state)
  of_fits state =
      let v : Verdict = verdict (sheet_verdict found) true (sheet_fits found state) true 0 in
      let did : Fitting s state (answer_of v accepted) = record { outcome = found; checks = so; answer = refl } in
      record { answer = answer_of v accepted; is = record { allowed = did; alone = λ other x. one_fitting s state x did } }

  of_compile : (buffer : List ℕ) → Lent (λ r. r.number) (λ r left. Written s r buffer left) buffer
  of_compile buffer =
      let o : FileOutcome = sheet_net found in
      let v : Verdict = writing o buffer in
      record {
        answer = answer_of v accepted;
        left = buffer_after v (filed_as o) buffer;
        is = leaves (λ r left. Written s r buffer left) (λ other left. one_written s buffer)
            (record { outcome = found; checks = so; filed = record { answer = refl; left = refl } });
        kept = kept v accepted (filed_as o) buffer (sheet_0 (filed_as o) buffer found);
      }

  of_compile_cells : (words : List ℕ) → Lent (λ r. r.number) (λ r left. Listed s r words left) words
  of_compile_cells words =
      let o : FileOutcome = sheet_net found in
      let v : Verdict = handing o words in
      record {
        answer = listing_of v o accepted;
        left = buffer_after v (words_in o) words;
        is = leaves (λ r left. Listed s r words left) (λ other left. one_listed s words)
            (record { outcome = found; checks = so; handed = record { answer = refl; left = refl } });
        kept = kept_words v o accepted (words_in o) words (list_0 (words_in o) words o accepted (sheet_0 (words_in o) words found));
      }

-- of a netlist in either form
module _ {found : FileOutcome} (so : netlists.Answered found) where
  abbrev o : FileOutcome
  o = so.outcome

  of_net_check : Answered (NetChecked found)
  of_net_check =
      let did : NetChecked found (answer_of (net_verdict o) (net_accepted o)) = record { outcome = o; checks = so.checks; answer = refl } in
      record {
        answer = answer_of (net_verdict o) (net_accepted o);
        is = record { allowed = did; alone = λ other x. one_net_checked found x did };
      }

  of_net_write : (buffer : List ℕ) → Lent (λ r. r.number) (λ r left. NetWritten found r buffer left) buffer
  of_net_write buffer =
      let v : Verdict = writing o buffer in
      record {
        answer = answer_of v (net_accepted o);
        left = buffer_after v (filed_as o) buffer;
        is = leaves (λ r left. NetWritten found r buffer left) (λ other left. one_net_written found buffer)
            (record { outcome = o; checks = so.checks; filed = record { answer = refl; left = refl } });
        kept = kept v (net_accepted o) (filed_as o) buffer (net_0 (filed_as o) buffer o);
      }

  of_net_list : (words : List ℕ) → Lent (λ r. r.number) (λ r left. NetListed found r words left) words
  of_net_list words =
      let v : Verdict = handing o words in
      record {
        answer = listing_of v o (net_accepted o);
        left = buffer_after v (words_in o) words;
        is = leaves (λ r left. NetListed found r words left) (λ other left. one_net_listed found words)
            (record { outcome = o; checks = so.checks; handed = record { answer = refl; left = refl } });
        kept = kept_words v o (net_accepted o) (words_in o) words (list_0 (words_in o) words o (net_accepted o) (net_0 (words_in o) words o));
      }

-- of a cover
of_cover : {found : FileOutcome} → netlists.Answered found → (cover : List ℕ) → Answered (CoverChecked found cover)
of_cover {found} so cover =
    let a = covers.answered so cover in
    record { answer = a.answer; is = record { allowed = a.checked; alone = λ other x. one_cover_checked found x a.checked } }

-- The entries that run: what is told where nothing stops a run, of which there is one, and where something does.
record HasRun (step : Step) (ask : Asked) : Type 0 where
  shown : List ℕ
  passed : List ℕ
  steps : Steps step ask.state (sets_in ask.events) shown passed

record HasTold (step : Step) (accepted : Answer) (v : Verdict) (ask : Asked) : Type 0 where
  told : Told
  ran : Runs step accepted v ask told
  signals : (told.course.number ≡ 0 → ⊥) → told.signals ≡ ask.signals
  states : (told.course.number ≡ 0 → ⊥) → told.states ≡ ask.states
  state : (told.course.number ≡ 0 → ⊥) → told.course.state ≡ bits_of ask.state

tells : {step : Step} {accepted : Answer} (v : Verdict) {ask : Asked} → (v ≡ passes → HasRun step ask) → (v ≡ passes → accepted.number ≡ 0)
    → HasTold step accepted v ask
tells {accepted = accepted} passes {ask} run is_0 =
    let r = run refl in
    record {
      told = telling accepted ask r.shown r.passed;
      ran = ran_on refl (ran_of r.steps);
      signals = λ n. absurd (n (is_0 refl));
      states = λ n. absurd (n (is_0 refl));
      state = λ n. absurd (n (is_0 refl));
    }
tells (stops f) {ask} run is_0 =
    record {
      told = record { course = with_state (refusal f) ask.state; signals = ask.signals; states = ask.states };
      ran = ran_stopped refl;
      signals = λ n. refl;
      states = λ n. refl;
      state = λ n. refl;
    }

-- a reaction is a run over one event
zero_set : whole_in (take words (words_of words 0)) ≡ 0
unfolding words_of whole_in
zero_set = refl

returns : (many : Asked → Told → Type 0) → ((ask : Asked) (t t' : Told) → many ask t → many ask t' → t ≡ t') → {state event : ℕ}
    → LentTwo many (one state event) → Returned (Once many state event) state
returns many alone {state} {event} l =
    let t : Told = l.told in
    let r : Reaction = reaction_of t.course (whole_in (take words t.signals)) in
    let did : Once many state event r = record { told = t; ran = l.is.allowed; is = refl } in
    record {
      answer = r;
      is = record { allowed = did; alone = λ other x. one_once many alone x did };
      signals = λ n. ap (λ (ws : List ℕ). bits_of (whole_in (take words ws))) (l.signals n) ∙ ap bits_of zero_set;
      state_back = l.state;
    }

-- of a sheet: an accepted one has a moment for each event
module _ (s : List ℕ) (ask : Asked) (small : ask.state < 2 ^ width) where
  abbrev run_verdict : SheetOutcome → Verdict
  run_verdict o = verdict (sheet_verdict o) (sheet_events o ask.events) (sheet_fits o ask.state) (has_room ask) (needed ask)

  sheet_run : (o : SheetOutcome) → Checks s o → run_verdict o ≡ passes → HasRun (sheet_step o) ask
  unfolding sheet_verdict verdict sheet_events sheet_fits sheet_step
  sheet_run (faulty f) ok e = never (cc)
  sheet_run (sheet w) ok e =
      let all = all_pass (events_ok w.inputs ask.events) (fits (has ask.state) w.root) (has_room ask) (needed ask) e in
      let events : List ℕ = sets_in ask.events in
      let own = and_right (is_whole ask.events) (each (event_ok w.inputs) events) all.events_pass in
      let c = course ok events ask.state small all.state_passes own in
      record { shown = c.emitted; passed = c.passed; steps = c.moments }

  sheet_run_0 : (o : SheetOutcome) → run_verdict o ≡ passes → (sheet_accepted o).number ≡ 0
  unfolding sheet_verdict verdict sheet_accepted
  sheet_run_0 (faulty f) e = never (cc)
  sheet_run_0 (sheet w) e = refl

  of_react_many : LentTwo (λ a told. ReactedMany s a told) ask
  of_react_many =
      let o : SheetOutcome = found s in
      let t = tells (run_verdict o) (sheet_run o (so s)) (sheet_run_0 o) in
      let did : ReactedMany s ask t.told = record { outcome = o; checks = so s; answer = t.ran } in
      record {
        told = t.told;
        is = record { allowed = did; alone = λ other x. one_reacted_many s ask other t.told x did };
        signals = t.signals;
        states = t.states;
        state = t.state;
      }

-- of a netlist: well-formed cells in an order have a clock for each event
module _ {w : Netlist} (sound : WellFormed w) {order : List ℕ} (ordered : Ordered w.cells order) where
  record HasClock (state event : ℕ) : Type 0 where
    outputs : ℕ
    next : ℕ
    clock : Clock w.inputs w.outputs w.cells state event outputs next

  a_clock : (state event : ℕ) → HasClock state event
  a_clock state event =
      record {
        outputs = word_of max_signals shown;
        next = word_of max_registers (next_of v w.cells);
        clock = record {
          values = v;
          solves = solution.1;
          shows = λ s. ap (λ (A : ℕ → Bool). A (of_signal s)) (has_word max_signals shown shown_few);
          keeps = λ b. ap (λ (A : ℕ → Bool). A b) (has_word max_registers (next_of v w.cells) (no_register sound v));
        };
      }
    where
      solution : (v : CellNo → Bool) × Solves (signals_in event) (has state) w.cells v
      solution = a_solution w.cells order ordered (signals_in event) (has state)

      v : CellNo → Bool
      v = solution.0

      shown : ℕ → Bool
      shown k = outputs_of w.inputs w.outputs v (signal_no k)

      shown_few : (k : ℕ) → max_signals ≤ k → shown k ≡ false
      shown_few k l = no_output w.inputs w.outputs k (v _) (omega (arith, sound.signals))

  clocks : (events : List ℕ) (state : ℕ)
      → (os : List ℕ) × (ns : List ℕ) × Steps (Clock w.inputs w.outputs w.cells) state events os ns
  clocks [] state = ([], [], ended)
  clocks (e ∷ es) state =
      let c = a_clock state e in
      let rest = clocks es c.next in
      (c.outputs ∷ rest.0, c.next ∷ rest.1, goes c.clock rest.2)

module _ {found : FileOutcome} (so : netlists.Answered found) (sound : (w : Netlist) → found ≡ netlist w → WellFormed w) (ask : Asked) where
  abbrev net_verdict_lem : FileOutcome → Verdict
  net_verdict_lem o = verdict (net_verdict o) (net_events o ask.events) (net_state o ask.state) (has_room ask) (needed ask)

  net_run : {o : FileOutcome} → NetChecks found o → net_verdict_lem o ≡ passes → HasRun (net_step o) ask
  unfolding net_verdict verdict net_step
  net_run (in_order {w = w} order is ordered) e =
      let c = clocks (sound w is) ordered (sets_in ask.events) ask.state in
      record { shown = c.0; passed = c.1; steps = c.2 }
  net_run (net_refused is) e = never (cc)
  net_run (net_cyclic is lowest) e = never (cc)

  net_run_0 : (o : FileOutcome) → net_verdict_lem o ≡ passes → (net_accepted o).number ≡ 0
  unfolding net_verdict verdict net_accepted
  net_run_0 (no_netlist f) e = never (cc)
  net_run_0 (netlist w) e = refl

  of_net_runs : LentTwo (λ a told. NetReactedMany found a told) ask
  of_net_runs =
      let o : FileOutcome = so.outcome in
      let t = tells (net_verdict_lem o) (net_run so.checks) (net_run_0 o) in
      let did : NetReactedMany found ask t.told = record { outcome = o; checks = so.checks; answer = t.ran } in
      record {
        told = t.told;
        is = record { allowed = did; alone = λ other x. one_net_reacted_many found ask other t.told x did };
        signals = t.signals;
        states = t.states;
        state = t.state;
      }

-- All entries.
pub entries : Entries
entries =
    record {
      of_check = of_check;
      of_fits = of_fits;
      of_compile = of_compile;
      of_compile_cells = of_compile_cells;
      of_react = λ s state event small. returns (ReactedMany s) (one_reacted_many s) (of_react_many s (one state event) small);
      of_react_many = of_react_many;
      of_check_file = λ file. of_net_check (netlists.file_answered file);
      of_read_file = λ file. of_net_list (netlists.file_answered file);
      of_react_file = λ file state event.
          returns (NetReactedMany (read_file file)) (one_net_reacted_many (read_file file)) (file_runs file (one state event));
      of_react_file_many = file_runs;
      of_check_cells = λ I O words. of_net_check (netlists.cells_answered I O words);
      of_write_cells = λ I O words. of_net_write (netlists.cells_answered I O words);
      of_react_cells = λ I O words state event.
          let found : FileOutcome = judge_cells I O words in
          returns (NetReactedMany found) (one_net_reacted_many found) (cells_runs I O words (one state event));
      of_react_cells_many = cells_runs;
      of_cover_file = λ file. of_cover (netlists.file_answered file);
      of_cover_cells = λ I O words. of_cover (netlists.cells_answered I O words);
    }
  where
    file_runs : (file : List ℕ) (ask : Asked) → LentTwo (λ a told. NetReactedMany (read_file file) a told) ask
    file_runs file = of_net_runs (netlists.file_answered file) (λ w is. read_well_formed file is)

    cells_runs : (I O : ℕ) (words : List ℕ) (ask : Asked) → LentTwo (λ a told. NetReactedMany (judge_cells I O words) a told) ask
    cells_runs I O words = of_net_runs (netlists.cells_answered I O words) (λ w is. (cells_right I O words is).sound)
