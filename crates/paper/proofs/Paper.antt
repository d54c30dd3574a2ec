-- The table holds: of each row the sheet's outcome, the order of its cells, what fits, its runs and its file are computed, and the
-- entries' laws do the rest.
use mathlib.Core.Path.{◌≡◌, refl, sym, ap, ◌∙◌, subst}
use mathlib.Core.Bool.{Bool, true, ◌&&◌}
use mathlib.Core.List.{List, [], ◌∷◌, map}
use Prim.Native.Nat.{ℕ, ◌^◌, ◌<◌}
use lib.Dec.{ltb}
use borrow.Author.Tests.{ltb-true}
use Rattle.number.specs.declared.CellNo.{CellNo}
use Rattle.number.specs.declared.Fault.{Fault}
use Rattle.number.specs.declared.Refusal.TheVariants.{Cycle as CycleFault}
use Rattle.number.specs.Counts.{cell_no, of_cell}
use Rattle.number.specs.Number.{pick}
use Rattle.number.specs.Refusals.{fault}
use Rattle.number.proofs.Bools.{and_left, and_right}
use Rattle.bits.specs.Bits.{has, width, is_whole, sets_in, column_of}
use Rattle.sheet.specs.declared.Leaf.TheVariants.{Nothing}
use Rattle.sheet.specs.Stmt.{leaf, size}
use Rattle.sheet.specs.Read.{Sheet, SheetOutcome, sheet, faulty}
use Rattle.rules.specs.States.{fits}
use Rattle.builder.specs.Netlist.{sheet_netlist}
use Rattle.order.specs.Paths.{Lowest, Ordered, Answers as Ordering_is}
use Rattle.order.proofs.Unique.{answers_found, answers_cycle}
use Rattle.order.proofs.Cases.{p5_answer}
use Rattle.compiler.proofs.Passing.{faulty_sheet}
use Rattle.compiler.proofs.Exists.{answered as every_answered}
use Rattle.run.specs.Words.{event_ok}
use Rattle.run.specs.Many.{each, events_ok}
use Rattle.compiler.specs.Check.{judge, Checks, refused, cyclic, accepted, Accepted}
use Rattle.verdicts.specs.declared.Answer.{Answer}
use Rattle.verdicts.specs.Answers.{passes, verdict, answer_of, refusal}
use Rattle.sheet_entries.specs.Sheets.{sheet_verdict, sheet_accepted, Checked, sheet_fits, Fitting}
use Rattle.sheet_entries.proofs.OneSheetAnswer.{one_checked, one_fitting}
use Rattle.krankovel.specs.Promise.{Answers, file_of, Runs}
use Rattle.krankovel.proofs.Entries.{net_checked, written}
use Rattle.krankovel.proofs.Reactions.{file_ok, runs}
use Rattle.number.specs.Number.{number_at, number_bytes}
use Rattle.bits.specs.Bits.{no_bits, none_from, sets_from, words_of, whole_in}
use Rattle.sheet.specs.Stmt.{halt_count, local_count}
use Rattle.sheet.specs.Read.{signal_of, naming, emitting, exiting, halt_at, local_at, trap_at, of_kind, head_of_kind, inside, and_then, parts}
use Rattle.sheet.specs.Read.{read_stmt}
use Rattle.sheet.specs.Read.{ended, root_read, after_outputs, after_inputs, read_sheet}
use Rattle.sets.specs.Static.{K, R, has_halts}
use Rattle.sets.specs.Faults.{or_else, instant, climbs, first_fault, twice}
use Rattle.sets.specs.Words.{word_of}
use Rattle.rules.specs.Rules.{start, active, resume}
use Rattle.rules.specs.States.{react, apart}
use Rattle.gates.specs.Folding.{gate_at}
use Rattle.gates.specs.Rows.{or_row, pairs, highest, parallel_row}
use Rattle.parts.specs.Equations.{build, build_halt, build_emit, build_sequence, build_loop, build_present, build_watching, build_parallel}
use Rattle.parts.specs.Equations.{build_trap}
use Rattle.builder.specs.Netlist.{netlist, root_of, input_cells, signal_cells}
use Rattle.order.proofs.ByTest.{every, in_order_at}
use Rattle.files.specs.File.{cells_bytes, file_bytes}
use Rattle.compiler.specs.Check.{unless, roomy, judged}
use Rattle.agreement.specs.Rounds.{rounds}
use Rattle.paper.specs.Cases.{Fit, Run, Case, All, none, more, FileRuns, RunHolds, FileHolds, FitHolds, Holds, cases, p1, p2}
use Rattle.paper.specs.Cases.{p3, p4, p4_second, p5, p6, p6_second, p7, p7_second, p8, p9, p10, p11, p12, traced, guarded, branches}
use Rattle.paper.proofs.Computing.{is_ordered, accepted_by, emissions_of, outputs_of, next_of, Computed, computed, clocks_computed}
use Rattle.order.specs.declared.Cycle.{Cycle}
use Rattle.std.specs.Prelude.{Result, Ok, Err}

-- what is checked
module _ {s : List ℕ} {o : SheetOutcome} (ok : Checks s o) where
  checks : {a : Answer} → answer_of (sheet_verdict o) (sheet_accepted o) ≡ a → Answers (Checked s) a
  checks {a} e =
      let did : Checked s a = record { outcome = o; checks = ok; answer = sym e } in
      record { allowed = did; alone = λ other x. one_checked s x did }

-- A refused row: of a fault 1 to 11, or of a cycle.
module _ (k : Case) (no_states : k.states ≡ []) (no_runs : k.runs ≡ []) (no_files : k.files ≡ []) where
  refuses : {f : Fault} → Checks k.bytes (faulty f) → refusal f ≡ k.checked → Holds k
  unfolding answer_of sheet_verdict
  refuses ok e =
      record { checked = checks ok e; states = rw no_states none; runs = rw no_runs none; files = rw no_files none }

-- An accepted row.
unfoldable pub sheet_of : SheetOutcome → Sheet
sheet_of (sheet w) = w
sheet_of (faulty f) = record { inputs = 0; outputs = 0; root = leaf Nothing }

abbrev sheet_in : Case → Sheet
sheet_in k = sheet_of (judge k.bytes)

-- what `fits` answers, whether or not the state fits
unfoldable pub fit_in : Sheet → ℕ → Answer
unfolding verdict answer_of pick fits sheet_accepted
fit_in w state = answer_of (verdict passes true (fits (has state) w.root) true 0) (sheet_accepted (sheet w))

fit_answers : {s : List ℕ} {w : Sheet} → Accepted s w → (state : ℕ) → Answers (Fitting s state) (fit_in w state)
unfolding fit_in sheet_verdict sheet_fits
fit_answers {s} {w} ok state =
    let did : Fitting s state (fit_in w state) = record { outcome = sheet w; checks = ok; answer = refl } in
    record { allowed = did; alone = λ other x. one_fitting s state x did }

-- whether a run may be asked for, and what it gives
unfoldable pub may_run_in : Sheet → Run → Bool
unfolding fits each sets_in column_of
may_run_in w r = ltb r.state (2 ^ width) && (fits (has r.state) w.root && events_ok w.inputs (column_of r.events))

unfoldable pub run_in : Sheet → Run → Computed
unfolding computed sets_in column_of
run_in w r = computed w r.state (sets_in (column_of r.events))

abbrev said : Run → Computed
said r = record { emissions = r.emissions; outputs = r.outputs; states = r.states }

-- what is computed of each is what the row says of each
each_is : {A B : Type 0} (f g : A → B) (P : A → Type 0) → ((x : A) → f x ≡ g x → P x) → (xs : List A) → map f xs ≡ map g xs → All P xs
each_is f g P law [] e = none
each_is f g P law (x ∷ xs) e =
    let head : f x ≡ g x = cc in
    let tail : map f xs ≡ map g xs = cc in
    more (law x head) (each_is f g P law xs tail)

both : {A : Type 0} (P Q R : A → Type 0) → ((x : A) → P x → Q x → R x) → {xs : List A} → All P xs → All Q xs → All R xs
both P Q R law none none = none
both P Q R law (more {x = x} p ps) (more q qs) = more (law x p q) (both P Q R law ps qs)

-- all that is computed of an accepted row
record Computes (k : Case) (w : Sheet) : Type 0 where
  judged : judge k.bytes ≡ sheet w
  in_order : is_ordered (sheet_netlist w) ≡ true
  checked : sheet_accepted (sheet w) ≡ k.checked
  states : map (λ (f : Fit). fit_in w f.state) k.states ≡ map (λ (f : Fit). f.answer) k.states
  may_run : map (may_run_in w) k.runs ≡ map (λ (r : Run). true) k.runs
  runs : map (run_in w) k.runs ≡ map said k.runs
  files : map (λ (f : List ℕ). file_of w) k.files ≡ map (λ (f : List ℕ). f) k.files

-- a run with what is computed of it
abbrev with_lists : Run → Computed → Run
with_lists r x =
    record { state = r.state; events = r.events; emissions = x.emissions; outputs = x.outputs; states = x.states }

module _ (k : Case) {w : Sheet} (c : Computes k w) where
  ok : Accepted k.bytes w
  ok = accepted_by c.judged c.in_order

  abbrev own : Answer
  own = sheet_accepted (sheet w)

  -- a run that may be asked for
  module _ (r : Run) (may : may_run_in w r ≡ true) where
    abbrev column : List ℕ
    column = column_of r.events

    abbrev small_is : Bool
    small_is = ltb r.state (2 ^ width)

    abbrev fit_is : Bool
    fit_is = fits (has r.state) w.root

    abbrev own_is : Bool
    own_is = events_ok w.inputs column

    small : r.state < 2 ^ width
    unfolding may_run_in
    small = ltb-true r.state (2 ^ width) (and_left small_is (fit_is && own_is) may)

    rest : (fit_is && own_is) ≡ true
    unfolding may_run_in
    rest = and_right small_is (fit_is && own_is) may

    fit : fit_is ≡ true
    fit = and_left fit_is own_is rest

    all_own : own_is ≡ true
    all_own = and_right fit_is own_is rest

    ran : Runs k.bytes w own r.state column
    ran = runs ok r.state small fit column all_own

    abbrev lists : Computed
    lists = record { emissions = ran.emissions; outputs = ran.outputs; states = ran.states }

    ran_as : run_in w r ≡ lists
    unfolding run_in
    ran_as =
        let each_own = and_right (is_whole column) (each (event_ok w.inputs) (sets_in column)) all_own in
        clocks_computed ok fit each_own ran.clocks

    -- the run with these lists holds, and they are those of the row
    lists_hold : RunHolds k.bytes own k.files (with_lists r lists)
    lists_hold =
        record {
          interpreter = ran.interpreter;
          netlist =
              each_is (λ (f : List ℕ). file_of w) (λ (f : List ℕ). f) (FileRuns own (with_lists r lists))
              (λ file is. subst (FileRuns own (with_lists r lists)) is ran.file) k.files c.files;
        }

    run_holds : run_in w r ≡ said r → RunHolds k.bytes k.checked k.files r
    run_holds e =
        subst (λ (a : Answer). RunHolds k.bytes a k.files r) c.checked
        (subst (λ (x : Computed). RunHolds k.bytes own k.files (with_lists r x)) (sym ran_as ∙ e) lists_hold)

  file_holds : (file : List ℕ) → file_of w ≡ file → FileHolds k.bytes k.checked file
  unfolding sheet_accepted
  file_holds file is =
      let own_file : FileHolds k.bytes own (file_of w) = record { compiled = written ok; checked = net_checked (file_ok ok) } in
      subst (FileHolds k.bytes k.checked) is (subst (λ (a : Answer). FileHolds k.bytes a (file_of w)) c.checked own_file)

  accepts : Holds k
  unfolding answer_of sheet_verdict
  accepts =
      record {
        checked = checks ok c.checked;
        states =
            each_is (λ (f : Fit). fit_in w f.state) (λ (f : Fit). f.answer) (FitHolds k.bytes)
            (λ f e. subst (Answers (Fitting k.bytes f.state)) e (fit_answers ok f.state)) k.states c.states;
        runs =
            both (λ (r : Run). may_run_in w r ≡ true) (λ (r : Run). run_in w r ≡ said r) (RunHolds k.bytes k.checked k.files) run_holds
            (each_is (may_run_in w) (λ (r : Run). true) (λ (r : Run). may_run_in w r ≡ true) (λ r e. e) k.runs c.may_run)
            (each_is (run_in w) said (λ (r : Run). run_in w r ≡ said r) (λ r e. e) k.runs c.runs);
        files =
            each_is (λ (f : List ℕ). file_of w) (λ (f : List ℕ). f) (FileHolds k.bytes k.checked) file_holds k.files c.files;
      }

accepted_row : (k : Case) → let w : Sheet = sheet_in k in judge k.bytes ≡ sheet w → is_ordered (sheet_netlist w) ≡ true
    → sheet_accepted (sheet w) ≡ k.checked
    → map (λ (f : Fit). fit_in w f.state) k.states ≡ map (λ (f : Fit). f.answer) k.states
    → map (may_run_in w) k.runs ≡ map (λ (r : Run). true) k.runs → map (run_in w) k.runs ≡ map said k.runs
    → map (λ (f : List ℕ). file_of w) k.files ≡ map (λ (f : List ℕ). f) k.files → Holds k
accepted_row k judged in_order checked states may_run runs files =
    accepts k
    (record {
      judged = judged;
      in_order = in_order;
      checked = checked;
      states = states;
      may_run = may_run;
      runs = runs;
      files = files;
    })

-- A sheet whose cells have no answer but a cycle at x: every sheet has an answer, so that is this one's.
module _ (s : List ℕ) {w : Sheet} (is : judge s ≡ sheet w) (x : CellNo)
    (law : (order : List ℕ) (r : Result (Unit {0}) Cycle) → Ordering_is (sheet_netlist w) order r → r ≡ Err (record { lowest = x })) where
  cyclic_at : Checks s (faulty (fault CycleFault (of_cell x)))
  cyclic_at = go (every_answered s).checks
    where
      go : {o : SheetOutcome} → Checks s o → Checks s (faulty (fault CycleFault (of_cell x)))
      go (refused e) = faulty_sheet (sym e ∙ is)
      go (cyclic {w = v} {x = y} e lowest) =
          let own : v ≡ w = cc in
          let lowest' : Lowest (sheet_netlist w) y = subst (λ (u : Sheet). Lowest (sheet_netlist u) y) own lowest in
          let at : ◌≡◌ {A = Result (Unit {0}) Cycle} (Err (record { lowest = y })) (Err (record { lowest = x })) = law [] _ (answers_cycle lowest') in
          let cycles : ◌≡◌ {A = Cycle} (record { lowest = y }) (record { lowest = x }) = cc in
          let same : y ≡ x = ap (λ (c : Cycle). c.lowest) cycles in
          cyclic is (subst (Lowest (sheet_netlist w)) same lowest')
      go (accepted {w = v} order e ordered) =
          let own : v ≡ w = cc in
          let at : ◌≡◌ {A = Result (Unit {0}) Cycle} (Ok tt) (Err (record { lowest = x })) = law order (Ok tt) (answers_found (subst (λ (u : Sheet). Ordered (sheet_netlist u) order) own ordered)) in
          absurd (cc)

-- The table.
pub paper : All Holds cases
unfolding number_at pick has size halt_count local_count signal_of naming emitting exiting halt_at local_at trap_at of_kind head_of_kind inside
    and_then parts read_stmt ended root_read after_outputs after_inputs read_sheet K R has_halts or_else instant climbs first_fault twice unless
    roomy judged judge word_of start active resume react no_bits apart fits gate_at or_row pairs highest parallel_row build build_halt build_emit
    build_sequence build_loop build_present build_watching build_parallel build_trap netlist root_of input_cells signal_cells number_bytes
    cells_bytes file_bytes every in_order_at is_ordered sheet_accepted sheet_of fit_in may_run_in run_in computed sets_in sets_from column_of words_of
    whole_in none_from each rounds emissions_of outputs_of next_of
paper =
    more (accepted_row p1 refl refl refl refl refl refl refl)
    (more (accepted_row p2 refl refl refl refl refl refl refl)
    (more (refuses p3 refl refl refl (refused refl) refl)
    (more (refuses p4 refl refl refl (refused refl) refl)
    (more (accepted_row p4_second refl refl refl refl refl refl refl)
    (more (refuses p5 refl refl refl (cyclic_at p5.bytes {w = sheet_in p5} refl (cell_no 2) p5_answer) refl)
    (more (refuses p6 refl refl refl (refused refl) refl)
    (more (accepted_row p6_second refl refl refl refl refl refl refl)
    (more (refuses p7 refl refl refl (refused refl) refl)
    (more (refuses p7_second refl refl refl (refused refl) refl)
    (more (refuses p8 refl refl refl (refused refl) refl)
    (more (refuses p9 refl refl refl (refused refl) refl)
    (more (accepted_row p10 refl refl refl refl refl refl refl)
    (more (accepted_row p11 refl refl refl refl refl refl refl)
    (more (accepted_row p12 refl refl refl refl refl refl refl)
    (more (accepted_row traced refl refl refl refl refl refl refl)
    (more (accepted_row guarded refl refl refl refl refl refl refl)
    (more (accepted_row branches refl refl refl refl refl refl refl)
    none)))))))))))))))))
