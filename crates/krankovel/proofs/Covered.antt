-- The promise of covers holds: it is proved of the definitions, and assumes nothing.
use mathlib.Core.Path.{◌≡◌, refl, sym, ap, ◌∙◌, subst}
use mathlib.Core.Bool.{true, false}
use mathlib.Core.List.{List, [], ◌∷◌}
use Prim.Native.Nat.{ℕ, zero, suc, ◌^◌, ◌<◌, ◌≤◌}
use native.Mathlib.Omega.{arith}
use lib.ListN.{length, get_or}
use Rattle.number.specs.declared.Fault.{Fault}
use Rattle.number.specs.declared.Refusal.TheVariants.{Cover}
use Rattle.number.specs.Counts.{signal_no}
use Rattle.number.specs.Refusals.{fault}
use Rattle.bits.specs.Bits.{has, signals_in, width, sets_in}
use Rattle.rules.specs.States.{fits}
use Rattle.sheet.specs.Read.{Sheet, SheetOutcome, sheet, faulty as no_sheet}
use Rattle.cells.specs.Netlist.{Netlist, WellFormed}
use Rattle.cells.proofs.Fitting.{formed_closed}
use Rattle.builder.specs.Netlist.{sheet_file}
use Rattle.order.specs.Paths.{Ordered}
use Rattle.run.specs.React.{Clock}
use Rattle.run.specs.Many.{Step, Steps, ended, goes, events_ok}
use Rattle.files.specs.Read.{FileOutcome, netlist, faulty, read_file}
use Rattle.files.proofs.Sound.{read_well_formed}
use Rattle.netlists.specs.Check.{NetChecks, accepted as in_order}
use Rattle.netlists.proofs.Checking.{one_check}
use Rattle.netlists.proofs.Exists as netlists
use Rattle.netlists.proofs.Words.{cells_right}
use Rattle.compiler.specs.Check.{Checks, Accepted}
use Rattle.covers.specs.Covers.{RightCover}
use Rattle.cuts.specs.Cutting.{HasOrder}
use Rattle.giving.specs.EachGate.{EachGate}
use Rattle.giving.specs.Reordering.{Reordered}
use Rattle.giving.proofs.Giving.{one_given, net_clock, net_runs, one_clock_of, one_run_of}
use Rattle.giving.proofs.EachGate.{each_gate}
use Rattle.giving.proofs.Reordered.{stays_right, stays_wrong}
use Rattle.verdicts.specs.declared.Answer.{Answer}
use Rattle.verdicts.specs.declared.Course.{Course}
use Rattle.verdicts.specs.declared.Reaction.{Reaction}
use Rattle.verdicts.specs.Answers.{Verdict, passes, stops, answer_of, refusal, acceptance, with_state, reaction_of}
use Rattle.verdicts.specs.Runs.{Asked, Told, Runs as RunsOn, one, Once}
use Rattle.verdicts.proofs.Running.{ran_on}
use Rattle.sheet_entries.specs.Sheets.{sheet_verdict, sheet_accepted, Checked}
use Rattle.netlist_entries.specs.Netlists.{net_verdict, net_accepted, NetChecked, net_step, NetRuns, NetReactedMany}
use Rattle.netlist_entries.proofs.OneNetAnswer.{one_net_reacted_many, one_net_reacted}
use Rattle.cover_entries.specs.Covers.{CoverVerdict, own, right, wrong, Judges, CoverChecked}
use Rattle.cover_entries.proofs.OneCoverAnswer.{one_cover_checked, answered}
use Rattle.krankovel.specs.Promise.{Answers, file_of, telling}
use Rattle.krankovel.specs.Covered.{AcceptedNet, GivesReaction, GivesRun, Covers, OfNetlist, CoveredRun, OfProgram, Covered}
use Rattle.krankovel.proofs.Sets.{small, no_output, no_register, one_set, reacted_once}
use Rattle.krankovel.proofs.Entries.{does_fit}
use Rattle.krankovel.proofs.Reactions.{ran_of, file_ok, runs, run_clocks}
use Rattle.krankovel.proofs.Promise.{refused_no, accepts}

-- an answer that is a refusal has not number 0
not_refused : {A : Type 0} {a : Answer} (f : Fault) → a ≡ refusal f → a.number ≡ 0 → A
not_refused f e is_0 = absurd (refused_no f.refusal (sym (ap (λ (x : Answer). x.number) e) ∙ is_0))

same_net : {x y : Netlist} → netlist x ≡ netlist y → x ≡ y
same_net e = cc

-- an accepted netlist is what was found, and its cells have an order
module _ {found : FileOutcome} {w : Netlist} where
  found_as : NetChecks found (netlist w) → found ≡ netlist w
  found_as (in_order order is ordered) = is

  has_order : NetChecks found (netlist w) → HasOrder w.cells
  has_order (in_order order is ordered) = (order, ordered)

-- What an accepted netlist is, and an accepted cover of it.
record IsNet (found : FileOutcome) (a : Answer) : Type 0 where
  net : Netlist
  checks : NetChecks found (netlist net)
  counts : a ≡ acceptance 0 (length net.cells)

is_net : {found : FileOutcome} {a : Answer} → NetChecked found a → a.number ≡ 0 → IsNet found a
unfolding answer_of net_verdict net_accepted
is_net {found} {a} c is_0 = go c.outcome c.checks c.answer
  where
    go : (o : FileOutcome) → NetChecks found o → a ≡ answer_of (net_verdict o) (net_accepted o) → IsNet found a
    go (faulty f) ok e = not_refused f e is_0
    go (netlist w) ok e = record { net = w; checks = ok; counts = e }

record IsCover (found : FileOutcome) (cover : List ℕ) (a : Answer) : Type 0 where
  of_net : IsNet found a
  right_so : RightCover of_net.net cover

is_cover : {found : FileOutcome} {cover : List ℕ} {a : Answer} → CoverChecked found cover a → a.number ≡ 0 → IsCover found cover a
unfolding answer_of net_accepted
is_cover {found} {cover} {a} c is_0 = go c.judges.judged c.checks c.judges.answer
  where
    go : {o : FileOutcome} {v : Verdict} → CoverVerdict cover o v → NetChecks found o → a ≡ answer_of v (net_accepted o)
        → IsCover found cover a
    go (own {f = f}) ok e = not_refused f e is_0
    go (right {w = w} r) ok e = record { of_net = record { net = w; checks = ok; counts = e }; right_so = r }
    go (wrong {place = place} f) ok e = not_refused (fault Cover place) e is_0

-- A run that was accepted is one of the netlist's clocks.
record Ran (w : Netlist) (ask : Asked) (told : Told) : Type 0 where
  shown : List ℕ
  passed : List ℕ
  steps : Steps (Clock w.inputs w.outputs w.cells) ask.state (sets_in ask.events) shown passed
  same : told ≡ telling (acceptance 0 (length w.cells)) ask shown passed

-- nothing stopped it
passed_on : {step : Step} {a : Answer} (v : Verdict) {ask : Asked} {told : Told} → RunsOn step a v ask told → told.course.number ≡ 0
    → v ≡ passes
unfolding answer_of
passed_on passes r is_0 = refl
passed_on (stops f) r is_0 = absurd (refused_no f.refusal (sym (ap (λ (x : Course). x.number) r.answer) ∙ is_0))

module _ {found : FileOutcome} {w : Netlist} (ok : NetChecks found (netlist w)) where
  ran : (ask : Asked) (told : Told) → NetReactedMany found ask told → told.course.number ≡ 0 → Ran w ask told
  unfolding net_accepted net_step
  ran ask told x is_0 =
      let y : NetRuns (netlist w) ask told = rw (one_check x.checks ok) at x.answer in
      let on = passed_on _ y is_0 in
      let steps : Steps (net_step (netlist w)) ask.state (sets_in ask.events) y.shown y.passed = y.steps on in
      let did : NetReactedMany found ask (telling (net_accepted (netlist w)) ask y.shown y.passed) =
      record { outcome = netlist w; checks = ok; answer = ran_on on (ran_of steps) } in
      record { shown = y.shown; passed = y.passed; steps = steps; same = one_net_reacted_many found ask told _ x did }

  -- the outputs of a clock have no bit past their width
  shown_small : WellFormed w → {state event outputs next : ℕ} → Clock w.inputs w.outputs w.cells state event outputs next
      → outputs < 2 ^ width
  shown_small sound {outputs = outputs} c = small width outputs past
    where
      past : (j : ℕ) → width ≤ j → has outputs j ≡ false
      past j l = c.shows (signal_no j) ∙ no_output w.inputs w.outputs j (c.values _) (omega (arith, sound.signals))

  next_small : WellFormed w → {state event outputs next : ℕ} → Clock w.inputs w.outputs w.cells state event outputs next
      → next < 2 ^ width
  next_small sound {next = next} c = small width next (λ j l. c.keeps j ∙ no_register sound c.values j l)

  all_small : WellFormed w → {state : ℕ} {events shown passed : List ℕ}
      → Steps (Clock w.inputs w.outputs w.cells) state events shown passed → (i : ℕ)
      → (get_or shown i 0 < 2 ^ width) × (get_or passed i 0 < 2 ^ width)
  all_small sound ended i = (omega arith, omega arith)
  all_small sound (goes c rest) zero = (shown_small sound c, next_small sound c)
  all_small sound (goes c rest) (suc i) = all_small sound rest i

  -- A reaction is a run over one event.
  record Reacted (state event : ℕ) (r : Reaction) : Type 0 where
    outputs : ℕ
    next : ℕ
    clock : Clock w.inputs w.outputs w.cells state event outputs next
    same : r ≡ reaction_of (with_state (acceptance 0 (length w.cells)) next) outputs

  reacted : WellFormed w → (state event : ℕ) → event < 2 ^ width → (r : Reaction) → Once (NetReactedMany found) state event r
      → r.number ≡ 0
      → Reacted state event r
  reacted sound state event h r x is_0 =
      let did = ran (one state event) x.told x.ran (sym (ap (λ (a : Reaction). a.number) x.is) ∙ is_0) in
      let steps = subst (λ (es : List ℕ). Steps (Clock w.inputs w.outputs w.cells) state es did.shown did.passed)
      (one_set event h) did.steps in
      go steps (subst (NetReactedMany found (one state event)) did.same x.ran)
    where
      go : {shown passed : List ℕ} → Steps (Clock w.inputs w.outputs w.cells) state (event ∷ []) shown passed
          → NetReactedMany found (one state event) (telling (acceptance 0 (length w.cells)) (one state event) shown passed)
          → Reacted state event r
      go (goes {signals = outputs} {next = next} c ended) told =
          let own =
          reacted_once (NetReactedMany found) (acceptance 0 (length w.cells)) state event outputs next (shown_small sound c) told in
          record { outputs = outputs; next = next; clock = c; same = one_net_reacted found state event x own }

-- What an accepted cover gives.
module _ {found : FileOutcome} (sound : (w : Netlist) → found ≡ netlist w → WellFormed w) {cover : List ℕ} {a : Answer}
    (c : IsCover found cover a)
  where
    abbrev net : Netlist
    net = c.of_net.net

    abbrev ok : NetChecks found (netlist net)
    ok = c.of_net.checks

    abbrev formed : WellFormed net
    formed = sound net (found_as ok)

    abbrev order : Ordered net.cells (has_order ok).0
    order = (has_order ok).1

    gives_reaction : (state event : ℕ) → event < 2 ^ width → (r : Reaction) → Once (NetReactedMany found) state event r → r.number ≡ 0
        → GivesReaction net cover a state event r
    gives_reaction state event h r x is_0 =
        let did = reacted ok formed state event h r x is_0 in
        let clock = net_clock c.right_so order state event did.outputs did.next did.clock in
        record {
          outputs = did.outputs;
          next = did.next;
          clock = clock;
          alone = λ v gives. one_given c.right_so order (signals_in event) (has state) v clock.values gives clock.gives;
          single = λ n m other. one_clock_of c.right_so order state event n m did.outputs did.next other clock;
          same = did.same ∙ ap (λ (b : Answer). reaction_of (with_state b did.next) did.outputs) (sym c.of_net.counts);
          outputs_small = shown_small ok formed did.clock;
          next_small = next_small ok formed did.clock;
        }

    gives_run : (ask : Asked) (told : Told) → NetReactedMany found ask told → told.course.number ≡ 0 → GivesRun net cover a ask told
    gives_run ask told x is_0 =
        let did = ran ok ask told x is_0 in
        let clocks = net_runs c.right_so order did.steps in
        record {
          outputs = did.shown;
          states = did.passed;
          clocks = clocks;
          single = λ os ns other. let only = one_run_of c.right_so order other clocks in (only.shown_same, only.states_same);
          same = did.same ∙ ap (λ (b : Answer). telling b ask did.shown did.passed) (sym c.of_net.counts);
          outputs_small = λ i. (all_small ok formed did.steps i).0;
          states_small = λ i. (all_small ok formed did.steps i).1;
        }

-- Covers of one netlist, in either form.
module _ {found : FileOutcome} (so : netlists.Answered found) (sound : (w : Netlist) → found ≡ netlist w → WellFormed w) where
  only : (cover : List ℕ) (a : Answer) → CoverChecked found cover a → a.number ≡ 0 → Covers found cover a
  unfolding answer_of net_verdict net_accepted
  only cover a x is_0 =
      let c : IsCover found cover a = is_cover x is_0 in
      let n : IsNet found a = c.of_net in
      let checked : NetChecked found a = record { outcome = netlist n.net; checks = n.checks; answer = n.counts } in
      record {
        net = n.net;
        accepted = record { is = found_as n.checks; checked = checked; number = is_0 };
        right = c.right_so;
        reacts = gives_reaction sound c;
        runs = gives_run sound c;
      }

  module _ (cover : List ℕ) (w : Netlist) (a : Answer) (ok : AcceptedNet found w a) where
    abbrev n : IsNet found a
    n = is_net ok.checked ok.number

    -- it is the netlist that was found
    the_net : n.net ≡ w
    the_net = same_net (sym (found_as n.checks) ∙ ok.is)

    checks : NetChecks found (netlist w)
    checks = subst (λ (x : Netlist). NetChecks found (netlist x)) the_net n.checks

    always : RightCover w cover → Answers (CoverChecked found cover) a
    unfolding answer_of net_accepted
    always r =
        let counts : a ≡ acceptance 0 (length w.cells) = n.counts ∙ ap (λ (x : Netlist). acceptance 0 (length x.cells)) the_net in
        let judges : Judges (netlist w) cover a = record { verdict = passes; judged = right r; answer = counts } in
        let did : CoverChecked found cover a = record { outcome = netlist w; checks = checks; judges = judges } in
        record { allowed = did; alone = λ other x. one_cover_checked found x did }

    gates : EachGate w.cells cover → Answers (CoverChecked found cover) a
    gates each =
        let formed = sound w ok.is in
        always (each_gate w (has_order checks).1 (formed_closed formed) formed.enough each)

  moved : {cover cover' : List ℕ} → Reordered cover cover' → (a : Answer) → CoverChecked found cover a → CoverChecked found cover' a
  moved {cover} {cover'} move a x =
      record {
        outcome = x.outcome;
        checks = x.checks;
        judges = record { verdict = x.judges.verdict; judged = go x.judges.judged; answer = x.judges.answer };
      }
    where
      go : {o : FileOutcome} {v : Verdict} → CoverVerdict cover o v → CoverVerdict cover' o v
      go own = own
      go (right {w = w} r) = right (stays_right w move r)
      go (wrong {w = w} f) = wrong (stays_wrong w move f)

  -- the cover has an answer, which the moved one has as well
  moved_back : {cover cover' : List ℕ} → Reordered cover cover' → (a : Answer) → CoverChecked found cover' a → CoverChecked found cover a
  moved_back {cover} move a x =
      let was = answered so cover in
      subst (CoverChecked found cover) (one_cover_checked found (moved move was.answer was.checked) x) was.checked

  of_netlist : OfNetlist found
  of_netlist = record { only = only; always = always; each_gate = gates; reordered = moved; put_back = moved_back }

-- A program, its file, a cover of it.
module _ {s : List ℕ} {w : Sheet} (ok : Accepted s w) where
  -- the file's netlist is the sheet's
  right_of : {cover : List ℕ} {b : Answer} → CoverChecked (read_file (file_of w)) cover b → b.number ≡ 0 → RightCover (sheet_file w) cover
  right_of {cover} x is_0 =
      let c = is_cover x is_0 in
      subst (λ (n : Netlist). RightCover n cover) (same_net (one_check c.of_net.checks (file_ok ok))) c.right_so

  module _ {cover : List ℕ} (r : RightCover (sheet_file w) cover) (state : ℕ) (h : state < 2 ^ width)
      (fit : fits (has state) w.root ≡ true)
      (events : List ℕ) (all : events_ok w.inputs events ≡ true) where
    covered_run : CoveredRun s w (sheet_accepted (sheet w)) cover state events
    covered_run =
        let order = (has_order (file_ok ok)).1 in
        let clocks = net_runs r order (run_clocks ok state h fit events all) in
        record {
          run = runs ok state h fit events all;
          clocks = clocks;
          single = λ os ns other. let only = one_run_of r order other clocks in (only.shown_same, only.states_same);
        }

  of_program : OfProgram s (sheet_accepted (sheet w))
  unfolding accepts
  of_program =
      record {
        accepts = accepts ok;
        runs = λ cover b x is_0 state h f. covered_run (right_of x is_0) state h (does_fit ok state f);
      }

of_programs : (s : List ℕ) (a : Answer) → Checked s a → a.number ≡ 0 → OfProgram s a
unfolding answer_of sheet_verdict
of_programs s a c is_0 = go c.outcome c.checks c.answer
  where
    go : (o : SheetOutcome) → Checks s o → a ≡ answer_of (sheet_verdict o) (sheet_accepted o) → OfProgram s a
    go (no_sheet f) ok e = not_refused f e is_0
    go (sheet w) ok e = subst (OfProgram s) (sym e) (of_program ok)

pub covered : Covered
covered =
    record {
      of_files = λ file. of_netlist (netlists.file_answered file) (λ w is. read_well_formed file is);
      of_cells = λ I O words. of_netlist (netlists.cells_answered I O words) (λ w is. (cells_right I O words is).sound);
      of_programs = of_programs;
    }
