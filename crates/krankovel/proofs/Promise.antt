-- The promise holds: it is proved of the definitions, and assumes nothing.
use mathlib.Core.Path.{◌≡◌, refl, sym, ap, ◌∙◌, subst}
use mathlib.Core.List.{List}
use Prim.Native.Nat.{ℕ}
use native.Mathlib.Omega.{arith}
use lib.ListN.{length}
use Rattle.number.specs.declared.Refusal.{Refusal}
use Rattle.number.specs.declared.Refusal.TheVariants.{Short, Number, Kind, Count, Scope, Emit, Exit, Extra, Instant, Twice, Room, Cycle}
use Rattle.number.specs.declared.Refusal.TheVariants.{Event, State, Buffer, Cell}
use Rattle.number.specs.declared.Refusal.TheVariants.{Word, Name, Cover, Order, Line, States}
use Rattle.number.specs.Refusals.{refusal_no}
use Rattle.sheet.specs.Read.{Sheet, SheetOutcome, sheet, faulty}
use Rattle.cells.specs.Netlist.{Netlist, netlist_of}
use Rattle.files.specs.File.{file_bytes}
use Rattle.files.specs.Read.{FileOutcome, netlist, faulty as no_netlist, read_file}
use Rattle.netlists.specs.Words.{judge_cells}
use Rattle.netlists.specs.Check.{NetChecks, accepted as in_order}
use Rattle.netlists.proofs.Words.{cells_right}
use Rattle.netlists.proofs.Running.{written_accepted}
use Rattle.compiler.specs.Check.{Checks, refused, cyclic, Accepted}
use Rattle.compiler.proofs.Exists as sheets
use Rattle.agreement.proofs.WordRuns.{fresh_fits}
use Rattle.verdicts.specs.declared.Answer.{Answer}
use Rattle.verdicts.specs.Answers.{answer_of, acceptance}
use Rattle.sheet_entries.specs.Sheets.{sheet_verdict, sheet_accepted, Checked}
use Rattle.sheet_entries.proofs.OneSheetAnswer.{one_checked}
use Rattle.netlist_entries.specs.Netlists.{net_verdict, net_accepted, NetChecked}
use Rattle.krankovel.specs.Promise.{Judged, Accepts, ReadBack, Promise}
use Rattle.krankovel.proofs.Answering.{entries}
use Rattle.krankovel.proofs.Entries.{net_checked, net_written, net_no_room, net_listed, written, no_room, listed, fitting, does_fit}
use Rattle.krankovel.proofs.Reactions.{file_ok, cells_ok, has_reaction, runs}

-- no refusal has number 0
pub refused_no : (r : Refusal) → refusal_no r ≡ 0 → ⊥
refused_no Short e = omega (arith, e)
refused_no Number e = omega (arith, e)
refused_no Kind e = omega (arith, e)
refused_no Count e = omega (arith, e)
refused_no Scope e = omega (arith, e)
refused_no Emit e = omega (arith, e)
refused_no Exit e = omega (arith, e)
refused_no Extra e = omega (arith, e)
refused_no Instant e = omega (arith, e)
refused_no Twice e = omega (arith, e)
refused_no Room e = omega (arith, e)
refused_no Cycle e = omega (arith, e)
refused_no Event e = omega (arith, e)
refused_no State e = omega (arith, e)
refused_no Buffer e = omega (arith, e)
refused_no Cell e = omega (arith, e)
refused_no Word e = omega (arith, e)
refused_no Name e = omega (arith, e)
refused_no Cover e = omega (arith, e)
refused_no Order e = omega (arith, e)
refused_no Line e = omega (arith, e)
refused_no States e = omega (arith, e)

-- Demand 2: the one answer of a check.
module _ (s : List ℕ) where
  checked : {o : SheetOutcome} → Checks s o → Checked s (answer_of (sheet_verdict o) (sheet_accepted o))
  checked {o} ok = record { outcome = o; checks = ok; answer = refl }

  abbrev found : sheets.Answered s
  found = sheets.answered s

  answer : Answer
  answer = answer_of (sheet_verdict found.outcome) (sheet_accepted found.outcome)

  answer_is : {o : SheetOutcome} → Checks s o → answer ≡ answer_of (sheet_verdict o) (sheet_accepted o)
  unfolding answer
  answer_is ok = one_checked s (checked found.checks) (checked ok)

  judged : Judged s
  unfolding answer answer_of sheet_verdict sheet_accepted
  judged =
      record {
        answer = answer;
        is = record { allowed = checked found.checks; alone = λ other x. one_checked s x (checked found.checks) };
        faulty_sheet = λ f e. answer_is (refused e);
        cyclic = λ w e x lowest. answer_is (cyclic e lowest);
        free = λ w e none. answer_is (sheets.acyclic_accepted s e none);
      }

-- Demands 2 and 3: an accepted sheet.
module _ {s : List ℕ} {w : Sheet} (ok : Accepted s w) where
  unfoldable pub accepts : Accepts s (sheet_accepted (sheet w))
  unfolding sheet_accepted
  accepts =
      record {
        read = w;
        accepts = ok;
        compiled = written ok;
        no_room = no_room ok;
        handed = listed ok;
        checked = net_checked (file_ok ok);
        back = net_listed (file_ok ok);
        again = net_written (cells_ok ok);
        fresh = fitting ok 0 (fresh_fits w.root);
        reacts = λ state small f. has_reaction ok state small (does_fit ok state f);
        runs = λ state small f. runs ok state small (does_fit ok state f);
      }

accepted : (s : List ℕ) (a : Answer) → Checked s a → a.number ≡ 0 → Accepts s a
unfolding answer_of sheet_verdict
accepted s a c is_0 = go c.outcome c.checks c.answer
  where
    go : (o : SheetOutcome) → Checks s o → a ≡ answer_of (sheet_verdict o) (sheet_accepted o) → Accepts s a
    go (faulty f) ok e = absurd (refused_no f.refusal (sym (ap (λ (x : Answer). x.number) e) ∙ is_0))
    go (sheet w) ok e = subst (Accepts s) (sym e) (accepts ok)

-- Demand 2: cells that were accepted.
module _ (I O : ℕ) (words : List ℕ) where
  abbrev net : Netlist
  net = netlist_of I O words

  the_net : {w : Netlist} → NetChecks (judge_cells I O words) (netlist w) → w ≡ net
  the_net (in_order order is ordered) = (cells_right I O words is).is

  back : NetChecks (judge_cells I O words) (netlist net) → ReadBack I O words (acceptance 0 (length net.cells))
  back (in_order order is ordered) =
      let right = cells_right I O words is in
      let ok : NetChecks (judge_cells I O words) (netlist net) = in_order order is ordered in
      let file_is : NetChecks (read_file (file_bytes net)) (netlist net) = written_accepted net order right.sound ordered in
      record {
        file = file_bytes net;
        written = net_written ok;
        no_room = net_no_room ok;
        back = λ slice room. rw right.packed at (net_listed file_is slice (rw right.packed room));
      }

  read_back : (a : Answer) → NetChecked (judge_cells I O words) a → a.number ≡ 0 → ReadBack I O words a
  unfolding answer_of net_verdict net_accepted
  read_back a c is_0 = go c.outcome c.checks c.answer
    where
      go : (o : FileOutcome) → NetChecks (judge_cells I O words) o → a ≡ answer_of (net_verdict o) (net_accepted o) → ReadBack I O words a
      go (no_netlist f) ok e = absurd (refused_no f.refusal (sym (ap (λ (x : Answer). x.number) e) ∙ is_0))
      go (netlist w) ok e =
          let same : w ≡ net = the_net ok in
          let count = ap (λ (n : Netlist). acceptance 0 (length n.cells)) same in
          let ok_net = subst (λ (n : Netlist). NetChecks (judge_cells I O words) (netlist n)) same ok in
          subst (ReadBack I O words) (sym (e ∙ count)) (back ok_net)

pub promise : Promise
promise = record { entries = entries; judged = judged; accepted = accepted; read_back = read_back }
