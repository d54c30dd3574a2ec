-- What the check of a cover answers makes the entries' answers.
use mathlib.Core.Path.{◌≡◌, refl, sym, ap, ◌∙◌}
use mathlib.Core.List.{List}
use Prim.Native.Nat.{ℕ, ◌≤◌}
use native.Mathlib.Omega.{arith}
use lib.ListN.{length, take}
use Rattle.number.specs.declared.Fault.{Fault}
use Rattle.number.specs.declared.Refusal.TheVariants.{Cover}
use Rattle.number.specs.Refusals.{fault}
use Rattle.limits.specs.Limits.{max_cells}
use Rattle.cells.specs.Words.{cells_of}
use Rattle.cells.specs.Netlist.{netlist_of, WellFormed}
use Rattle.cells.proofs.Words.{cells_length}
use Rattle.cells.proofs.Fitting.{formed_closed}
use Rattle.files.specs.declared.Header.{Header}
use Rattle.files.specs.Read.{FileOutcome, netlist, faulty, read_file}
use Rattle.netlists.specs.Words.{judge_cells}
use Rattle.netlists.specs.Check.{NetChecks}
use Rattle.netlists.specs.Checked.{DidCheck, DidCheckFile}
use Rattle.netlists.proofs.Running.{file, file_is, cells_formed, accepts}
use Rattle.netlist_entries.specs.Netlists.{net_accepted}
use Rattle.netlist_entries.proofs.NetEntries.{checks, words_header, words_are}
use Rattle.covers.specs.Covers.{RightCover, FirstWrong}
use Rattle.cuts.specs.Cutting.{HasOrder}
use Rattle.covers.specs.Checking.{Judged}
use Rattle.verdicts.specs.declared.Answer.{Answer}
use Rattle.verdicts.specs.Answers.{passes, stops, answer_of, refusal, acceptance}
use Rattle.cover_entries.specs.Covers.{own, right, wrong, Judges, CoverChecked}
use Rattle.std.specs.Prelude.{Ok}

-- The columns suffice.
pub judgeable : {I O : ℕ} (words : List ℕ) {tabled marks values stack : List ℕ} → WellFormed (netlist_of I O words)
    → HasOrder (cells_of words)
    → max_cells ≤ length tabled → max_cells ≤ length marks → max_cells ≤ length values → max_cells ≤ length stack
    → Judged (cells_of words) tabled marks values stack
judgeable words formed order t m v s =
    record {
      closed = formed_closed formed;
      order = order;
      lent = record {
        few = omega (arith, formed.few);
        wide = omega (arith, formed.few);
        valued = omega (arith, formed.few);
        deep = omega (arith, formed.few);
      };
      listed = omega (arith, formed.few);
    }

-- A cover of a netlist.
module _ {I O : ℕ} (words : List ℕ) {cover : List ℕ} where
  pub is_right : {n : ℕ} → n ≡ length words → RightCover (netlist_of I O words) cover
      → Judges (netlist (netlist_of I O words)) cover (acceptance 0 n)
  unfolding answer_of net_accepted
  is_right e r = record { verdict = passes; judged = right r; answer = ap (acceptance 0) (e ∙ sym (cells_length words)) }

  pub is_wrong : {place : ℕ} → FirstWrong (netlist_of I O words) cover place
      → Judges (netlist (netlist_of I O words)) cover (refusal (fault Cover place))
  unfolding answer_of
  is_wrong {place} r = record { verdict = stops (fault Cover place); judged = wrong r; answer = refl }

-- The netlist's own fault.
pub cover_refused : {found : FileOutcome} {f : Fault} {cover : List ℕ} → NetChecks found (faulty f) → CoverChecked found cover (refusal f)
unfolding answer_of
cover_refused {f = f} was = record { outcome = faulty f; checks = was; judges = record { verdict = stops f; judged = own; answer = refl } }

-- A netlist in a file, and one as words.
pub cover_file_checked : (s : List ℕ) {h : Header} {column column' order : List ℕ}
    (d : DidCheckFile (read_file s) (Ok h) column column' order)
    → max_cells ≤ length column → {cover : List ℕ} {r : Answer}
    → Judges (netlist (netlist_of h.inputs h.outputs (take h.cells column'))) cover r
    → CoverChecked (read_file s) cover r
cover_file_checked s d long j =
    record { outcome = netlist (file s d long).found_as.net; checks = checks (file s d long); judges = rw (file_is s d long) at j }

pub cover_words_checked : (I O : ℕ) (words : List ℕ) {h : Header} {order : List ℕ} (d : DidCheck (judge_cells I O words) (Ok h) order)
    {cover : List ℕ} {r : Answer} → Judges (netlist (netlist_of h.inputs h.outputs words)) cover r → CoverChecked
    (judge_cells I O words) cover r
cover_words_checked I O words d j =
    record { outcome = netlist (accepts d).found_as.net; checks = checks (accepts d); judges = rw (words_are I O words d) at j }

pub words_formed : (I O : ℕ) (words : List ℕ) {h : Header} {order : List ℕ} (d : DidCheck (judge_cells I O words) (Ok h) order)
    → WellFormed (netlist_of h.inputs h.outputs words)
words_formed I O words d = rw (words_header I O words d) (cells_formed I O words d)
