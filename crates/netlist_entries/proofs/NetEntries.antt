-- What the checks of a netlist answer makes the entries' answers, and what a checked netlist is to be run.
use mathlib.Core.Path.{◌≡◌, refl, sym, ap, ◌∙◌, subst}
use mathlib.Core.Bool.{Bool}
use mathlib.Core.List.{List}
use Prim.Native.Nat.{ℕ, ◌≤◌}
use native.Mathlib.Omega.{arith}
use lib.ListN.{length, take, length-map}
use Rattle.number.specs.declared.Fault.{Fault}
use Rattle.limits.specs.Limits.{max_cells, max_registers}
use Rattle.cells.specs.Words.{cell_in, cells_of}
use Rattle.cells.specs.Netlist.{Netlist, netlist_of}
use Rattle.cells.proofs.Words.{cells_length}
use Rattle.cells.proofs.Fitting.{formed_closed}
use Rattle.run.specs.React.{Clockable, Numberable, Numbers, Prepared}
use Rattle.files.specs.declared.Header.{Header}
use Rattle.files.specs.Read.{FileOutcome, netlist, faulty, read_file}
use Rattle.files.specs.Answer.{header_of}
use Rattle.netlists.specs.Words.{judge_cells}
use Rattle.netlists.specs.Check.{NetChecks, accepted}
use Rattle.netlists.specs.Checked.{DidCheck, DidCheckFile}
use Rattle.netlists.proofs.Checking.{answered_fault}
use Rattle.netlists.proofs.Words.{CellsRight, cells_right}
use Rattle.netlists.proofs.Running.{Accepts, accepts, same_net, sound, count, file_formed, file_ordered, cells_formed, cells_ordered}
use Rattle.verdicts.specs.Answers.{answer_of, refusal, acceptance}
use Rattle.netlist_entries.specs.Netlists.{net_verdict, net_accepted, NetChecked}
use Rattle.netlist_entries.specs.Code.{Checked}
use Rattle.std.specs.Prelude.{Result, Ok, Err}

-- a netlist's own fault
module _ {found : FileOutcome} {f : Fault} where
  pub net_refused : {r : Result Header Fault} {order : List ℕ} → DidCheck found r order → r ≡ Err f → NetChecks found (faulty f)
  net_refused d e = subst (NetChecks found) (answered_fault d.outcome (sym d.answer ∙ e)) d.checks

  pub checked_refused : NetChecks found (faulty f) → NetChecked found (refusal f)
  unfolding answer_of net_verdict
  checked_refused was = record { outcome = faulty f; checks = was; answer = refl }

-- a netlist that was accepted
module _ {found : FileOutcome} {h : Header} {order : List ℕ} (a : Accepts found h order) where
  abbrev pub net : Netlist
  net = a.found_as.net

  pub checks : NetChecks found (netlist net)
  checks = accepted order a.found_as.is a.ordered

  pub net_checked : NetChecked found (acceptance 0 h.cells)
  unfolding answer_of net_verdict net_accepted
  net_checked = record { outcome = netlist net; checks = checks; answer = ap (λ (k : Header). acceptance 0 k.cells) a.found_as.header }

-- the netlist that words mean, counted by its words
pub words_answer : (I O : ℕ) (words : List ℕ) → acceptance 0 (length words) ≡ net_accepted (netlist (netlist_of I O words))
unfolding net_accepted
words_answer I O words = ap (acceptance 0) (sym (length-map words cell_in))

-- of cells as words that were checked: the netlist that they mean was accepted, with its I, O and count
module _ (I O : ℕ) (words : List ℕ) {h : Header} {order : List ℕ} (d : DidCheck (judge_cells I O words) (Ok h) order) where
  right : CellsRight I O words (accepts d).found_as.net
  right = cells_right I O words (accepts d).found_as.is

  pub words_checks : NetChecks (judge_cells I O words) (netlist (netlist_of I O words))
  words_checks = rw right.is at (checks (accepts d))

  pub words_header : h ≡ header_of (netlist_of I O words)
  words_header = (accepts d).found_as.header ∙ ap header_of right.is

  pub words_count : h.cells ≡ length words
  words_count = ap (λ (k : Header). k.cells) words_header ∙ length-map words cell_in

  pub words_checked : NetChecked (judge_cells I O words) (acceptance 0 (length words))
  words_checked = rw words_count at (net_checked (accepts d))

  pub words_few : length words ≤ max_cells
  words_few = let few : length (cells_of words) ≤ max_cells = rw right.is at right.sound.few in omega (arith, length-map words cell_in)

  pub words_are : netlist_of h.inputs h.outputs words ≡ (accepts d).found_as.net
  words_are = same_net (ap (λ (k : Header). k.inputs) words_header) (ap (λ (k : Header). k.outputs) words_header) refl ∙ sym right.is

-- what a run takes of a netlist that was checked
module _ {I O n : ℕ} {words order : List ℕ} {values : List Bool} (k : Checked I O n words order values) where
  few : length words ≤ max_cells
  few = omega (arith, cells_length words, k.formed.few)

  pub counted_few : n ≤ max_cells
  counted_few = omega (arith, few, k.counted)

  pub prepared : Prepared I O (cells_of words) order values
  prepared =
      record {
        ready = record {
          judged = record {
            closed = formed_closed k.formed;
            few = omega (arith, k.formed.few);
            bits = k.formed.bits;
            long = k.long ∙ sym (cells_length words);
          };
          ordered = k.ordered;
          places = omega (arith, k.places, cells_length words);
        };
        signals = record { few = k.formed.signals; enough = k.formed.enough };
      }

  pub numberable : {places operands : List ℕ} → max_cells ≤ length places → max_registers ≤ length operands → Numberable (cells_of words) places operands
  numberable wide room =
      record {
        few = prepared.ready.judged.few;
        places = omega (arith, cells_length words, few);
        room = omega (arith, k.formed.bits);
      }

  pub clockable : {places operands : List ℕ} {r : ℕ} → Numbers (cells_of words) places operands r
      → Clockable I O (cells_of words) order places (take r operands) values
  clockable m = record { prepared = prepared; numbered = m.numbered; feeds = m.feeds }

-- the columns of a file, and of words, that were checked
pub file_few : (s : List ℕ) {h : Header} {column column' order : List ℕ} → DidCheckFile (read_file s) (Ok h) column column' order → max_cells ≤ length column
    → h.cells ≤ max_cells
file_few s d long = omega (arith, count s d long, (sound s d long).few)

pub file_checked : (s : List ℕ) {h : Header} {column column' order : List ℕ} {values : List Bool}
    → DidCheckFile (read_file s) (Ok h) column column' order → max_cells ≤ length column → max_cells ≤ length order
    → length (take h.cells column') ≡ h.cells → length values ≡ h.cells → Checked h.inputs h.outputs h.cells (take h.cells column') order values
file_checked s {h} {column' = column'} d long places whole each =
    record {
      formed = file_formed s d long;
      ordered = file_ordered s d long;
      counted = sym whole;
      places = omega (arith, whole, count s d long, (sound s d long).few, places);
      long = each ∙ sym whole;
    }

pub words_are_checked : (I O : ℕ) (words : List ℕ) {h : Header} {order : List ℕ} {values : List Bool} (d : DidCheck (judge_cells I O words) (Ok h) order)
    → max_cells ≤ length order → length values ≡ h.cells → Checked h.inputs h.outputs h.cells words order values
words_are_checked I O words {h} d places each =
    let is = words_header I O words d in
    let formed = cells_formed I O words d in
    record {
      formed = rw is formed;
      ordered = cells_ordered I O words d;
      counted = words_count I O words d;
      places = omega (arith, places, formed.few, cells_length words);
      long = each ∙ words_count I O words d;
    }
