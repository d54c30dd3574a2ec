-- What the entries that check, compile, read and write answer of an accepted sheet, and of accepted cells: the contract allows it, and
-- allows nothing else.
use mathlib.Core.Path.{◌≡◌, refl, ap}
use mathlib.Core.Bool.{Bool, true, false}
use mathlib.Core.List.{List, map}
use Prim.Native.Nat.{ℕ, ◌<◌, ◌≤◌}
use native.Mathlib.Omega.{arith}
use lib.Dec.{leb}
use lib.ListN.{length}
use lib.Seq.{sets}
use borrow.Author.Tests.{le-leb, lt-leb}
use Rattle.number.specs.declared.Refusal.TheVariants.{Buffer}
use Rattle.number.specs.Number.{pick}
use Rattle.number.specs.Refusals.{fault}
use Rattle.bits.specs.Bits.{has}
use Rattle.sheet.specs.Read.{Sheet, sheet}
use Rattle.rules.specs.States.{fits}
use Rattle.cells.specs.Words.{word}
use Rattle.cells.specs.Netlist.{Netlist}
use Rattle.builder.specs.Netlist.{sheet_file}
use Rattle.files.specs.File.{file_bytes}
use Rattle.files.specs.Read.{FileOutcome, netlist}
use Rattle.netlists.specs.Check.{NetChecks}
use Rattle.compiler.specs.Check.{Accepted}
use Rattle.compiler.proofs.Unique.{one_check}
use Rattle.verdicts.specs.declared.Answer.{Answer}
use Rattle.verdicts.specs.Answers.{passes, verdict, answer_of, refusal, acceptance, with_signals, buffer_after}
use Rattle.sheet_entries.specs.Sheets.{sheet_verdict, sheet_accepted, sheet_fits, Fitting}
use Rattle.sheet_entries.proofs.OneSheetAnswer.{one_fitting}
use Rattle.netlist_entries.specs.Netlists.{net_verdict, net_accepted, NetChecked}
use Rattle.netlist_entries.specs.Files.{file_of as filed_as, write_verdict, Filed, NetWritten}
use Rattle.netlist_entries.specs.Cells.{words_of, listing_of, Handed, NetListed}
use Rattle.netlist_entries.proofs.OneNetAnswer.{Same, one_net_checked, one_net_written, one_net_listed}
use Rattle.compile_entries.specs.Compile.{sheet_net, Written, Listed}
use Rattle.compile_entries.proofs.OneCompileAnswer.{one_written, one_listed}
use Rattle.krankovel.specs.Promise.{Answers, Leaves, file_of, cells_of}

-- a netlist's file, where there is room for it and where there is not
module _ (w : Netlist) (accepted : Answer) (buffer : List ℕ) where
  filed : length (file_bytes w) ≤ length buffer → Filed (netlist w) accepted accepted buffer (sets buffer 0 (file_bytes w))
  unfolding filed_as write_verdict verdict net_verdict answer_of buffer_after pick
  filed room =
      let e : leb (length (file_bytes w)) (length buffer) ≡ true = le-leb _ _ room in
      record { answer = rw e; left = rw e }

  not_filed : length buffer < length (file_bytes w)
      → Filed (netlist w) accepted (refusal (fault Buffer (length (file_bytes w)))) buffer buffer
  unfolding filed_as write_verdict verdict net_verdict answer_of buffer_after pick
  not_filed short =
      let e : leb (length (file_bytes w)) (length buffer) ≡ false = lt-leb _ _ short in
      record { answer = rw e; left = rw e }

-- its cells' words
handed : (w : Netlist) (accepted : Answer) (words : List ℕ) → length (map word w.cells) ≤ length words
    → Handed (netlist w) accepted (with_signals accepted w.inputs w.outputs) words (sets words 0 (map word w.cells))
unfolding words_of write_verdict verdict net_verdict listing_of buffer_after pick
handed w accepted words room =
    let e : leb (length (map word w.cells)) (length words) ≡ true = le-leb _ _ room in
    record { answer = rw e; left = rw e }

-- one thing is answered and left
pub leaves : {A : Type 0} (entry : A → List ℕ → Type 0) {answer : A} {slice : List ℕ}
    → ((other : A) (left : List ℕ) → entry other left → entry answer slice → Same other answer left slice) → entry answer slice
    → Leaves entry answer slice
leaves entry only ok = record { allowed = ok; alone = λ other left x. let same = only other left x ok in (same.answer, same.left) }

-- an accepted netlist, in either form
module _ {found : FileOutcome} {w : Netlist} (ok : NetChecks found (netlist w)) where
  abbrev a : Answer
  a = acceptance 0 (length w.cells)

  pub net_checked : Answers (NetChecked found) a
  unfolding answer_of net_verdict net_accepted
  net_checked =
      let ok_is : NetChecked found a = record { outcome = netlist w; checks = ok; answer = refl } in
      record { allowed = ok_is; alone = λ other x. one_net_checked found x ok_is }

  pub net_written : (buffer : List ℕ) → length (file_bytes w) ≤ length buffer
      → Leaves (λ r left. NetWritten found r buffer left) a (sets buffer 0 (file_bytes w))
  unfolding net_accepted
  net_written buffer room =
      leaves (λ r left. NetWritten found r buffer left) (λ other left. one_net_written found buffer)
      (record { outcome = netlist w; checks = ok; filed = filed w a buffer room })

  pub net_no_room : (buffer : List ℕ) → length buffer < length (file_bytes w)
      → Leaves (λ r left. NetWritten found r buffer left) (refusal (fault Buffer (length (file_bytes w)))) buffer
  unfolding net_accepted
  net_no_room buffer short =
      leaves (λ r left. NetWritten found r buffer left) (λ other left. one_net_written found buffer)
      (record { outcome = netlist w; checks = ok; filed = not_filed w a buffer short })

  pub net_listed : (words : List ℕ) → length (map word w.cells) ≤ length words
      → Leaves (λ r left. NetListed found r words left) (with_signals a w.inputs w.outputs) (sets words 0 (map word w.cells))
  unfolding net_accepted
  net_listed words room =
      leaves (λ r left. NetListed found r words left) (λ other left. one_net_listed found words)
      (record { outcome = netlist w; checks = ok; handed = handed w a words room })

-- an accepted sheet
module _ {s : List ℕ} {w : Sheet} (ok : Accepted s w) where
  abbrev own : Answer
  own = sheet_accepted (sheet w)

  pub written : (buffer : List ℕ) → length (file_of w) ≤ length buffer
      → Leaves (λ r left. Written s r buffer left) own (sets buffer 0 (file_of w))
  unfolding sheet_net
  written buffer room =
      leaves (λ r left. Written s r buffer left) (λ other left. one_written s buffer)
      (record { outcome = sheet w; checks = ok; filed = filed (sheet_file w) own buffer room })

  pub no_room : (buffer : List ℕ) → length buffer < length (file_of w)
      → Leaves (λ r left. Written s r buffer left) (refusal (fault Buffer (length (file_of w)))) buffer
  unfolding sheet_net
  no_room buffer short =
      leaves (λ r left. Written s r buffer left) (λ other left. one_written s buffer)
      (record { outcome = sheet w; checks = ok; filed = not_filed (sheet_file w) own buffer short })

  pub listed : (words : List ℕ) → length (cells_of w) ≤ length words
      → Leaves (λ r left. Listed s r words left) (with_signals own w.inputs w.outputs) (sets words 0 (cells_of w))
  unfolding sheet_net
  listed words room =
      leaves (λ r left. Listed s r words left) (λ other left. one_listed s words)
      (record { outcome = sheet w; checks = ok; handed = handed (sheet_file w) own words room })

  -- a state that fits, and that the entry says so of
  pub fitting : (state : ℕ) → fits (has state) w.root ≡ true → Answers (Fitting s state) own
  unfolding sheet_verdict sheet_fits verdict answer_of pick
  fitting state fit =
      let ok_is : Fitting s state own = record { outcome = sheet w; checks = ok; answer = rw fit } in
      record { allowed = ok_is; alone = λ other x. one_fitting s state x ok_is }

  pub does_fit : (state : ℕ) → Fitting s state own → fits (has state) w.root ≡ true
  unfolding sheet_verdict sheet_fits sheet_accepted verdict answer_of pick
  does_fit state f = go (fits (has state) w.root) refl (rw (one_check s f.checks ok) at f.answer)
    where
      go : (b : Bool) → fits (has state) w.root ≡ b → own ≡ answer_of (verdict passes true b true 0) own
          → fits (has state) w.root ≡ true
      go true e h = e
      go false e h = let z : ◌≡◌ {A = ℕ} 0 14 = ap (λ (x : Answer). x.number) h in absurd (omega arith)
