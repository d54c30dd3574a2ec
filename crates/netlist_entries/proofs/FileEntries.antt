-- What the writer answers makes the entries' answers.
use mathlib.Core.Path.{◌≡◌, refl}
use mathlib.Core.Bool.{Bool, true, false}
use mathlib.Core.List.{List}
use Prim.Native.Nat.{ℕ}
use lib.Dec.{ltb, leb}
use lib.ListN.{length}
use borrow.Author.Tests.{lt-leb, le-leb, ltb-true, ltb-false}
use Rattle.number.specs.declared.Fault.{Fault}
use Rattle.number.specs.Number.{pick}
use Rattle.files.specs.declared.Header.{Header}
use Rattle.cells.specs.Netlist.{Netlist, netlist_of}
use Rattle.files.specs.File.{file_bytes}
use Rattle.files.specs.Read.{FileOutcome, netlist, faulty}
use Rattle.netlists.specs.Words.{judge_cells}
use Rattle.netlists.specs.Check.{NetChecks}
use Rattle.netlists.specs.Checked.{DidCheck}
use Rattle.netlists.specs.Write.{file_written, buffer_written, DidWrite}
use Rattle.verdicts.specs.declared.Answer.{Answer}
use Rattle.verdicts.specs.Answers.{verdict, answer_of, refusal, acceptance, buffer_after}
use Rattle.netlist_entries.specs.Netlists.{net_verdict}
use Rattle.netlist_entries.specs.Files.{file_of, write_verdict, Filed, NetWritten}
use Rattle.netlist_entries.proofs.NetEntries.{words_checks, words_answer}
use Rattle.std.specs.Prelude.{Result, Ok, Err}

-- an own fault: nothing is written
module _ {f : Fault} {buffer : List ℕ} where
  pub filed_refused : {answer : Answer} → Filed (faulty f) answer (refusal f) buffer buffer
  unfolding write_verdict verdict net_verdict answer_of buffer_after
  filed_refused = record { answer = refl; left = refl }

  pub net_written_refused : {found : FileOutcome} → NetChecks found (faulty f) → NetWritten found (refusal f) buffer buffer
  net_written_refused was = record { outcome = faulty f; checks = was; filed = filed_refused }

-- of cells as words that were accepted
module _ (I O : ℕ) (words : List ℕ) {h : Header} {order : List ℕ} (d : DidCheck (judge_cells I O words) (Ok h) order) where
  pub words_written : {r : Answer} {buffer buffer' : List ℕ} → Filed (netlist (netlist_of I O words)) (acceptance 0 (length words)) r buffer buffer'
      → NetWritten (judge_cells I O words) r buffer buffer'
  words_written filed =
      record { outcome = netlist (netlist_of I O words); checks = words_checks I O words d; filed = rw (words_answer I O words) at filed }

-- the writer's answer in the paper's numbers
abbrev pub written_as : Answer → Result ℕ Fault → Answer
written_as answer (Err f) = refusal f
written_as answer (Ok n) = answer

-- BUFFER, or the file: the writer asks whether the buffer is too short, the entry whether the file has room
short_or_not : (w : Netlist) {answer : Answer} {r : Result ℕ Fault} {buffer buffer' : List ℕ} → DidWrite w r buffer buffer' → (b : Bool)
    → ltb (length buffer) (length (file_bytes w)) ≡ b → {a : Answer} → a ≡ written_as answer r → Filed (netlist w) answer a buffer buffer'
unfolding file_written buffer_written pick write_verdict verdict net_verdict file_of answer_of buffer_after
short_or_not w {buffer = buffer} did true e is =
    let needed : ℕ = length (file_bytes w) in
    let given : ℕ = length buffer in
    let none : leb (length (file_bytes w)) (length buffer) ≡ false = lt-leb needed given (ltb-true given needed e) in
    record { answer = rw (none, is, did.answer, e) refl; left = rw (none, did.left, e) refl }
short_or_not w {buffer = buffer} did false e is =
    let needed : ℕ = length (file_bytes w) in
    let given : ℕ = length buffer in
    let room : leb (length (file_bytes w)) (length buffer) ≡ true = le-leb needed given (ltb-false given needed e) in
    record { answer = rw (room, is, did.answer, e) refl; left = rw (room, did.left, e) refl }

pub filed : {w : Netlist} {answer : Answer} {r : Result ℕ Fault} {buffer buffer' : List ℕ} → DidWrite w r buffer buffer' → {a : Answer}
    → a ≡ written_as answer r → Filed (netlist w) answer a buffer buffer'
filed {w} {buffer = buffer} did is = short_or_not w did (ltb (length buffer) (length (file_bytes w))) refl is
