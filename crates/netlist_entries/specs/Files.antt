-- A netlist's file in a lent buffer, and the entry that writes it.
use Rattle.std.specs.Prelude.{◌≡◌, true, List, [], ℕ, leb, length}
use Rattle.files.specs.File.{file_bytes}
use Rattle.files.specs.Read.{FileOutcome, netlist, faulty}
use Rattle.netlists.specs.Check.{NetChecks}
use Rattle.verdicts.specs.declared.Answer.{Answer}
use Rattle.verdicts.specs.Answers.{Verdict, verdict, answer_of, buffer_after}
use Rattle.netlist_entries.specs.Netlists.{net_verdict, net_accepted}

-- the file of an accepted netlist
unfoldable pub file_of : FileOutcome → List ℕ
file_of (faulty f) = []
file_of (netlist w) = file_bytes w

-- the fault of the sheet or the netlist, then BUFFER: "too short for the file", at the "length needed". `whole` is all that is to be written.
unfoldable pub write_verdict : FileOutcome → List ℕ → List ℕ → Verdict
write_verdict o whole buffer = verdict (net_verdict o) true true (leb (length whole) (length buffer)) (length whole)

-- The file of what was found, a netlist or a fault: the answer, and the buffer before and after.
pub record Filed (o : FileOutcome) (accepted r : Answer) (buffer buffer' : List ℕ) : Type 0 where
  pub answer : r ≡ answer_of (write_verdict o (file_of o) buffer) accepted
  pub left : buffer' ≡ buffer_after (write_verdict o (file_of o) buffer) (file_of o) buffer

-- Write a netlist to a file: `found` is what judging its words finds.
pub record NetWritten (found : FileOutcome) (r : Answer) (buffer buffer' : List ℕ) : Type 0 where
  pub outcome : FileOutcome
  pub checks : NetChecks found outcome
  pub filed : Filed outcome (net_accepted outcome) r buffer buffer'
