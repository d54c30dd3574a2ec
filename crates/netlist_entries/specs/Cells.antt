-- A netlist's cells, a word for each, in a lent slice, and the entry that hands out those of a file.
use Rattle.std.specs.Prelude.{◌≡◌, List, [], map, ℕ}
use Rattle.cells.specs.Words.{word}
use Rattle.files.specs.Read.{FileOutcome, netlist, faulty}
use Rattle.netlists.specs.Check.{NetChecks}
use Rattle.verdicts.specs.declared.Answer.{Answer}
use Rattle.verdicts.specs.declared.Listing.{Listing}
use Rattle.verdicts.specs.Answers.{Verdict, passes, stops, refusal, with_signals, buffer_after}
use Rattle.netlist_entries.specs.Netlists.{net_accepted}
use Rattle.netlist_entries.specs.Files.{write_verdict}

-- the words of an accepted netlist's cells, in order
unfoldable pub words_of : FileOutcome → List ℕ
words_of (faulty f) = []
words_of (netlist w) = map word w.cells

-- the acceptance with I and O; "a refusal's counts .. are 0", these two as well
unfoldable pub listing_of : Verdict → FileOutcome → Answer → Listing
listing_of (stops f) o accepted = with_signals (refusal f) 0 0
listing_of passes (faulty f) accepted = with_signals (refusal f) 0 0
listing_of passes (netlist w) accepted = with_signals accepted w.inputs w.outputs

-- The cells of what was found, a netlist or a fault: the answer, and the slice before and after. BUFFER's place, the length needed, is the count of the cells.
pub record Handed (o : FileOutcome) (accepted : Answer) (r : Listing) (words words' : List ℕ) : Type 0 where
  pub answer : r ≡ listing_of (write_verdict o (words_of o) words) o accepted
  pub left : words' ≡ buffer_after (write_verdict o (words_of o) words) (words_of o) words

-- Read a netlist to cells: `found` is what reading its bytes finds.
pub record NetListed (found : FileOutcome) (r : Listing) (words words' : List ℕ) : Type 0 where
  pub outcome : FileOutcome
  pub checks : NetChecks found outcome
  pub handed : Handed outcome (net_accepted outcome) r words words'
