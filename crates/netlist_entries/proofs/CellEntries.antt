-- BUFFER at the count of the words, or the words, and what is handed out of a file.
use mathlib.Core.Path.{◌≡◌, refl, sym, ap, ◌∙◌}
use mathlib.Core.Bool.{true, false}
use mathlib.Core.List.{List, ◌++◌, map}
use Prim.Native.Nat.{ℕ, ◌+◌, ◌≤◌, ◌<◌}
use native.Mathlib.Omega.{arith}
use native.Mathlib.Nat.{zero-add}
use lib.Dec.{leb}
use lib.ListN.{length, take, drop, length-map}
use lib.Seq.{sets, sets-eq}
use borrow.Author.Tests.{lt-leb, le-leb}
use Rattle.number.specs.declared.Fault.{Fault}
use Rattle.number.specs.declared.Refusal.TheVariants.{Buffer}
use Rattle.number.specs.Number.{pick}
use Rattle.number.specs.Refusals.{fault}
use Rattle.limits.specs.Limits.{max_cells, max_signals}
use Rattle.cells.specs.Words.{word, cells_of}
use Rattle.cells.specs.Netlist.{Netlist, netlist_of}
use Rattle.run.proofs.Numbering.{laid_more}
use Rattle.files.specs.declared.Header.{Header}
use Rattle.files.specs.Read.{FileOutcome, netlist, faulty, read_file}
use Rattle.files.specs.Answer.{header_of, FileLaid}
use Rattle.netlists.specs.Check.{NetChecks}
use Rattle.netlists.specs.Checked.{DidCheckFile}
use Rattle.netlists.proofs.Running.{file, sound, count, file_cells, file_is}
use Rattle.verdicts.specs.declared.Answer.{Answer}
use Rattle.verdicts.specs.declared.Listing.{Listing}
use Rattle.verdicts.specs.Answers.{verdict, refusal, acceptance, with_signals, buffer_after}
use Rattle.netlist_entries.specs.Netlists.{net_verdict, net_accepted}
use Rattle.netlist_entries.specs.Files.{write_verdict}
use Rattle.netlist_entries.specs.Cells.{words_of, listing_of, Handed, NetListed}
use Rattle.netlist_entries.proofs.NetEntries.{checks}
use Rattle.std.specs.Prelude.{Ok}

-- a copy over the front of a slice
pub copied_front : (words : List ℕ) {cells copy : List ℕ} → length cells ≤ length words → copy ≡ cells
    → copy ++ drop (length cells) words ≡ sets words 0 cells
copied_front words {cells} room same =
    let front : sets words 0 cells ≡ cells ++ drop (length cells) words = rw (zero-add (length cells)) at (sets-eq cells words 0 (omega arith)) in
    rw same (sym front)

-- BUFFER, or the words: `cells` are the words of the cells that they mean
module _ {I O : ℕ} {cells : List ℕ} (packed : map word (cells_of cells) ≡ cells) {accepted : Answer} {words : List ℕ} where
  pub handed_short : length words < length cells
      → Handed (netlist (netlist_of I O cells)) accepted (with_signals (refusal (fault Buffer (length cells))) 0 0) words words
  unfolding write_verdict verdict net_verdict words_of listing_of buffer_after pick
  handed_short short =
      let none : leb (length cells) (length words) ≡ false = lt-leb (length cells) (length words) short in
      record { answer = rw (packed, none); left = rw (packed, none) }

  pub handed_all : {words' : List ℕ} → length cells ≤ length words → words' ≡ sets words 0 cells
      → Handed (netlist (netlist_of I O cells)) accepted (with_signals accepted I O) words words'
  unfolding write_verdict verdict net_verdict words_of listing_of buffer_after pick
  handed_all room copied =
      let has : leb (length cells) (length words) ≡ true = le-leb (length cells) (length words) room in
      record { answer = rw (packed, has); left = rw (packed, has) copied }

-- an own fault: nothing is written
module _ {f : Fault} {words : List ℕ} where
  pub handed_refused : {answer : Answer} → Handed (faulty f) answer (with_signals (refusal f) 0 0) words words
  unfolding write_verdict verdict net_verdict listing_of buffer_after
  handed_refused = record { answer = refl; left = refl }

  pub net_listed_refused : {found : FileOutcome} → NetChecks found (faulty f) → NetListed found (with_signals (refusal f) 0 0) words words
  net_listed_refused was = record { outcome = faulty f; checks = was; handed = handed_refused }

-- what was laid at the front of a slice with room
pub laid_front : (l xs : List ℕ) → length xs ≤ length l → take (length xs) (sets l 0 xs) ≡ xs
laid_front l xs room = rw (zero-add (length xs)) at (laid_more l xs 0 (omega arith))

-- a file that was read: its column has the words of its cells
module _ (s : List ℕ) {h : Header} {column column' order : List ℕ} (d : DidCheckFile (read_file s) (Ok h) column column' order)
    (long : max_cells ≤ length column) where
  abbrev net : Netlist
  net = (file s d long).found_as.net

  counted_as : h.cells ≡ length net.cells
  counted_as = count s d long

  stored : take h.cells column' ≡ map word net.cells
  unfolding FileLaid
  stored =
      let laid : column' ≡ sets column 0 (map word net.cells) = rw (file s d long).found_as.is at d.laid in
      ap (λ (k : ℕ). take k column') counted_as ∙ ap (take (length net.cells)) laid
      ∙ ap (λ (k : ℕ). take k (sets column 0 (map word net.cells))) (sym (length-map net.cells word))
      ∙ laid_front column (map word net.cells) (omega (arith, length-map net.cells word, (sound s d long).few))

  pub file_packed : map word (cells_of (take h.cells column')) ≡ take h.cells column'
  file_packed = ap (map word) (file_cells s d long) ∙ sym stored

  pub file_whole : h.cells ≡ length (take h.cells column')
  file_whole = counted_as ∙ sym (ap length stored ∙ length-map net.cells word)

  pub few_signals : 1 + h.inputs + h.outputs ≤ max_signals
  few_signals =
      let header : h ≡ header_of net = (file s d long).found_as.header in
      omega (arith, (sound s d long).signals, ap (λ (k : Header). k.inputs) header, ap (λ (k : Header). k.outputs) header)

  pub listed_file : {r : Listing} {words words' : List ℕ}
      → Handed (netlist (netlist_of h.inputs h.outputs (take h.cells column'))) (acceptance 0 (length (take h.cells column'))) r words words'
      → NetListed (read_file s) r words words'
  unfolding net_accepted
  listed_file handed =
      let answer : acceptance 0 (length (take h.cells column')) ≡ net_accepted (netlist net) = ap (acceptance 0) (sym file_whole ∙ counted_as) in
      record { outcome = netlist net; checks = checks (file s d long); handed = rw (file_is s d long, answer) at handed }
