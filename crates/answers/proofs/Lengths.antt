-- No answer is longer than the buffer that is lent for it.
use Prim.Native.Nat.{ℕ, ◌*◌, ◌≤◌}
use mathlib.Core.Path.{◌≡◌, refl, ap, ◌∙◌}
use mathlib.Core.Bool.{Bool, true, false}
use mathlib.Core.List.{List, [], ◌∷◌, map}
use native.Mathlib.Omega.{arith}
use borrow.Author.Tests.{leb-true, leb-false}
use lib.Dec.{leb}
use lib.ListN.{length, get_or, length-append, length-map}
use lib.Seq.{length-sets}
use Rattle.number.specs.Number.{pick}
use Rattle.number.specs.Counts.{cell_no, of_cell}
use Rattle.bits.specs.Bits.{whole}
use Rattle.tables.specs.Answering.{pins}
use Rattle.tables.specs.Orders.{orders, order_at}
use Rattle.tables.specs.Reordering.{moved_pins, reordered, outcome}
use Rattle.tables.specs.declared.Reordered.{Reordered}
use Rattle.tables.proofs.OrderLaws.{order_length}
use Rattle.covers.specs.Covers.{table_at}
use Rattle.covers.proofs.Reading.{pins_long}
use Rattle.files.specs.Read.{FileOutcome}
use Rattle.verdicts.specs.declared.Answer.{Answer}
use Rattle.verdicts.specs.declared.Reaction.{Reaction}
use Rattle.verdicts.specs.Answers.{Verdict, passes, stops, verdict}
use Rattle.netlist_entries.specs.Netlists.{net_verdict}
use Rattle.netlist_entries.specs.Files.{file_of, write_verdict}
use Rattle.netlist_entries.proofs.CellEntries.{laid_front}
use Rattle.compile_entries.specs.Compile.{sheet_net}
use Rattle.texts.specs.declared.Page.{Page}
use Rattle.texts.specs.Puts.{Puts}
use Rattle.texts.specs.Written.{in_hex, behind_blanks, row}
use Rattle.texts.proofs.Numerals.{decimal_short, hex_short}
use Rattle.answers.specs.Questions.{Question, room}
use Rattle.answers.specs.Texts.{line, numbers_of, file_text, no_file_text, written_text}
use Rattle.answers.specs.Texts.{reaction_text, answer_in, parts, table_text, order_text}
use Rattle.answers.specs.Answering.{Answers, longest_answer, Told}
use Rattle.answers.specs.Code.{Says}
use Rattle.answers.specs.Answering.{no_question, is_rest, is_read, is_checked, is_file, does_fit}
use Rattle.answers.specs.Answering.{is_written, reacts, file_reacts, is_covered, is_ordered}

-- a number has 20 digits at most, and a sign
blanks_short : (ns : List ℕ) → length (behind_blanks ns) ≤ 21 * length ns
unfolding behind_blanks
blanks_short [] = omega arith
blanks_short (n ∷ ns) = simp length-append (omega (arith, decimal_short n, blanks_short ns))

row_short : (ns : List ℕ) → length (row ns) ≤ 21 * length ns
unfolding row
row_short [] = omega arith
row_short (n ∷ ns) = simp length-append (omega (arith, decimal_short n, blanks_short ns))

parts_short : (ns : List ℕ) → length (parts ns) ≤ 21 * length ns
unfolding parts
parts_short [] = omega arith
parts_short (n ∷ ns) = simp length-append (omega (arith, decimal_short n, parts_short ns))

hex_long : (bs : List ℕ) → length (in_hex bs) ≡ 2 * length bs
unfolding in_hex
hex_long [] = refl
hex_long (b ∷ bs) = omega (arith, hex_long bs)

line_short : (ns : List ℕ) → length ns ≤ 5 → length (line ns) ≤ longest_answer
unfolding line
line_short ns h = simp length-append (omega (arith, row_short ns))

reaction_short : (r : Reaction) → length (reaction_text r) ≤ longest_answer
unfolding reaction_text
reaction_short r =
    simp length-append (omega (arith, row_short (numbers_of (answer_in r)), hex_short (whole r.signals), hex_short (whole r.state)))

-- a file that was written has room in what was lent
module _ (a : Answer) (file buffer : List ℕ) (few : length buffer ≤ room) where
  no_file_short : length (no_file_text a) ≤ longest_answer
  unfolding no_file_text
  no_file_short = simp length-append (omega (arith, row_short (numbers_of a)))

  file_short : length file ≤ room → length (file_text a file) ≤ longest_answer
  unfolding file_text
  file_short h = simp length-append (omega (arith, row_short (numbers_of a), hex_long file))

  written_short : (o : FileOutcome) → length (written_text (write_verdict o file buffer) a file) ≤ longest_answer
  unfolding write_verdict verdict pick written_text
  written_short o = by_own (net_verdict o)
    where
      by_room : (b : Bool) → leb (length file) (length buffer) ≡ b
          → length (written_text (verdict passes true true b (length file)) a file) ≤ longest_answer
      by_room true is = file_short (omega (arith, leb-true (length file) (length buffer) is))
      by_room false is = no_file_short

      by_own : (v : Verdict)
          → length (written_text (verdict v true true (leb (length file) (length buffer)) (length file)) a file) ≤ longest_answer
      by_own passes = by_room (leb (length file) (length buffer)) refl
      by_own (stops f) = no_file_short

-- a table has as many pins as ever, also after a reorder
order_pins : (n : ℕ) (ns : List ℕ) → length (outcome n (table_at ns 0)).table.pins ≡ pins
unfolding outcome pick reordered moved_pins
order_pins n ns = by_size (leb orders n) refl
  where
    by_size : (b : Bool) → leb orders n ≡ b → length (outcome n (table_at ns 0)).table.pins ≡ pins
    by_size true is = rw is (pins_long ns 0)
    by_size false is =
        rw is (length-map (order_at n) (λ p. get_or (table_at ns 0).pins p (cell_no 0)) ∙ order_length n (leb-false orders n is))

order_short : (r : Reordered) → length r.table.pins ≡ pins → length (order_text r) ≤ longest_answer
unfolding order_text table_text
order_short r four =
    let cells = map of_cell r.table.pins in
    let long = length-map r.table.pins of_cell in
    let cell = parts_short (of_cell r.table.cell ∷ []) in
    simp length-append
    (omega (arith, row_short (r.number ∷ (r.place ∷ [])), cell, parts_short cells, long, hex_short r.table.truth))

answer_short : {q : Question} {text : List ℕ} → Answers q text → length text ≤ longest_answer
answer_short no_question = omega arith
answer_short is_rest = line_short _ (omega arith)
answer_short is_read = line_short _ (omega arith)
answer_short (is_checked was) = line_short _ (omega arith)
answer_short (is_file was) = line_short _ (omega arith)
answer_short (does_fit was) = line_short _ (omega arith)
answer_short (is_written {buffer = buffer} {r = r} lends w) =
    written_short r (file_of (sheet_net w.outcome)) buffer (omega (arith, lends)) (sheet_net w.outcome)
answer_short (reacts {r = r} was) = reaction_short r
answer_short (file_reacts {r = r} was) = reaction_short r
answer_short (is_covered was) = line_short _ (omega arith)
answer_short (is_ordered {n = n} {table = ns} {r = r} was) =
    order_short r (ap (λ (r : Reordered). length r.table.pins) was.answer ∙ order_pins n ns)

-- so all of it stands in the buffer
pub all_told : {q : Question} {n : ℕ} {out out' : List ℕ} {p p' : Page} → longest_answer ≤ length out → length out ≤ 18446744073709551615
    → p.at ≡ 0 → p.out.now ≡ out → p'.out.now ≡ out' → p'.at ≡ n → Says q p p' → Told q n out'
all_told {n = n} {out = out} {out' = out'} long small begun lent left place s =
    let few = answer_short s.answers in
    let written : Puts s.text 0 n out out' = rw (begun, lent, left, place) at s.written.puts in
    let all : n ≡ length s.text = omega (arith, written.past) in
    let fits : length s.text ≤ length out = omega (arith, few) in
    record {
      answers = rw (all, written.laid, laid_front out s.text fits) s.answers;
      within = omega (arith, ap length written.laid, length-sets out 0 s.text);
    }
