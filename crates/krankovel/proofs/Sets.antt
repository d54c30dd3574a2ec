-- Sets of a state's width and their words: what is written reads back, one event in a slice of its own is that event, and a run over it is
-- a reaction.
use mathlib.Core.Path.{◌≡◌, sym, ap, ◌∙◌}
use mathlib.Core.Bool.{Bool, true, false, ◌&&◌}
use mathlib.Core.List.{[], ◌∷◌, append-nil}
use Prim.Native.Nat.{ℕ, zero, suc, ◌+◌, ◌*◌, ◌/◌, ◌^◌, ◌<◌, ◌≤◌}
use native.Mathlib.Omega.{arith}
use native.Mathlib.Nat.{div-lt_iff_lt-mul}
use lib.Dec.{leb}
use lib.Pow.{pow-add, pow_pos}
use lib.ListN.{length, take, get_or-eq_default}
use lib.Seq.{sets, take_all}
use borrow.Author.Tests.{le-leb}
use Rattle.number.specs.declared.CellNo.{CellNo}
use Rattle.number.specs.Counts.{signal_no}
use Rattle.number.proofs.Bools.{and_left, and_both, off}
use Rattle.bits.specs.Bits.{has, words, width, whole_in, words_of, sets_from, sets_in, column_of}
use Rattle.bits.proofs.Whole.{words_of_long}
use Rattle.bits.proofs.Laws.{ext}
use Rattle.sets.proofs.Columns.{has_word, word_small}
use Rattle.sets.specs.Words.{word_of}
use Rattle.limits.specs.Limits.{max_registers}
use Rattle.cells.specs.Values.{operands, next_of}
use Rattle.cells.specs.Netlist.{Netlist, WellFormed}
use Rattle.cells.proofs.Counting.{operands_length}
use Rattle.run.specs.Words.{is_output}
use Rattle.run.specs.Many.{last_state}
use Rattle.covers.proofs.Carrying.{output_last}
use Rattle.netlist_entries.proofs.CellEntries.{laid_front}
use Rattle.verdicts.specs.declared.Answer.{Answer}
use Rattle.verdicts.specs.Answers.{with_state, reaction_of}
use Rattle.verdicts.specs.Runs.{Asked, Told, needed, has_room, one, Once}
use Rattle.krankovel.specs.Promise.{telling}

-- no bit from n on
pub small : (n w : ℕ) → ((j : ℕ) → n ≤ j → has w j ≡ false) → w < 2 ^ n
small n w none =
    let is : w ≡ word_of n (has w) = ext w (word_of n (has w)) (λ j. sym (ap (λ (A : ℕ → Bool). A j) (has_word n (has w) none))) in
    rw is (word_small n (has w))

-- no signal past the last output is one
pub no_output : (I O j : ℕ) (present : Bool) → I + O < j → (is_output I O (signal_no j) && present) ≡ false
no_output I O j present past =
    off (is_output I O (signal_no j) && present)
    (λ on. omega (arith, output_last I O (signal_no j) (and_left (is_output I O (signal_no j)) present on)))

-- no bit past the last register is one of the next state
pub no_register : {w : Netlist} → WellFormed w → (v : CellNo → Bool) (b : ℕ) → max_registers ≤ b → next_of v w.cells b ≡ false
no_register {w} sound v b l =
    get_or-eq_default (operands v w.cells) false {n = b} (omega (arith, operands_length v w.cells, sound.bits))

-- the words of a set that has no more bits
whole_back : (k n : ℕ) → n < 2 ^ (64 * k) → whole_in (words_of k n) ≡ n
unfolding words_of whole_in
whole_back zero n h = omega arith
whole_back (suc k) n h =
    let wide : 2 ^ (64 * suc k) ≡ 2 ^ (64 * k) * 2 ^ 64 = ap (λ (m : ℕ). 2 ^ m) (omega arith) ∙ pow-add 2 (64 * k) 64 in
    let less : n / 2 ^ 64 < 2 ^ (64 * k) = (div-lt_iff_lt-mul {k = 2 ^ 64} (pow_pos 64)).1 (rw wide at h) in
    let rest : whole_in (words_of k (n / 2 ^ 64)) ≡ n / 2 ^ 64 = whole_back k (n / 2 ^ 64) less in
    rw rest (omega arith)

-- one event in a slice of its own
pub one_set : (event : ℕ) → event < 2 ^ width → sets_in (words_of words event) ≡ event ∷ []
unfolding sets_in sets_from
one_set event h =
    rw (words_of_long words event, take_all words (words_of words event) (omega (arith, words_of_long words event)), whole_back words event h)

-- what is laid in a slice for one set
laid_one : (n : ℕ) → n < 2 ^ width → whole_in (take words (sets (words_of words 0) 0 (column_of (n ∷ [])))) ≡ n
unfolding column_of
laid_one n h =
    let long : length (words_of words n) ≡ words = words_of_long words n in
    let room : length (words_of words n) ≤ length (words_of words 0) = omega (arith, long, words_of_long words 0) in
    rw (append-nil (words_of words n))
    (ap (λ (k : ℕ). whole_in (take k (sets (words_of words 0) 0 (words_of words n)))) (sym long)
    ∙ ap whole_in (laid_front (words_of words 0) (words_of words n) room) ∙ whole_back words n h)

pub one_room : (state event : ℕ) → has_room (one state event) ≡ true
one_room state event =
    let n : ℕ = needed (one state event) in
    let enough : n ≤ length (words_of words 0) = omega (arith, words_of_long words event, words_of_long words 0) in
    and_both (leb n (length (words_of words 0))) (leb n (length (words_of words 0))) (le-leb n _ enough) (le-leb n _ enough)

pub reacted_once : (many : Asked → Told → Type 0) (a : Answer) (state event signals next : ℕ) → signals < 2 ^ width
    → many (one state event) (telling a (one state event) (signals ∷ []) (next ∷ []))
    → Once many state event (reaction_of (with_state a next) signals)
unfolding last_state
reacted_once many a state event signals next h ran =
    record {
      told = telling a (one state event) (signals ∷ []) (next ∷ []);
      ran = ran;
      is = ap (reaction_of (with_state a next)) (sym (laid_one signals h));
    }
