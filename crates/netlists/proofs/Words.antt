-- The laws of judging words: one word, the loop over all, and what words are with which nothing is wrong.
use Prim.Native.Nat.{ℕ, suc, ◌+◌, ◌%◌, ◌≤◌, ◌<◌}
use mathlib.Core.Path.{◌≡◌, refl, sym, ◌∙◌}
use mathlib.Core.Bool.{Bool, true, false, ◌&&◌}
use mathlib.Core.List.{List, [], ◌∷◌, map}
use native.Mathlib.Omega.{arith}
use native.Mathlib.Numerals.{add-one}
use lib.Dec.{eqb}
use lib.ListN.{length, get_or, drop, drop_of_length-le}
use lib.Seq.{drop-cons}
use borrow.Author.Tests.{eq-eqb, ne_eqb, eqb-true, ltb-false}
use Rattle.number.specs.declared.CellNo.{CellNo}
use Rattle.number.specs.declared.Refusal.{Refusal}
use Rattle.number.specs.declared.Refusal.TheVariants.{Count, Cell as CellFault}
use Rattle.number.specs.Counts.{cell_no}
use Rattle.number.specs.Number.{pick}
use Rattle.number.specs.Refusals.{fault}
use Rattle.number.proofs.Bools.{and_left, and_right}
use Rattle.limits.specs.Limits.{max_signals, max_registers, many_signals}
use Rattle.cells.specs.declared.Cell.{Cell}
use Rattle.cells.specs.Cells.{kind_of, next_cell}
use Rattle.cells.specs.Words.{word, cell_in, cells_of}
use Rattle.cells.specs.Values.{tally}
use Rattle.cells.specs.Netlist.{Netlist, netlist_of, operands_fit, WellFormed}
use Rattle.cells.proofs.Words.{kind_in, cells_length}
use Rattle.cells.proofs.Counting.{tally_le}
use Rattle.cells.proofs.Fitting.{tally_room, Fit, fit_none, fit_more}
use Rattle.files.specs.Judge.{judge_count, word_kinds, judge_kind}
use Rattle.files.specs.Read.{FileOutcome, netlist, faulty}
use Rattle.files.specs.Answer.{file_answer}
use Rattle.netlists.specs.Words.{is_packed, judge_fields, judge_word, unless, judge_words, at_zero, judge_cells}
use Rattle.files.proofs.Judging.{wrong_right, CountRight, count_right, kind_right}
use Rattle.files.proofs.Standing.{by_test}
use Rattle.std.specs.Prelude.{Result, Ok, Err}

-- one word
module _ (I m : ℕ) (x : CellNo) (k w : ℕ) where
  pub kind_wrong : {r : Refusal} → judge_kind word_kinds I x k (w % 8) ≡ Err r → judge_word I m x k w ≡ Err r
  unfolding judge_word judge_fields
  kind_wrong e = rw e

  module _ (kind : judge_kind word_kinds I x k (w % 8) ≡ Ok tt) where
    pub operands_wrong : operands_fit m x (cell_in w) ≡ false → judge_word I m x k w ≡ Err CellFault
    unfolding judge_word judge_fields pick
    operands_wrong e = rw kind (rw e)

    pub field_wrong : operands_fit m x (cell_in w) ≡ true → (word (cell_in w) ≡ w → ⊥) → judge_word I m x k w ≡ Err CellFault
    unfolding judge_word judge_fields is_packed pick
    field_wrong e n = rw kind (rw (e, ne_eqb (word (cell_in w)) w n))

    pub word_right : operands_fit m x (cell_in w) ≡ true → word (cell_in w) ≡ w → judge_word I m x k w ≡ Ok tt
    unfolding judge_word judge_fields is_packed pick
    word_right e p = rw kind (rw (e, eq-eqb (word (cell_in w)) w p))

-- The loop over the words: those that are left, from cell n on, decide.
module _ (I m : ℕ) (words : List ℕ) where
  abbrev left : ℕ → ℕ → Result (Unit {0}) Refusal
  left n registers = judge_words I m (cell_no n) registers (drop n words)

  pub record Judging (n registers : ℕ) : Type 0 where
    pub few : registers ≤ n
    pub same : left n registers ≡ left 0 0

  pub begins : Judging 0 0
  begins = record { few = omega arith; same = refl }

  module _ {n registers : ℕ} (j : Judging n registers) where
    one_word : n < length words → left n registers
        ≡ unless (judge_word I m (cell_no n) registers (get_or words n 0)) (left (suc n) (tally (cell_in (get_or words n 0)) registers))
    unfolding judge_words
    one_word h = rw (drop-cons words n 0 h)

    pub stops : {r : Refusal} → n < length words → judge_word I m (cell_no n) registers (get_or words n 0) ≡ Err r → Err r ≡ left 0 0
    unfolding unless
    stops h e = sym (one_word h ∙ rw e) ∙ j.same

    pub goes_on : n < length words → judge_word I m (cell_no n) registers (get_or words n 0) ≡ Ok tt
        → Judging (n + 1) (tally (cell_in (get_or words n 0)) registers)
    unfolding unless
    goes_on h e =
        rw add-one record {
          few = omega (arith, tally_le (cell_in (get_or words n 0)) registers, j.few);
          same = sym (one_word h ∙ rw e) ∙ j.same;
        }

    pub ends : length words ≤ n → Ok (tt {0}) ≡ left 0 0
    unfolding judge_words
    ends h = let none : drop n words ≡ [] = drop_of_length-le words h in rw none at j.same

-- What words are with which nothing is wrong.

record WordRight (m : ℕ) (x : CellNo) (w : ℕ) (kind : Result (Unit {0}) Refusal) : Type 0 where
  right : kind ≡ Ok tt
  operands : operands_fit m x (cell_in w) ≡ true
  packed : word (cell_in w) ≡ w

picked : (b : Bool) → pick b (Ok (tt {0})) (Err CellFault) ≡ Ok tt → b ≡ true
unfolding pick
picked true e = refl
picked false e = absurd (wrong_right e)

fields_right : (m : ℕ) (x : CellNo) (w : ℕ) (j : Result (Unit {0}) Refusal) → judge_fields m x w j ≡ Ok tt → WordRight m x w j
unfolding judge_fields is_packed
fields_right m x w (Err r) e = absurd (wrong_right e)
fields_right m x w (Ok tt) e =
    let fit : Bool = operands_fit m x (cell_in w) in
    let same : Bool = eqb (word (cell_in w)) w in
    let both : (fit && same) ≡ true = picked (fit && same) e in
    record { right = refl; operands = and_left fit same both; packed = eqb-true (word (cell_in w)) w (and_right fit same both) }

right_word : (I m : ℕ) (x : CellNo) (k w : ℕ) → judge_word I m x k w ≡ Ok tt → WordRight m x w (judge_kind word_kinds I x k (w % 8))
unfolding judge_word
right_word I m x k w e = fields_right m x w (judge_kind word_kinds I x k (w % 8)) e

record Both (j next : Result (Unit {0}) Refusal) : Type 0 where
  first : j ≡ Ok tt
  rest : next ≡ Ok tt

unless_right : (j next : Result (Unit {0}) Refusal) → unless j next ≡ Ok tt → Both j next
unfolding unless
unless_right (Err r) next e = absurd (wrong_right e)
unless_right (Ok tt) next e = record { first = refl; rest = e }

-- they fit, and are the words of the cells that they mean
pub record WordsFit (I m : ℕ) (x : CellNo) (k : ℕ) (words : List ℕ) : Type 0 where
  pub fit : Fit I m x k (cells_of words)
  pub packed : map word (cells_of words) ≡ words

words_fit : (I m : ℕ) (x : CellNo) (k : ℕ) (words : List ℕ) → k ≤ max_registers → judge_words I m x k words ≡ Ok tt → WordsFit I m x k words
unfolding judge_words
words_fit I m x k [] few e = record { fit = fit_none I m x k few; packed = refl }
words_fit I m x k (w ∷ ws) few e =
    let c : Cell = cell_in w in
    let next : ℕ = tally c k in
    let parts = unless_right (judge_word I m x k w) (judge_words I m (next_cell x) next ws) e in
    let this = right_word I m x k w parts.first in
    let low = kind_right word_kinds I x k (w % 8) this.right in
    let kind : kind_of c ≡ w % 8 = kind_in w low.low in
    let room : tally c k ≤ max_registers = tally_room c k few (rw kind low.room) in
    let rest = words_fit I m (next_cell x) next ws room parts.rest in
    record { fit = fit_more c (cells_of ws) (rw kind low.fits) this.operands rest.fit; packed = rw (this.packed, rest.packed) }

-- I, O and words that were judged a netlist
pub record CellsRight (I O : ℕ) (words : List ℕ) (w : Netlist) : Type 0 where
  pub is : w ≡ netlist_of I O words
  pub sound : WellFormed w
  pub packed : map word w.cells ≡ words

module _ (I O : ℕ) (words : List ℕ) where
  abbrev CellsFound : FileOutcome → Type 0
  CellsFound (faulty f) = Unit
  CellsFound (netlist w) = CellsRight I O words w

  all_right : many_signals I O ≡ false → judge_count I O (length words) ≡ Ok tt → judge_words I (length words) (cell_no 0) 0 words ≡ Ok tt
      → CellsRight I O words (netlist_of I O words)
  all_right few count all =
      let m : length (cells_of words) ≡ length words = cells_length words in
      let right : CountRight I O (length words) = count_right I O (length words) count in
      let each = words_fit I (length words) (cell_no 0) 0 words (omega arith) all in
      record {
        is = refl;
        sound =
            record {
              signals = ltb-false max_signals (1 + I + O) few;
              few = rw m right.few;
              enough = rw m right.enough;
              bits = omega (arith, each.fit.bits);
              fit = rw m each.fit.fit;
            };
        packed = each.packed;
      }

  cells_found : CellsFound (judge_cells I O words)
  unfolding judge_cells at_zero
  cells_found =
      by_test CellsFound (many_signals I O) _ (at_zero (netlist_of I O words) (unless count all)) (λ t. tt) (λ few.
      go (unless count all) refl few)
    where
      count : Result (Unit {0}) Refusal
      count = judge_count I O (length words)

      all : Result (Unit {0}) Refusal
      all = judge_words I (length words) (cell_no 0) 0 words

      go : (j : Result (Unit {0}) Refusal) → unless count all ≡ j → many_signals I O ≡ false → CellsFound (at_zero (netlist_of I O words) j)
      go (Err r) e few = tt
      go (Ok tt) e few = let parts = unless_right count all e in all_right few parts.first parts.rest

  pub cells_right : {w : Netlist} → judge_cells I O words ≡ netlist w → CellsRight I O words w
  cells_right e = rw e at cells_found

-- Words: too many signals, a count or a word that is wrong, or the netlist that they mean.
module _ (I O : ℕ) (words : List ℕ) where
  pub cells_signals : many_signals I O ≡ true → file_answer (judge_cells I O words) ≡ Err (fault Count 0)
  unfolding judge_cells file_answer pick
  cells_signals e = rw e

  module _ (few : many_signals I O ≡ false) where
    judged : (j : Result (Unit {0}) Refusal) → unless (judge_count I O (length words)) (judge_words I (length words) (cell_no 0) 0 words) ≡ j
        → judge_cells I O words ≡ at_zero (netlist_of I O words) j
    unfolding judge_cells pick
    judged j e = rw few (rw e)

    pub cells_count : {r : Refusal} → judge_count I O (length words) ≡ Err r → file_answer (judge_cells I O words) ≡ Err (fault r 0)
    unfolding file_answer at_zero unless
    cells_count {r} e = rw (judged (Err r) (rw e))

    module _ (count : judge_count I O (length words) ≡ Ok tt) where
      pub cells_wrong : {r : Refusal} → judge_words I (length words) (cell_no 0) 0 words ≡ Err r
          → file_answer (judge_cells I O words) ≡ Err (fault r 0)
      unfolding file_answer at_zero unless
      cells_wrong {r} e = rw (judged (Err r) (rw count e))

      pub cells_netlist : judge_words I (length words) (cell_no 0) 0 words ≡ Ok tt
          → file_answer (judge_cells I O words) ≡ Ok (record { inputs = I; outputs = O; cells = length words })
      unfolding file_answer at_zero unless
      cells_netlist e = rw (judged (Ok tt) (rw count e)) (rw (cells_length words))
