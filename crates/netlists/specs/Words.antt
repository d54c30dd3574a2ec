-- A netlist as I, O and words, a word for each cell. It is judged in the order of a file, and every place is 0, since "an offset [is] 0 where there are no bytes".
use Rattle.std.specs.Prelude.{Bool, ◌&&◌, List, [], ◌∷◌, ℕ, ◌%◌, eqb, length, Result, Ok, Err}
use Rattle.number.specs.declared.CellNo.{CellNo}
use Rattle.number.specs.declared.Refusal.TheVariants.{Count, Cell as CellFault}
use Rattle.number.specs.Counts.{cell_no}
use Rattle.number.specs.Number.{pick}
use Rattle.number.specs.Refusals.{fault}
use Rattle.limits.specs.Limits.{many_signals}
use Rattle.cells.specs.Cells.{next_cell}
use Rattle.cells.specs.Words.{word, cell_in}
use Rattle.cells.specs.Values.{tally}
use Rattle.cells.specs.Netlist.{Netlist, netlist_of, operands_fit}
use Rattle.files.specs.Judge.{judge_count, word_kinds, judge_kind}
use Rattle.files.specs.Read.{FileOutcome, netlist, faulty}
use Rattle.number.specs.declared.Refusal.{Refusal}

-- nothing stands in a field that the word's kind does not use
unfoldable pub is_packed : ℕ → Bool
is_packed w = eqb (word (cell_in w)) w

-- A word whose kind is right: its operands are right, and it is the word of the cell that it means. Something in an unused field means no cell, so it is CELL.
unfoldable pub judge_fields : ℕ → CellNo → ℕ → Result (Unit {0}) Refusal → Result (Unit {0}) Refusal
judge_fields m x w (Err r) = Err r
judge_fields m x w (Ok tt) = pick (operands_fit m x (cell_in w) && is_packed w) (Ok tt) (Err CellFault)

-- the word of cell x, one of m, with so many registers before it. Kind 7 is "KIND: .. over 6".
unfoldable pub judge_word : ℕ → ℕ → CellNo → ℕ → ℕ → Result (Unit {0}) Refusal
judge_word I m x registers w = judge_fields m x w (judge_kind word_kinds I x registers (w % 8))

-- go on where nothing is wrong
unfoldable pub unless : Result (Unit {0}) Refusal → Result (Unit {0}) Refusal → Result (Unit {0}) Refusal
unless (Err r) next = Err r
unless (Ok tt) next = next

-- the words from cell x on, in order
unfoldable pub judge_words : ℕ → ℕ → CellNo → ℕ → List ℕ → Result (Unit {0}) Refusal
judge_words I m x registers [] = Ok tt
judge_words I m x registers (w ∷ ws) =
    unless (judge_word I m x registers w) (judge_words I m (next_cell x) (tally (cell_in w) registers) ws)

unfoldable pub at_zero : Netlist → Result (Unit {0}) Refusal → FileOutcome
at_zero w (Err r) = faulty (fault r 0)
at_zero w (Ok tt) = netlist w

-- what I, O and words are: the netlist that they mean, or a fault of 3, 4 and 16 with place 0
unfoldable pub judge_cells : ℕ → ℕ → List ℕ → FileOutcome
judge_cells I O words =
    let m : ℕ = length words in
    pick (many_signals I O) (faulty (fault Count 0))
    (at_zero (netlist_of I O words) (unless (judge_count I O m) (judge_words I m (cell_no 0) 0 words)))
