-- The laws of reading that the reader's functions cite.
use Prim.Native.Nat.{ℕ, suc, ◌+◌, ◌-◌, ◌≤◌, ◌<◌}
use mathlib.Core.Path.{◌≡◌, refl, sym, ap, ◌∙◌}
use mathlib.Core.List.{List, []}
use native.Mathlib.Omega.{arith}
use native.Mathlib.Numerals.{add-one}
use lib.ListN.{length, set, length-set}
use borrow.Author.Tests.{eq-eqb, ne_eqb}
use Rattle.number.specs.declared.CellNo.{CellNo}
use Rattle.number.specs.declared.Cursor.{Cursor}
use Rattle.number.specs.declared.Fault.{Fault}
use Rattle.number.specs.declared.Refusal.TheVariants.{Cell as CellFault}
use Rattle.number.specs.Counts.{cell_no, of_cell, signal_no}
use Rattle.number.specs.Number.{pick}
use Rattle.number.specs.Refusals.{fault}
use Rattle.cells.specs.declared.Cell.{Cell}
use Rattle.cells.specs.declared.Cell.TheVariants.{Input}
use Rattle.cells.specs.Words.{word}
use Rattle.cells.specs.Values.{tally}
use Rattle.cells.proofs.Counting.{tally_le}
use Rattle.files.specs.Read.{input_of, read_cell, CellsOutcome, got, refused, in_front, and_then, read_cells}
use Rattle.files.specs.Answer.{cells_answer, CellsLaid, DidCells}
use Rattle.std.specs.Prelude.{Ok, Err}

-- the operand of an input is the number before the cell's, or it is CELL
module _ (x : CellNo) (at v : ℕ) (c : Cursor) where
  pub input_right : v + 1 ≡ of_cell x → input_of x at (Ok (v, c)) ≡ Ok (Input (signal_no v), c)
  unfolding input_of pick
  input_right h = simp (eq-eqb (suc v) (of_cell x) (omega arith))

  pub input_wrong : (v + 1 ≡ of_cell x → ⊥) → input_of x at (Ok (v, c)) ≡ Err (fault CellFault at)
  unfolding input_of pick
  input_wrong h = simp (ne_eqb (suc v) (of_cell x) (λ z. h (omega arith)))

-- a cell in front changes neither the answer nor what is laid behind it
front_answer : (c : Cell) (o : CellsOutcome) → cells_answer o ≡ cells_answer (in_front c o)
unfolding cells_answer in_front
front_answer c (got cs at) = refl
front_answer c (refused f) = refl

front_laid : (n : ℕ) (c : Cell) (o : CellsOutcome) (column column' : List ℕ) → CellsLaid (suc n) o (set column n (word c)) column'
    → CellsLaid n (in_front c o) column column'
unfolding CellsLaid in_front
front_laid n c (got cs at) column column' h = h
front_laid n c (refused f) column column' h = tt

-- The loop over the cells: what is left to read, from cell n of m on, decides the answer and what is laid.
module _ (s : List ℕ) (I m start : ℕ) (column₀ : List ℕ) where
  abbrev left : ℕ → ℕ → ℕ → CellsOutcome
  left n registers at = read_cells (m - n) s I m (cell_no n) registers at

  abbrev whole : CellsOutcome
  whole = read_cells m s I m (cell_no 0) 0 start

  pub record Reading (n registers at : ℕ) (column : List ℕ) : Type 0 where
    pub inside : n ≤ m
    pub few : registers ≤ n
    pub long : length column ≡ length column₀
    pub answer : cells_answer (left n registers at) ≡ cells_answer (whole)
    pub laid : (column' : List ℕ) → CellsLaid n (left n registers at) column column' → CellsLaid 0 (whole) column₀ column'

  pub begins : Reading 0 0 start column₀
  begins =
      let all : m - 0 ≡ m = omega arith in
      record { inside = omega arith; few = omega arith; long = refl; answer = rw all refl; laid = λ l h. rw all at h }

  module _ {n registers at : ℕ} {column : List ℕ} (r : Reading n registers at column) where
    one_cell : n < m → left n registers at
        ≡ and_then (read_cell s I m (cell_no n) registers at) (λ c past. left (suc n) (tally c registers) past.at)
    unfolding read_cells
    one_cell h = let less : m - n ≡ suc (m - suc n) = omega arith in rw less

    pub stops : {f : Fault} → n < m → read_cell s I m (cell_no n) registers at ≡ Err f → DidCells (whole) (Err f) column₀ column
    unfolding and_then cells_answer CellsLaid
    stops {f} h e =
        let this : left n registers at ≡ refused f = one_cell h ∙ rw e in
        record { answer = rw this at r.answer; laid = r.laid column (rw this tt) }

    pub goes_on : {c : Cell} {past : Cursor} → n < m → read_cell s I m (cell_no n) registers at ≡ Ok (c, past)
        → Reading (n + 1) (tally c registers) past.at (set column n (word c))
    unfolding and_then
    goes_on {c} {past} h e =
        let next : CellsOutcome = left (suc n) (tally c registers) past.at in
        let this : left n registers at ≡ in_front c next = one_cell h ∙ rw e in
        rw add-one record {
          inside = omega arith;
          few = omega (arith, tally_le c registers, r.few);
          long = length-set column n (word c) ∙ r.long;
          answer = front_answer c next ∙ ap cells_answer (sym this) ∙ r.answer;
          laid = λ l h. r.laid l (rw this (front_laid n c next column l h));
        }

    pub ends : m ≤ n → DidCells (whole) (Ok at) column₀ column
    unfolding read_cells cells_answer CellsLaid
    ends h =
        let none : m - n ≡ 0 = omega arith in
        let this : left n registers at ≡ got [] at = rw none in
        record { answer = rw this at r.answer; laid = r.laid column (rw this refl) }
