-- Registers, counted in a pass over the cells.
use Prim.Native.Nat.{ℕ, ◌+◌, ◌<◌, ◌≤◌}
use mathlib.Core.Path.{◌≡◌, refl, sym, ap, ◌∙◌}
use mathlib.Core.List.{List}
use native.Mathlib.Omega.{arith}
use lib.ListN.{length, take}
use lib.Seq.{take_all}
use Rattle.number.specs.Counts.{cell_no}
use Rattle.cells.specs.declared.Cell.{Cell}
use Rattle.cells.specs.Cells.{cell_at}
use Rattle.cells.specs.Values.{tally, registers}
use Rattle.cells.proofs.Counting.{tally_le, registers_next, registers_le}

-- the registers among the first i cells are k
pub record Counted (cells : List Cell) (k i : ℕ) : Type 0 where
  pub count : k ≡ registers (take i cells)
  pub few : k ≤ i
  pub upto : i ≤ length cells

pub counted_none : (cells : List Cell) → Counted cells 0 0
unfolding registers
counted_none cells = record { count = refl; few = omega arith; upto = omega arith }

pub counted_next : {cells : List Cell} {k i : ℕ} (c : Cell) → Counted cells k i → i < length cells → c ≡ cell_at cells (cell_no i)
    → Counted cells (tally c k) (i + 1)
counted_next {cells} {k} {i} c s h e =
    record {
      count = ap (tally c) s.count ∙ ap (λ (x : Cell). tally x (registers (take i cells))) e ∙ sym (registers_next cells i h);
      few = omega (arith, tally_le c k, s.few);
      upto = omega arith;
    }

-- no more registers than there are
pub counted_room : {cells : List Cell} {k i : ℕ} (c : Cell) → Counted cells k i → i < length cells → c ≡ cell_at cells (cell_no i)
    → tally c k ≤ registers cells
counted_room {cells} {k} {i} c s h e = omega (arith, (counted_next c s h e).count, registers_le cells (i + 1))

pub counted_all : {cells : List Cell} {k i : ℕ} → Counted cells k i → length cells ≤ i → k ≡ registers cells
counted_all {cells} {k} {i} s h = s.count ∙ ap registers (take_all i cells h)
