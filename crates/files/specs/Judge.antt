-- What is judged alike in a file and in cells as words: the count of cells, and each cell's kind.
use Rattle.std.specs.Prelude.{◌&&◌, ℕ, ◌+◌, ltb, leb, eqb, Result, Ok, Err}
use Rattle.number.specs.declared.CellNo.{CellNo}
use Rattle.number.specs.declared.Refusal.TheVariants.{Kind, Count, Cell}
use Rattle.number.specs.Number.{pick}
use Rattle.limits.specs.Limits.{max_registers, many_cells}
use Rattle.cells.specs.Netlist.{kind_fits}
use Rattle.number.specs.declared.Refusal.{Refusal}

-- "over 1,024 cells: COUNT, .. then CELL": "count under 2+I+O"
unfoldable pub judge_count : ℕ → ℕ → ℕ → Result (Unit {0}) Refusal
judge_count I O m = pick (many_cells m) (Err Count) (pick (ltb m (2 + I + O)) (Err Cell) (Ok tt))

-- the highest kind in a file: "KIND from 8 on"; and in cells as words, whose "kinds stay 3, 4, 5"
abbrev pub file_kinds : ℕ
file_kinds = 7

abbrev pub word_kinds : ℕ
word_kinds = 6

-- KIND past the highest kind; "over 64 registers: COUNT at the kind", k of them before cell x; "kind's place"
unfoldable pub judge_kind : ℕ → ℕ → CellNo → ℕ → ℕ → Result (Unit {0}) Refusal
judge_kind highest I x k kind =
    pick (ltb highest kind) (Err Kind)
    (pick (eqb kind 6 && leb max_registers k) (Err Count)
    (pick (kind_fits I x kind) (Ok tt) (Err Cell)))
