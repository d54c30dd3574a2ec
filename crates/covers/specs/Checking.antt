-- Not to be believed: what the code keeps to; the proofs check it.
-- What the functions behind `check` keep to.
use Rattle.std.specs.Prelude.{◌≡◌, Bool, true, false, List, ℕ, ◌+◌, ◌<◌, ◌≤◌, length, Result, Ok, Err}
use Rattle.number.specs.Counts.{of_cell}
use Rattle.number.specs.declared.CellNo.{CellNo}
use Rattle.number.specs.declared.SignalNo.{SignalNo}
use Rattle.tables.specs.declared.Table.{Table}
use Rattle.tables.specs.Answering.{pins}
use Rattle.cells.specs.declared.Cell.{Cell}
use Rattle.cells.specs.declared.Cell.TheVariants.{Register}
use Rattle.cells.specs.Cells.{cell_at, signal_cell}
use Rattle.cells.specs.Needs.{IsCell, Closed}
use Rattle.cells.specs.Netlist.{Netlist}
use Rattle.order.specs.Search.{mark, Decides}
use Rattle.run.specs.Words.{is_output}
use Rattle.cuts.specs.Cut.{is_constant, pin_at}
use Rattle.cuts.specs.Cutting.{AllNew, HasOrder, Known, Lent}
use Rattle.covers.specs.Covers.{table_count, table_at, Carried, RightTable, RightCover, FirstWrong}

-- what is answered
abbrev pub Answers : Netlist → List ℕ → Result (Unit {0}) ℕ → Type 0
Answers w cover (Ok tt) = RightCover w cover
Answers w cover (Err place) = FirstWrong w cover place

-- Which cells have a table, of the first n tables, and which have one of the first k of these.
pub record Tabled (cover : List ℕ) (n k : ℕ) (tabled : List ℕ) : Type 0 where
  pub has : (x : CellNo) → 0 < mark tabled x → (j : ℕ) × (j < n) × ((table_at cover j).cell ≡ x)
  pub all : (j : ℕ) → j < n → of_cell (table_at cover j).cell < length tabled → 0 < mark tabled (table_at cover j).cell
  pub earlier : (x : CellNo) → 1 < mark tabled x → (j : ℕ) × (j < k) × ((table_at cover j).cell ≡ x)
  pub passed : (j : ℕ) → j < k → of_cell (table_at cover j).cell < length tabled → 1 < mark tabled (table_at cover j).cell

-- r says whether P holds of the cover whose tables are listed
abbrev pub Says : List ℕ → (List ℕ → Type 0) → Bool → Type 0
Says tabled P r = (cover : List ℕ) (k : ℕ) → Tabled cover (table_count cover) k tabled → Decides (P cover) r

-- each pin is a table's cell, a register, an input or a constant
abbrev pub PinsCarried : List Cell → List CellNo → List ℕ → Type 0
PinsCarried cells cut cover = (p : ℕ) → p < pins → Carried cells cover (pin_at cut p)

-- each pin but a constant is known
abbrev pub PinKnown : List Cell → ℕ → List ℕ → CellNo → Type 0
PinKnown cells base marks x = is_constant (cell_at cells x) ≡ false → Known base marks x

abbrev pub PinsKnown : List Cell → ℕ → List ℕ → List CellNo → Type 0
PinsKnown cells base marks cut = (p : ℕ) → p < pins → PinKnown cells base marks (pin_at cut p)

abbrev pub OutputsCarried : List Cell → ℕ → ℕ → List ℕ → Type 0
OutputsCarried cells I O cover = (s : SignalNo) → is_output I O s ≡ true → Carried cells cover (signal_cell s)

abbrev pub OperandCarried : List Cell → Cell → List ℕ → Type 0
OperandCarried cells c cover = (y : CellNo) → c ≡ Register y → Carried cells cover y

abbrev pub OperandsCarried : List Cell → List ℕ → Type 0
OperandsCarried cells cover = (x : CellNo) → OperandCarried cells (cell_at cells x) cover

-- what is judged before the first table: the cells, which can be ordered, and the columns, as long as they are
pub record Judged (cells : List Cell) (tabled marks values stack : List ℕ) : Type 0 where
  pub closed : Closed cells
  pub order : HasOrder cells
  pub lent : Lent cells marks values stack
  pub listed : length cells ≤ length tabled

-- a table was judged; where it is right the next one may be
pub record TableJudged (cells : List Cell) (tabled : List ℕ) (base : ℕ) (t : Table) (marks' : List ℕ) (r : Bool) : Type 0 where
  pub right : (cover : List ℕ) (k : ℕ) → Tabled cover (table_count cover) k tabled → t ≡ table_at cover k
      → Decides (RightTable cells cover k) r
  pub is : r ≡ true → IsCell cells t.cell
  pub next : r ≡ true → AllNew (base + 2) marks'

-- no table is wrong, and each is passed
pub record NoneWrong (cells : List Cell) (cover tabled' : List ℕ) : Type 0 where
  pub each : (k : ℕ) → k < table_count cover → RightTable cells cover k
  pub passed : Tabled cover (table_count cover) (table_count cover) tabled'

-- the first table that is wrong; those before it are passed
pub record WrongTable (cells : List Cell) (cover tabled' : List ℕ) (place : ℕ) : Type 0 where
  pub before : (k : ℕ) → k < place → RightTable cells cover k
  pub low : place < table_count cover
  pub here : RightTable cells cover place → ⊥
  pub passed : Tabled cover (table_count cover) place tabled'

abbrev pub Found : List Cell → List ℕ → List ℕ → Result (Unit {0}) ℕ → Type 0
Found cells cover tabled' (Ok tt) = NoneWrong cells cover tabled'
Found cells cover tabled' (Err place) = WrongTable cells cover tabled' place
