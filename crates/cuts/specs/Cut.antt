-- What a table cuts out of the cells: the way down from its cell to its pins, and when the table is what the cell is.
use Rattle.std.specs.Prelude.{◌≡◌, Bool, true, false, ◌||◌, List, [], ◌∷◌, ℕ, ◌<◌, eqb, get_or}
use Rattle.number.specs.Counts.{cell_no, of_cell}
use Rattle.number.specs.declared.CellNo.{CellNo}
use Rattle.number.specs.declared.SignalNo.{SignalNo}
use Rattle.tables.specs.declared.Table.{Table}
use Rattle.tables.specs.Answering.{pins, answers}
use Rattle.cells.specs.declared.Cell.{Cell}
use Rattle.cells.specs.declared.Cell.TheVariants.{Low, High, Input, Gate, Register}
use Rattle.cells.specs.Cells.{cell_at}
use Rattle.cells.specs.Needs.{Needs}
use Rattle.run.specs.Held.{SolvesHeld}

-- the net at pin p
abbrev pub pin_at : List CellNo → ℕ → CellNo
pin_at cut p = get_or cut p (cell_no 0)

-- "of kind 3 to 5": the three gates are one case
abbrev pub is_gate : Cell → Bool
is_gate Low = false
is_gate High = false
is_gate (Input s) = false
is_gate (Gate g x y) = true
is_gate (Register x) = false

-- "a register or input"
abbrev pub is_source : Cell → Bool
is_source Low = false
is_source High = false
is_source (Input s) = true
is_source (Gate g x y) = false
is_source (Register x) = true

abbrev pub is_constant : Cell → Bool
is_constant Low = true
is_constant High = true
is_constant (Input s) = false
is_constant (Gate g x y) = false
is_constant (Register x) = false

-- whether x is at a pin
unfoldable pub is_pin : List CellNo → CellNo → Bool
is_pin [] x = false
is_pin (p ∷ ps) x = eqb (of_cell p) (of_cell x) || is_pin ps x

-- "met on the way down from the operands of the table's cell, the way ending at pins". A register ends it as well, and so do an input and a
-- constant, which need no other cell in the same clock.
pub data Met (cells : List Cell) (cut : List CellNo) (c : CellNo) : CellNo → Type 0 where
  operand : {y : CellNo} → Needs cells c y → Met cells cut c y
  onward : {x y : CellNo} → Met cells cut c x → is_pin cut x ≡ false → Needs cells x y → Met cells cut c y

-- what a table cuts out
pub record RightCut (cells : List Cell) (t : Table) : Type 0 where
  -- "every pin but a constant is met on the way down"
  pub met : (p : ℕ) → p < pins → is_constant (cell_at cells (pin_at t.pins p)) ≡ false → Met cells t.pins t.cell (pin_at t.pins p)
  -- "A way down that meets a register or input which isn't a pin is a fault; a constant needs no pin."
  pub ends : (y : CellNo) → Met cells t.pins t.cell y → is_source (cell_at cells y) ≡ true → is_pin t.pins y ≡ true
  -- "each table, at all sixteen settings of its pins, equals the cells' value when the cells are cut at those pins": h gives each net at a
  -- pin a value, and v the cells theirs with the pins held at h. "One pin net given twice must carry equal values to count as a setting": h
  -- gives a net one value.
  pub equal : (h v : CellNo → Bool) (J : SignalNo → Bool) (S : ℕ → Bool) → SolvesHeld (is_pin t.pins) h J S cells v
      → answers t v ≡ v t.cell
