-- What cells mean: the values of the nets in one reaction, and the next state. Inputs are a set of signals, a state is a set of registers, each by
-- its place among the registers.
use Rattle.std.specs.Prelude.{◌≡◌, Bool, true, false, List, [], ◌∷◌, map, ℕ, suc, get_or, take}
use Rattle.number.specs.Counts.{cell_no, of_cell}
use Rattle.number.specs.declared.CellNo.{CellNo}
use Rattle.number.specs.declared.SignalNo.{SignalNo}
use Rattle.cells.specs.declared.Cell.{Cell}
use Rattle.cells.specs.declared.Cell.TheVariants.{Low, High, Input, Gate, Register}
use Rattle.cells.specs.Cells.{truth, cell_at}

-- "Registers in cell order are bits 0, 1, .. of the state.": one more than k where the cell is a register
abbrev pub tally : Cell → ℕ → ℕ
tally Low k = k
tally High k = k
tally (Input s) k = k
tally (Gate g x y) k = k
tally (Register x) k = suc k

-- how many registers there are
unfoldable pub registers : List Cell → ℕ
registers [] = 0
registers (c ∷ cs) = tally c (registers cs)

-- how many stand before cell x: if it is a register, the bit that it is
abbrev pub before : List Cell → CellNo → ℕ
before cells x = registers (take (of_cell x) cells)

-- "0 low; 1 high; 2 input s; 3 or x y; 4 and x y; 5 butnot x y (x and not y); 6 register x (last x, first low)": the value that a cell asks for, with
-- the inputs J, the nets' values v, and q what was kept for it, if it is a register
abbrev pub value : (SignalNo → Bool) → Bool → (CellNo → Bool) → Cell → Bool
value J q v Low = false
value J q v High = true
value J q v (Input s) = J s
value J q v (Gate g x y) = truth g (v x) (v y)
value J q v (Register x) = q

-- every net has the value that its cell asks for, with the inputs J in the state S
abbrev pub Solves : (SignalNo → Bool) → (ℕ → Bool) → List Cell → (CellNo → Bool) → Type 0
Solves J S cells v = (x : CellNo) → v x ≡ value J (S (before cells x)) v (cell_at cells x)

-- the registers' operands in cell order, by their numbers
unfoldable pub operands_of : List Cell → List ℕ
operands_of [] = []
operands_of (Low ∷ cs) = operands_of cs
operands_of (High ∷ cs) = operands_of cs
operands_of (Input s ∷ cs) = operands_of cs
operands_of (Gate g x y ∷ cs) = operands_of cs
operands_of (Register x ∷ cs) = of_cell x ∷ operands_of cs

-- and their values
abbrev pub operands : (CellNo → Bool) → List Cell → List Bool
operands v cells = map (λ (x : ℕ). v (cell_no x)) (operands_of cells)

-- "last x": the next state
abbrev pub next_of : (CellNo → Bool) → List Cell → ℕ → Bool
next_of v cells b = get_or (operands v cells) b false
