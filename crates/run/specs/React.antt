-- One clock of a netlist: that is to be believed. What stands below it is not: what the code keeps to, and the proofs check.
use Rattle.std.specs.Prelude.{◌≡◌, Bool, false, ◌&&◌, List, ℕ, ◌+◌, ◌≤◌, ltb, length, get_or, take}
use Rattle.number.specs.Counts.{cell_no, of_cell}
use Rattle.number.specs.declared.CellNo.{CellNo}
use Rattle.number.specs.declared.SignalNo.{SignalNo}
use Rattle.bits.specs.Bits.{has, signals_in}
use Rattle.limits.specs.Limits.{max_signals, max_registers}
use Rattle.cells.specs.declared.Cell.{Cell}
use Rattle.cells.specs.Values.{before, Solves, registers, operands_of, next_of}
use Rattle.cells.specs.Needs.{IsCell, Closed}
use Rattle.order.specs.Paths.{Ordered}
use Rattle.run.specs.Words.{outputs_of}

-- one clock: the nets' values solve the cells with the event's inputs in this state, and give the outputs and the next state. "Registers in cell
-- order are bits 0, 1, .. of the state."
pub record Clock (I O : ℕ) (cells : List Cell) (state event outputs next : ℕ) : Type 0 where
  pub values : CellNo → Bool
  pub solves : Solves (signals_in event) (has state) cells values
  pub shows : (s : SignalNo) → signals_in outputs s ≡ outputs_of I O values s
  pub keeps : (b : ℕ) → has next b ≡ next_of values cells b

-- the values of the nets in a column
abbrev pub nets_in : List Bool → CellNo → Bool
nets_in values x = get_or values (of_cell x) false

-- What is seen to once, before the first clock. The netlist was judged: each operand is a cell, each cell has a number of sixteen bits, and "over 64
-- registers" was refused. The column lent has a value for each cell.
pub record Judged (cells : List Cell) (values : List Bool) : Type 0 where
  pub closed : Closed cells
  pub few : length cells ≤ 65536
  pub bits : registers cells ≤ max_registers
  pub long : length values ≡ length cells

-- it was ordered too
pub record Ready (cells : List Cell) (order : List ℕ) (values : List Bool) : Type 0 where
  pub judged : Judged cells values
  pub ordered : Ordered cells order
  pub places : length cells ≤ length order

-- "At most: .. 64 signals with tick", and of n cells there is one for each input and output
pub record HasSignals (I O n : ℕ) : Type 0 where
  pub few : 1 + I + O ≤ max_signals
  pub enough : 2 + I + O ≤ n

-- a netlist that was judged and ordered
pub record Prepared (I O : ℕ) (cells : List Cell) (order : List ℕ) (values : List Bool) : Type 0 where
  pub ready : Ready cells order values
  pub signals : HasSignals I O (length cells)

-- "Registers in cell order are bits 0, 1, .. of the state." is worked out once too: for each cell the bit that it is, if it is a register ..
pub record Numbered (cells : List Cell) (places : List ℕ) : Type 0 where
  pub long : length cells ≤ length places
  pub bit : (x : CellNo) → IsCell cells x → get_or places (of_cell x) 0 ≡ before cells x

-- the state that operands feed
abbrev pub fed : List ℕ → (CellNo → Bool) → ℕ → Bool
fed operands v b = ltb b (length operands) && v (cell_no (get_or operands b 0))

-- the columns lent for that have room for the cells and for the operands
pub record Numberable (cells : List Cell) (bits operands : List ℕ) : Type 0 where
  pub few : length cells ≤ 65536
  pub places : length cells ≤ length bits
  pub room : registers cells ≤ length operands

-- what is found: k registers, whose operands stand in the first k places
pub record Numbers (cells : List Cell) (bits operands : List ℕ) (k : ℕ) : Type 0 where
  pub numbered : Numbered cells bits
  pub count : k ≡ registers cells
  pub feeds : take k operands ≡ operands_of cells

-- all that a clock takes
pub record Clockable (I O : ℕ) (cells : List Cell) (order bits operands : List ℕ) (values : List Bool) : Type 0 where
  pub prepared : Prepared I O cells order values
  pub numbered : Numbered cells bits
  pub feeds : operands ≡ operands_of cells
