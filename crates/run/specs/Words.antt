-- Events, states and outputs as sets.
use Rattle.std.specs.Prelude.{Bool, not, ◌&&◌, ℕ, ◌+◌, ltb, leb}
use Rattle.cells.specs.Cells.{signal_cell}
use Rattle.number.specs.Counts.{of_signal}
use Rattle.number.specs.declared.CellNo.{CellNo}
use Rattle.number.specs.declared.SignalNo.{SignalNo}
use Rattle.bits.specs.Bits.{has, none_from}

-- "EVENT: a bit outside 1..I": bit 0, tick, is outside too
abbrev pub event_ok : ℕ → ℕ → Bool
event_ok I event = not (has event 0) && none_from (1 + I) event

-- "STATE: .. for a netlist, bits past its registers", of which there are k
abbrev pub state_ok : ℕ → ℕ → Bool
state_ok k state = none_from k state

-- "Signal 0 is tick, then I inputs, O outputs, then locals": s is an output
abbrev pub is_output : ℕ → ℕ → SignalNo → Bool
is_output I O s = ltb I (of_signal s) && leb (of_signal s) (I + O)

-- the outputs that are present where the nets have the values v: cells 2+I to 1+I+O
abbrev pub outputs_of : ℕ → ℕ → (CellNo → Bool) → SignalNo → Bool
outputs_of I O v s = is_output I O s && v (signal_cell s)
