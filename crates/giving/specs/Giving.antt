-- "An accepted cover gives the netlist's outputs and next state for every event and state." What a cover gives is defined by its tables
-- alone.
use Rattle.std.specs.Prelude.{◌≡◌, Bool, false, List, ℕ, ◌<◌}
use Rattle.number.specs.declared.CellNo.{CellNo}
use Rattle.number.specs.declared.SignalNo.{SignalNo}
use Rattle.bits.specs.Bits.{has, signals_in}
use Rattle.tables.specs.Answering.{answers}
use Rattle.cells.specs.declared.Cell.{Cell}
use Rattle.cells.specs.Cells.{cell_at}
use Rattle.cells.specs.Values.{before, value, next_of}
use Rattle.cells.specs.Netlist.{Netlist}
use Rattle.run.specs.Words.{outputs_of}
use Rattle.run.specs.Many.{Steps}
use Rattle.cuts.specs.Cut.{is_gate}
use Rattle.covers.specs.Covers.{table_count, table_at}

-- a table's net has the truth-table bit that its pins' values name; inputs, registers and constants have their own value
pub record Gives (J : SignalNo → Bool) (S : ℕ → Bool) (cells : List Cell) (cover : List ℕ) (v : CellNo → Bool) : Type 0 where
  pub tables : (k : ℕ) → k < table_count cover → v (table_at cover k).cell ≡ answers (table_at cover k) v
  pub others : (x : CellNo) → is_gate (cell_at cells x) ≡ false → v x ≡ value J (S (before cells x)) v (cell_at cells x)

-- one clock of a cover of the netlist w, as `Clock` is one of its cells
pub record CoverClock (w : Netlist) (cover : List ℕ) (state event outputs next : ℕ) : Type 0 where
  pub values : CellNo → Bool
  pub gives : Gives (signals_in event) (has state) w.cells cover values
  pub shows : (s : SignalNo) → signals_in outputs s ≡ outputs_of w.inputs w.outputs values s
  pub keeps : (b : ℕ) → has next b ≡ next_of values w.cells b

-- and a run over events: a clock for each, its outputs and its states
abbrev pub CoverRun : Netlist → List ℕ → ℕ → List ℕ → List ℕ → List ℕ → Type 0
CoverRun w cover = Steps (CoverClock w cover)
