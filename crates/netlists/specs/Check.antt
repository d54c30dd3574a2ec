-- The whole check of a netlist, in either form: ".. EXTRA, 12".
use Rattle.std.specs.Prelude.{◌≡◌, List, ℕ}
use Rattle.number.specs.declared.CellNo.{CellNo}
use Rattle.number.specs.declared.Fault.{Fault}
use Rattle.number.specs.declared.Refusal.TheVariants.{Cycle}
use Rattle.number.specs.Counts.{of_cell}
use Rattle.number.specs.Refusals.{fault}
use Rattle.cells.specs.Netlist.{Netlist}
use Rattle.order.specs.Paths.{Lowest, Ordered}
use Rattle.files.specs.Read.{FileOutcome, netlist, faulty, read_file}
use Rattle.netlists.specs.Words.{judge_cells}

-- After what reading or judging found: its fault, then CYCLE at the "lowest cell on one", the cell's number in either form; a netlist whose cells stand in an
-- order, each after those that it needs, is accepted. There is one answer at most (`one_check`), and `check_file` and `check_cells` find it.
pub data NetChecks (found : FileOutcome) : FileOutcome → Type 0 where
  refused : {f : Fault} → found ≡ faulty f → NetChecks found (faulty f)
  cyclic : {w : Netlist} {x : CellNo} → found ≡ netlist w → Lowest w.cells x → NetChecks found (faulty (fault Cycle (of_cell x)))
  accepted : {w : Netlist} (order : List ℕ) → found ≡ netlist w → Ordered w.cells order → NetChecks found (netlist w)

-- of a file's bytes
abbrev pub ChecksFile : List ℕ → FileOutcome → Type 0
ChecksFile s = NetChecks (read_file s)

-- of I, O and words
abbrev pub ChecksCells : ℕ → ℕ → List ℕ → FileOutcome → Type 0
ChecksCells I O words = NetChecks (judge_cells I O words)
