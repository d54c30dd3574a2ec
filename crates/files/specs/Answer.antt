-- Not to be believed: what the code keeps to; the proofs check it.
-- What the code answers, and the cells that it lays in the lent column, by the definitions of reading.
use Rattle.std.specs.Prelude.{◌≡◌, List, map, ℕ, length, Result, Ok, Err}
use Rattle.std.proofs.lemmas.List.Edits.{sets}
use Rattle.cells.specs.Words.{word}
use Rattle.cells.specs.Netlist.{Netlist}
use Rattle.files.specs.declared.Header.{Header}
use Rattle.files.specs.Read.{CellsOutcome, got, refused, FileOutcome, netlist, faulty}
use Rattle.number.specs.declared.Fault.{Fault}

-- I, O and the count of cells
abbrev pub header_of : Netlist → Header
header_of w = record { inputs = w.inputs; outputs = w.outputs; cells = length w.cells }

unfoldable pub file_answer : FileOutcome → Result Header Fault
file_answer (netlist w) = Ok (header_of w)
file_answer (faulty f) = Err f

unfoldable pub cells_answer : CellsOutcome → Result ℕ Fault
cells_answer (got cs at) = Ok at
cells_answer (refused f) = Err f

-- the cells from number n on are laid in the column; after a refusal nothing is said of it
unfoldable pub CellsLaid : ℕ → CellsOutcome → List ℕ → List ℕ → Type 0
CellsLaid n (got cs at) column column' = column' ≡ sets column n (map word cs)
CellsLaid n (refused f) column column' = Unit

pub record DidCells (o : CellsOutcome) (r : Result ℕ Fault) (column column' : List ℕ) : Type 0 where
  pub answer : r ≡ cells_answer o
  pub laid : CellsLaid 0 o column column'

unfoldable pub FileLaid : FileOutcome → List ℕ → List ℕ → Type 0
FileLaid (netlist w) column column' = column' ≡ sets column 0 (map word w.cells)
FileLaid (faulty f) column column' = Unit

pub record DidFile (o : FileOutcome) (r : Result Header Fault) (column column' : List ℕ) : Type 0 where
  pub answer : r ≡ file_answer o
  pub laid : FileLaid o column column'
