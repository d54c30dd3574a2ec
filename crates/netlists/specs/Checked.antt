-- Not to be believed: what the code keeps to; the proofs check it.
-- What the code of a check answers, by the definitions.
use Rattle.std.specs.Prelude.{◌≡◌, List, ℕ, Result}
use Rattle.order.specs.Paths.{Ordered}
use Rattle.files.specs.declared.Header.{Header}
use Rattle.files.specs.Read.{FileOutcome, netlist, faulty}
use Rattle.files.specs.Answer.{file_answer, FileLaid}
use Rattle.netlists.specs.Check.{NetChecks}
use Rattle.number.specs.declared.Fault.{Fault}

-- an accepted netlist's order
unfoldable pub IsOrdered : FileOutcome → List ℕ → Type 0
IsOrdered (netlist w) order = Ordered w.cells order
IsOrdered (faulty f) order = Unit

-- the answer of a check, and the order that it leaves
pub record DidCheck (found : FileOutcome) (r : Result Header Fault) (order : List ℕ) : Type 0 where
  pub outcome : FileOutcome
  pub checks : NetChecks found outcome
  pub answer : r ≡ file_answer outcome
  pub ordered : IsOrdered outcome order

-- of a file: its cells are laid in the column as they were read, whether or not there is a cycle
pub record DidCheckFile (found : FileOutcome) (r : Result Header Fault) (column column' order : List ℕ) : Type 0 where
  pub check : DidCheck found r order
  pub laid : FileLaid found column column'
