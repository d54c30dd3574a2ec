-- Not to be believed: what the code keeps to; the proofs check it.
-- A netlist that was checked, in the columns in which it is run.
use Rattle.std.specs.Prelude.{◌≡◌, Bool, List, ℕ, ◌≤◌, length}
use Rattle.cells.specs.Words.{cells_of}
use Rattle.cells.specs.Netlist.{netlist_of, WellFormed}
use Rattle.order.specs.Paths.{Ordered}

pub record Checked (I O count : ℕ) (words order : List ℕ) (values : List Bool) : Type 0 where
  pub formed : WellFormed (netlist_of I O words)
  pub ordered : Ordered (cells_of words) order
  pub counted : count ≡ length words
  pub places : length words ≤ length order
  pub long : length values ≡ length words
