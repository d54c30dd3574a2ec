-- Not to be believed: what the code keeps to; the proofs check it.
-- What no method of a cutter changes.
use Rattle.std.specs.Prelude.{◌≡◌, List, ℕ, length}
use Rattle.std.specs.Borrow.{MutBor}
use Rattle.cuts.specs.declared.Cutter.{Cutter}

-- a column is the lent one, as long as it was
pub record SameColumn (s s' : MutBor (List ℕ)) : Type 0 where
  pub lent : s'.ghost_name ≡ s.ghost_name
  pub long : length s'.now ≡ length s.now

-- the cells, the base and the columns
pub record Keeps (k k' : Cutter) : Type 0 where
  pub cells : k'.cells.now ≡ k.cells.now
  pub base : k'.base ≡ k.base
  pub marks : SameColumn k.marks k'.marks
  pub values : SameColumn k.values k'.values
  pub stack : SameColumn k.stack k'.stack
