-- Not to be believed: what the code keeps to; the proofs check it.
-- Cells in a lent column of words, and what the functions that make cells ensure.
use Rattle.std.specs.Prelude.{◌≡◌, List, map, ℕ, ◌+◌, ◌*◌, ◌-◌, ◌≤◌, length, set}
use Rattle.std.proofs.lemmas.List.Edits.{sets}
use Rattle.number.specs.Counts.{of_cell}
use Rattle.number.specs.declared.CellNo.{CellNo}
use Rattle.limits.specs.Limits.{max_codes}
use Rattle.cells.specs.declared.Cell.{Cell}
use Rattle.cells.specs.Words.{word}
use Rattle.gates.specs.declared.Column.{Column}
use Rattle.gates.specs.Folding.{New}
use Rattle.gates.specs.Rows.{NewRow, NewCode, NewCodes, kill_of}

-- the most cells that the codes of a parallel make: or, butnot, or for each code above 0, or and butnot for code 0
abbrev pub parallel_cells : ℕ
parallel_cells = 3 * max_codes - 1

-- the cells cs were made: they stand in the column from its next number on, those past its end left out
pub record WroteCells (c c' : Column) (cs : List Cell) : Type 0 where
  pub same : c'.cells.ghost_name ≡ c.cells.ghost_name
  pub stored : c'.cells.now ≡ sets c.cells.now c.count (map word cs)
  pub counted : c'.count ≡ c.count + length cs

-- the cell n, which was there, became x
pub record Fills (n : CellNo) (x : Cell) (c c' : Column) : Type 0 where
  pub same : c'.cells.ghost_name ≡ c.cells.ghost_name
  pub stored : c'.cells.now ≡ set c.cells.now (of_cell n) (word x)
  pub counted : c'.count ≡ c.count

-- what a function ensures that makes the net r, with at most so many cells
pub record Makes (most : ℕ) (w : New) (c c' : Column) (r : CellNo) : Type 0 where
  pub wrote : WroteCells c c' w.cells
  pub is : r ≡ w.net
  pub few : c'.count ≤ c.count + most

-- the same of a row of nets
pub record MakesRow (most : ℕ) (w : NewRow) (c c' : Column) (rs : List CellNo) : Type 0 where
  pub wrote : WroteCells c c' w.cells
  pub is : rs ≡ w.nets
  pub few : c'.count ≤ c.count + most

-- of one code of a parallel, with x after it
pub record MakesLevel (most : ℕ) (w : NewCode) (c c' : Column) (r x : CellNo) : Type 0 where
  pub wrote : WroteCells c c' w.cells
  pub is : r ≡ w.net
  pub above : x ≡ w.above
  pub few : c'.count ≤ c.count + most

-- of all its codes, with what kills its parts
pub record MakesHighest (most : ℕ) (w : NewCodes) (c c' : Column) (rs : List CellNo) (x : CellNo) : Type 0 where
  pub wrote : WroteCells c c' w.cells
  pub is : rs ≡ w.nets
  pub kill : x ≡ kill_of w
  pub few : c'.count ≤ c.count + most
