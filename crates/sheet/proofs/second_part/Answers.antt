-- The end that the first part's row says.
use native.Mathlib.Omega.{arith}
use Rattle.sheet.proofs.second_part.Goals as goal

pub row_at-first-requires : goal.row_at-first-requires
row_at-first-requires c = rw c.first_part.ensures (omega (arith, c.requires.1))

pub returns : goal.returns
returns c = rw (c.row_at-first.ensures, c.first_part.ensures)
