-- `pins_of` meets its contract: its arms are the definition's clauses.
use Rattle.cells.proofs.pins_of.Goals as goal

pub returns-in-Gate : goal.returns-in-Gate
returns-in-Gate c = rw c.in-Gate.is
