-- `gate_value` meets its contract: its arms are the definition's clauses.
use Rattle.cells.proofs.gate_value.Goals as goal

pub returns-in-Or : goal.returns-in-Or
returns-in-Or c = rw c.in-Or.is

pub returns-in-And : goal.returns-in-And
returns-in-And c = rw c.in-And.is

pub returns-in-Butnot : goal.returns-in-Butnot
returns-in-Butnot c = rw c.in-Butnot.is
