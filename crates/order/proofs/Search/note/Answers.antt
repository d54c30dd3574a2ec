-- `note` meets its contract: its two ways are the definition's cases.
use mathlib.Core.Path.{ap}
use Rattle.order.specs.Search.{reached, old, new}
use Rattle.order.proofs.Columns.{met}
use Rattle.order.proofs.Search.note.Goals as goal

pub returns-in-New-clause-noted : goal.returns-in-New-clause-noted
returns-in-New-clause-noted c = rw c.number-n.ensures (new (ap reached (rw c.number-n.ensures at c.in-New.is)))

pub returns-in_default-clause-noted : goal.returns-in_default-clause-noted
returns-in_default-clause-noted c = old (met _ (rw c.number-n.ensures at c.in_default.not-New))
