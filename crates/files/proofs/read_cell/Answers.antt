-- The kind is read and judged; then the operands.
use Rattle.files.specs.Read.{read_cell, after_kind, of_kind}
use Rattle.files.proofs.Judging.{handed_on}
use mathlib.Core.Path.{◌∙◌}
use Rattle.files.proofs.read_cell.Goals as goal

pub returns-in_err-k : goal.returns-in_err-k
unfolding read_cell after_kind
returns-in_err-k c = rw (handed_on c.from_residual.ensures.1, ← c.in_err-k.ensures)

pub returns-in-Err : goal.returns-in-Err
unfolding read_cell after_kind of_kind
returns-in-Err c = rw (← c.in_ok-k.ensures, ← c.in-Err.ensures, c.at.ensures)

pub returns : goal.returns
unfolding read_cell after_kind of_kind
returns c = c.read_operands.ensures ∙ rw (← c.in_ok-k.ensures, ← c.in_default.ensures)
