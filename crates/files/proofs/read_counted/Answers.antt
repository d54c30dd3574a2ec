-- The count is read and judged; then the cells.
use Rattle.files.proofs.Judging.{handed_on, count_right}
use Rattle.files.proofs.Whole.{file_stop}
use Rattle.files.specs.Read.{count_at, after_count, counted}
use mathlib.Core.Path.{sym}
use Rattle.files.proofs.read_counted.Goals as goal

pub returns-in_err-m : goal.returns-in_err-m
unfolding count_at after_count
returns-in_err-m c = rw (handed_on c.from_residual.ensures.1) (file_stop (rw (← c.in_err-m.ensures)))

pub returns-in-Err : goal.returns-in-Err
unfolding count_at after_count counted
returns-in-Err c = file_stop (rw (← c.in_ok-m.ensures, ← c.in-Err.ensures, c.at.ensures))

pub read_body-requires : goal.read_body-requires
read_body-requires c = (count_right _ _ _ (sym c.in_default.ensures)).few

pub returns : goal.returns
unfolding count_at after_count counted
returns c = rw (← c.in_ok-m.ensures, ← c.in_default.ensures) c.read_body.ensures
