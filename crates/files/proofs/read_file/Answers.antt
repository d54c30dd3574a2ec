-- I and O are read, and their sum judged; then the count and the cells.
use Rattle.files.proofs.Whole.{few_signals, file_stop}
use Rattle.files.proofs.Judging.{handed_on}
use Rattle.files.specs.Read.{read_file, after_inputs, after_outputs}
use Rattle.number.specs.Number.{pick}
use mathlib.Core.Path.{sym}
use Rattle.files.proofs.read_file.Goals as goal

pub returns-in_err-i : goal.returns-in_err-i
unfolding read_file after_inputs
returns-in_err-i c = rw (handed_on c.from_residual.ensures.1) (file_stop (rw (← c.in_err-i.ensures)))

pub returns-in_err-o : goal.returns-in_err-o
unfolding read_file after_inputs after_outputs
returns-in_err-o c =
    rw (handed_on c.from_residual-in_err-o.ensures.1) (file_stop (rw (← c.in_ok-i.ensures, ← c.in_err-o.ensures)))

pub returns-then-header_full : goal.returns-then-header_full
unfolding read_file after_inputs after_outputs pick
returns-then-header_full c =
    rw c.at.ensures (file_stop (simp (sym c.in_ok-i.ensures, sym c.in_ok-o.ensures, sym c.if-header_full.ensures)))

pub read_counted-requires : goal.read_counted-requires
read_counted-requires c = few_signals _ _ (sym c.if-header_full.ensures)

pub returns : goal.returns
unfolding read_file after_inputs after_outputs pick
returns c = simp (sym c.in_ok-i.ensures, sym c.in_ok-o.ensures, sym c.if-header_full.ensures) c.read_counted.ensures
