-- The cells were refused; or bytes are left; or none are.
use Rattle.files.proofs.Whole.{body_stop, body_extra, body_read}
use Rattle.files.proofs.Judging.{handed_on}
use Rattle.files.proofs.read_body.Goals as goal

pub returns-in_err-end : goal.returns-in_err-end
returns-in_err-end c =
    rw (handed_on c.from_residual.ensures.1) (body_stop _ _ _ _ _ c.read_cells.ensures c.in_err-end.was)

pub returns-then-end-s : goal.returns-then-end-s
returns-then-end-s c =
    rw c.at.ensures (body_extra _ _ _ _ _ c.read_cells.ensures c.in_ok-end.was c.if-end-s.true)

pub returns : goal.returns
returns c = body_read _ _ _ _ _ c.read_cells.ensures c.in_ok-end.was c.if-end-s.false
