-- The file was refused; or its cells are searched for an order.
use Rattle.files.proofs.Judging.{handed_on}
use Rattle.netlists.proofs.Checking.{file_stopped, file_inside, file_orderable, file_cyclic, file_in_order}
use Rattle.netlists.proofs.check_file.Goals as goal

pub returns-in_err-h : goal.returns-in_err-h
returns-in_err-h c = rw (handed_on c.from_residual.ensures.1) (file_stopped c.args.s.now c.read_file.ensures c.in_err-h.was)

pub order_first-requires : goal.order_first-requires
order_first-requires c =
    let pre = c.requires in
    let s = c.args.s.now in
    let read = c.read_file.ensures in
    let header = c.in_ok-h.was in
    (file_inside s read header pre.0, file_orderable s read header pre.0 pre.1)

pub returns-in_err-order_first : goal.returns-in_err-order_first
returns-in_err-order_first c =
    rw (handed_on c.from_residual-in_err-order_first.ensures.1)
    (file_cyclic c.args.s.now c.read_file.ensures c.in_ok-h.was c.requires.0 c.in_err-order_first.ensures)

pub returns : goal.returns
returns c = file_in_order c.args.s.now c.read_file.ensures c.in_ok-h.was c.requires.0 c.in_ok-order_first.ensures
