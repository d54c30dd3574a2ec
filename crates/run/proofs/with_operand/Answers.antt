-- `with_operand` meets its contract: a register's operand goes to its place.
use Rattle.run.proofs.Numbering.{not_kept, one_kept}
use borrow.Author.Rules.{rules}
use Rattle.run.proofs.with_operand.Goals as goal

pub offset_bounds-operands-k : goal.offset_bounds-operands-k
offset_bounds-operands-k c =
    let room = rw c.in-Register.is at c.requires in search rules

pub bounds-operands-k : goal.bounds-operands-k
bounds-operands-k c =
    rw c.in-Register.is at c.requires

pub overflow_add-result : goal.overflow_add-result
overflow_add-result c =
    let room = rw c.in-Register.is at c.requires in search rules

pub returns-in_default : goal.returns-in_default
returns-in_default c = not_kept _ _ c.args.c c.in_default.not-Register

pub returns-in-Register : goal.returns-in-Register
returns-in-Register c =
    one_kept _ _ c.in-Register.is c.number.ensures
