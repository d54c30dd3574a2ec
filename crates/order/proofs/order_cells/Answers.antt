-- Either every cell is placed, or some cell is on a cycle and the lowest such cell is looked for.
use borrow.Author.Rules.{rules}
use Rattle.limits.specs.Limits.{max_cells}
use Rattle.order.proofs.Columns.{new_marks}
use Rattle.order.proofs.Unique.{answers_found}
use Rattle.order.proofs.order_cells.Goals as goal

pub place_all-requires : goal.place_all-requires
place_all-requires c = new_marks max_cells

pub returns-in-Some : goal.returns-in-Some
returns-in-Some c = let a = answers_found c.in-Some.ensures.visited in search (rules, a)
