-- `look` meets its contract: it reads the marks of the operands, which are cells, in turn.
use mathlib.Core.Path.{◌≡◌, sym, ◌∙◌}
use native.Mathlib.Omega.{arith}
use borrow.Author.Rules.{rules}
use lib.ListN.{length}
use Rattle.limits.specs.Limits.{max_cells}
use Rattle.cells.proofs.Needing.{needs_first, needs_second}
use Rattle.order.proofs.Search.look.Goals as goal

pub bounds : goal.bounds
bounds c =
    let self = c.args.self.now in
    let pins = sym c.pins_at.ensures ∙ c.in-Some.is in
    let marks : length self.marks ≡ max_cells = search rules in
    omega (arith, self.closed.gates _ _ (needs_first pins), self.room.wide, c.number.ensures)

pub bounds-2 : goal.bounds-2
bounds-2 c =
    let self = c.args.self.now in
    let pins = sym c.pins_at.ensures ∙ c.in-Some.is in
    let marks : length self.marks ≡ max_cells = search rules in
    omega (arith, self.closed.gates _ _ (needs_second pins), self.room.wide, c.number-2.ensures)
