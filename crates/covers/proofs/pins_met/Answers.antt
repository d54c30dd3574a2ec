-- `pins_met` meets its contract: pin by pin.
use native.Mathlib.Omega.{arith}
use borrow.Author.Rules.{rules}
use Rattle.std.proofs.lemmas.List.{get_or_default}
use Rattle.std.proofs.lemmas.Iterator.{YieldsList-from_slice}
use Rattle.std.proofs.lemmas.Iterator.Adapters.{serves_from_places}
use Rattle.number.specs.Counts.{cell_no}
use Rattle.cells.specs.Words.{cells_of}
use Rattle.cells.specs.Needs.{IsCell}
use Rattle.covers.proofs.pins_met.Goals as goal

pub all-requires-clause-callable : goal.all-requires-clause-callable
all-requires-clause-callable c =
    let cut = c.args.cut in
    serves_from_places (YieldsList-from_slice cut cc) (λ x q k. search rules)
    (λ x p h is.
    let inside : IsCell (cells_of c.args.cutter.now.cells.now) x.now = rw (is, get_or_default cut p x.now (cell_no 0) h) (c.requires p (omega arith)) in
    search rules)
