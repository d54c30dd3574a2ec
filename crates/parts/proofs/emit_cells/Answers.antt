-- The or of the signal's list with g, which becomes the list.
use mathlib.Core.Path.{ap, ◌∙◌}
use Prim.Native.Nat.{ℕ}
use lib.ListN.{get_or}
use Rattle.number.specs.Counts.{cell_no}
use Rattle.parts.proofs.Laws.{emit_builds}
use Rattle.parts.proofs.emit_cells.Goals as goal

pub returns : goal.returns
returns c =
    let a = c.args in
    let before = c.new.ensures ∙ ap (λ (k : ℕ). cell_no (get_or a.lists.now k 0)) c.number-at.ensures in
    let made = rw before at c.gate-list.ensures in
    rw c.low.ensures (emit_builds a.lists.now a.s a.g made (rw (c.number-at.ensures, c.number.ensures)) c.only.ensures)
