-- `expand` meets its contract: both operands are noted, which are cells.
use mathlib.Core.Path.{sym, ◌∙◌}
use native.Mathlib.Omega.{arith}
use Rattle.cells.proofs.Needing.{needs_first, needs_second}
use Rattle.order.proofs.Hunts.{note_room, noted_even, expand_both}
use Rattle.order.proofs.Search.expand.Goals as goal

pub note-t-requires : goal.note-t-requires
note-t-requires c =
    let self = c.args.self.now in
    let is_cell = self.closed.gates _ _ (needs_first (sym c.pins_at.ensures ∙ c.in-Some.is)) in
    (omega (arith, self.room.wide), note_room _ self.room c.requires is_cell)

pub note-requires : goal.note-requires
note-requires c =
    let self = c.args.self.now in
    let pins = sym c.pins_at.ensures ∙ c.in-Some.is in
    let is_cell = self.closed.gates _ _ (needs_second pins) in
    let room = rw c.note-t.ensures.same at c.note-t.new.self.room in
    let even = noted_even self.room (self.closed.gates _ _ (needs_first pins)) c.note-t.ensures.noted in
    (omega (arith, room.wide), note_room _ room (omega arith) is_cell)

pub returns-clause-expanded : goal.returns-clause-expanded
returns-clause-expanded c =
    let self = c.args.self.now in
    expand_both self.closed self.room (sym c.pins_at.ensures ∙ c.in-Some.is) c.note-t.ensures.noted c.note.ensures.noted
