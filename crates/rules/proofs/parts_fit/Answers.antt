-- What the two walks ensure, and the test of the sides.
use Rattle.rules.proofs.Fitting.{known_inside, parts_answer}
use Rattle.rules.proofs.parts_fit.Goals as goal

pub inside-p-requires : goal.inside-p-requires
inside-p-requires c = c.requires.0.run

pub inside-q-requires : goal.inside-q-requires
inside-q-requires c = c.requires.1.run

pub may_end-requires : goal.may_end-requires
may_end-requires c =
    known_inside c.requires.0

pub may_end-requires-2 : goal.may_end-requires-2
may_end-requires-2 c =
    known_inside c.requires.1

pub returns : goal.returns
returns c =
    let first = c.inside-p.ensures in
    let second = c.inside-q.ensures in
    rw c.sides_fit.ensures (parts_answer _ _ c.requires first second c.may_end.ensures c.may_end-2.ensures)
