-- `cut_out` meets its contract: the way begins at the table's cell, and each turn is a visit.
use mathlib.Core.Path.{◌≡◌, refl}
use mathlib.Core.Bool.{true≢false, false≢true}
use native.Mathlib.Omega.{arith}
use Rattle.std.proofs.lemmas.List.{length-set}
use Rattle.cuts.proofs.Keeping.{same, and_then}
use Rattle.cuts.proofs.Ways.{begins}
use Rattle.cuts.proofs.Visits.{went, strayed}
use Rattle.cuts.proofs.Cutter.cut_out.Goals as goal

pub bounds-self-0 : goal.bounds-self-0
bounds-self-0 c = omega (arith, c.args.self.now.lent.deep, c.requires.1)

pub loop-top-init : goal.loop-top-init
loop-top-init c =
    let pre = c.requires in
    record {
      kept = record { cells = refl; base = refl; marks = same; values = same; stack = record { lent = refl; long = length-set c.args.self.now.stack.now 0 c.number.result } };
      going = rw c.number.ensures (begins c.args.self.now.lent pre.3 pre.0 pre.1 pre.2);
    }

pub visit-requires : goal.visit-requires
visit-requires c =
    let inv = c.loop-top.invariant in
    (c.loop-top-test.true, (c.args.t.pins, c.args.t.cell, rw (inv.kept.cells, inv.kept.base) inv.going))

pub returns-in_default-clause-cut : goal.returns-in_default-clause-cut
returns-in_default-clause-cut c =
    let inv = c.loop-top.invariant in
    let step = rw (inv.kept.cells, inv.kept.base) at (c.in_default.ensures.stepped c.args.t.pins c.args.t.cell) in
    record { through = λ e. absurd (false≢true e); strays = λ e. strayed (step inv.going) }

pub loop-top-smaller : goal.loop-top-smaller
loop-top-smaller c =
    let inv = c.loop-top.invariant in
    let kept = c.visit.ensures.kept in
    let step = rw (inv.kept.cells, inv.kept.base) at (c.in-Some.ensures.stepped c.args.t.pins c.args.t.cell) in
    rw (kept.cells, kept.base, inv.kept.cells, inv.kept.base) (went (step inv.going)).less

pub loop-top-preserved : goal.loop-top-preserved
loop-top-preserved c =
    let inv = c.loop-top.invariant in
    let step = rw (inv.kept.cells, inv.kept.base) at (c.in-Some.ensures.stepped c.args.t.pins c.args.t.cell) in
    record { kept = and_then inv.kept c.visit.ensures.kept; going = (went (step inv.going)).cutting }

pub returns-clause-cut : goal.returns-clause-cut
returns-clause-cut c =
    let none : c.loop-top.top ≡ 0 = omega arith in
    record { through = λ e. rw none at c.loop-top.invariant.going; strays = λ e. absurd (true≢false e) }
