-- `on_cycle` meets its contract: when nothing waits, the cells seen are those that c reaches. A turn of the loop takes one cell from those that wait or are
-- not seen.
use mathlib.Core.Path.{◌≡◌, refl, sym, ap, ◌∙◌}
use mathlib.Core.Bool.{true≢false}
use native.Mathlib.Omega.{arith}
use Rattle.order.specs.Search.{reached}
use Rattle.order.proofs.Columns.{met, unmet_all}
use Rattle.order.proofs.Hunts.{between_begins, goes_on, all_seen}
use Rattle.order.proofs.Search.on_cycle.Goals as goal
use Rattle.order.proofs.Search.on_cycle.Goals.{in-New, in_default}

pub expand-top-requires : goal.expand-top-requires
expand-top-requires c = omega (arith, unmet_all _ c.args.self.now.marks c.args.self.now.room.wide c.requires.0)

pub loop-top-init : goal.loop-top-init
loop-top-init c = record { same = c.expand-top.ensures.same; between = between_begins _ c.args.self.now.room c.requires.0 c.expand-top.ensures.expanded }

pub loop-top-preserved : goal.loop-top-preserved
loop-top-preserved c =
    let now = c.loop-top.invariant in
    let expand = c.expand-top-in-loop-top.ensures in
    let expanded = rw now.same at expand.expanded in
    record { same = expand.same ∙ now.same; between = goes_on _ now.between c.loop-top-test.true (sym c.new-x.ensures) expanded }

pub returns-clause-answer : goal.returns-clause-answer
returns-clause-answer c =
    let none : c.loop-top.top ≡ 0 = omega (arith, c.loop-top-test.false) in
    let now = c.loop-top.invariant in
    let between = rw none at now.between in
    elim c.match-matches.branch [
      | in-New w ↦ rw w.matches-is (
        (λ e. absurd (true≢false (sym e))),
        λ way. absurd (omega (arith, all_seen between way, ap reached (rw c.number.ensures at w.in-New.is))),
      )
      | in_default w ↦ rw w.matches-is (
        (λ e. between.hunting.sound _ (met _ (rw c.number.ensures at w.in_default.not-New))),
        λ way. refl,
      )
    ]
