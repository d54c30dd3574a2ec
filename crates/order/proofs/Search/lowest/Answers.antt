-- `lowest` meets its contract: no cell below `low` is on a cycle, so the loop does not get past the lowest one, as there is one.
use mathlib.Core.Path.{refl, ap, ◌∙◌}
use native.Mathlib.Omega.{arith}
use Rattle.std.proofs.lemmas.Bool.Decides.{not_from_Decides}
use Rattle.number.specs.Counts.{of_cell}
use Rattle.cells.proofs.Words.{at_end}
use Rattle.order.proofs.Columns.{new_marks}
use Rattle.order.proofs.Hunts.{passed_more, passed_low}
use Rattle.order.proofs.Search.lowest.Goals as goal

pub loop-low-init : goal.loop-low-init
loop-low-init c = record { same = refl; passed = record { free = λ k h. absurd (omega arith) } }

pub on_cycle-requires : goal.on_cycle-requires
on_cycle-requires c =
    let now = c.loop-low.invariant in
    rw (now.same, c.new-c.ensures) (rw (c.fill.ensures.after (λ y e. e)) (new_marks _), passed_low now.passed c.requires)

pub returns-then-on_cycle : goal.returns-then-on_cycle
returns-then-on_cycle c =
    let now = c.loop-low.invariant in
    let number = ap of_cell c.new-c.ensures in
    record {
      on = (rw now.same at c.on_cycle.ensures.answer).0 c.if-on_cycle.true;
      below = λ y h. now.passed.free (of_cell y) (omega arith);
    }

pub loop-low-preserved : goal.loop-low-preserved
loop-low-preserved c =
    let now = c.loop-low.invariant in
    let answer = rw (now.same, c.new-c.ensures) at c.on_cycle.ensures.answer in
    record { same = c.on_cycle.ensures.same ∙ now.same; passed = passed_more now.passed (not_from_Decides _ answer c.if-on_cycle.false) }

pub unreachable-requires : goal.unreachable-requires
unreachable-requires c =
    let all = at_end c.args.self.now.cells.now c.loop-low-test.false in
    omega (arith, passed_low c.loop-low.invariant.passed c.requires)
