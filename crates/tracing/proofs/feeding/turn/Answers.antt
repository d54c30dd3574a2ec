-- A line `--` of many traces, or a step.
use mathlib.Core.Path.{◌≡◌, refl, sym, ◌∙◌}
use mathlib.Core.Bool.{true, false}
use Rattle.tracing.specs.Output.{begins}
use Rattle.tracing.proofs.AllLines.{turned_step, turned_anew}
use Rattle.tracing.proofs.feeding.turn.Goals.{else-many-via-then-many+else-eq, else-many-via-else-many}
use Rattle.tracing.proofs.feeding.turn.Goals as goal

pub returns-then-eq : goal.returns-then-eq
returns-then-eq c =
    let begun : begins c.args.many c.args.line.now ≡ true = rw c.if-many.true (sym c.eq.ensures ∙ c.if-eq.true) in
    turned_anew begun refl c.bytes.ensures

pub returns : goal.returns
returns c =
    let args = c.args in
    let other : begins args.many args.line.now ≡ false =
    elim c.else-many.branch [
      | else-many-via-then-many+else-eq w ↦ rw w.if-many.true (sym w.eq.ensures ∙ w.if-eq.false)
      | else-many-via-else-many w ↦ rw w.if-many.false
    ] in
    turned_step other c.step.ensures
