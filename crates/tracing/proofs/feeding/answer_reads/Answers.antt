-- The buffers keep their lengths, and the trace stands for some state.
use mathlib.Core.Path.{refl}
use native.Mathlib.Omega.{arith}
use Rattle.tracing.proofs.AllLines.{buffers_still, sound_first}
use Rattle.tracing.proofs.feeding.answer_reads.Goals as goal

pub loop-init : goal.loop-init
loop-init g c = (refl, refl, refl, refl, refl, sound_first)

pub answer_read-now-requires : goal.answer_read-now-requires
answer_read-now-requires g c =
    let inv = c.loop.invariant in
    (buffers_still c.requires.0 inv.1 inv.2 inv.3, inv.5, omega (arith, c.requires.1, inv.0, inv.4))

pub loop-preserved : goal.loop-preserved
loop-preserved g c =
    let inv = c.loop.invariant in
    let kept = c.answer_read-now.auto in
    let did = c.answer_read-now.ensures in (
      omega (arith, inv, kept),
      omega (arith, inv, kept),
      omega (arith, inv, kept),
      omega (arith, inv, kept),
      omega (arith, inv, did.same_room),
      did.sound,
    )
