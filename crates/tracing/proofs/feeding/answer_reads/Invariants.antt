-- What holds at each read: the buffers keep their lengths, and the trace stands for some state.
use mathlib.Core.Path.{◌≡◌}
use lib.ListN.{length}
use Rattle.tracing.specs.Stands.{Sound}
use Rattle.tracing.proofs.feeding.answer_reads.Given as goal

abbrev pub invariant-loop : goal.invariant-loop
invariant-loop g l =
    (length l.bytes ≡ length l.initial.bytes) × (length l.line ≡ length l.initial.line) × (length l.rows ≡ length l.initial.rows) × (length l.statics ≡ length l.initial.statics)
    × (length l.page.out.now ≡ length l.initial.page.out.now) × Sound l.now.trace l.rows l.statics
