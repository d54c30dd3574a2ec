use Prim.Native.Nat.{◌≤◌}
use mathlib.Core.Path.{◌≡◌}
use lib.ListN.{length}
use Rattle.limits.specs.Limits.{max_signals}
use Rattle.parts.specs.Contract.{nets}
use Rattle.builder.proofs.Ends.{SignalLoop}
use Rattle.builder.proofs.signal_cells.Given as goal

abbrev pub invariant-loop-s : goal.invariant-loop-s
invariant-loop-s l = SignalLoop (nets l.lists) l.initial.cells l.cells l.from l.end l.s × (l.end ≤ max_signals) × (length l.lists ≡ max_signals)
