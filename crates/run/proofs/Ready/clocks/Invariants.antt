use mathlib.Core.Path.{◌≡◌}
use lib.ListN.{length}
use Rattle.bits.specs.Bits.{whole}
use Rattle.cells.specs.Words.{cells_of}
use Rattle.run.specs.React.{Clock}
use Rattle.run.proofs.Going.{Upto}
use Rattle.run.proofs.Ready.clocks.Given as goal

abbrev pub invariant-loop-j : goal.invariant-loop-j
invariant-loop-j l =
    Upto (Clock l.self.inputs l.self.outputs (cells_of l.self.cells.now)) (whole l.initial.last) l.events l.initial.signals l.initial.states
    l.signals l.states (whole l.last) l.j × (length l.values ≡ length (cells_of l.self.cells.now))
