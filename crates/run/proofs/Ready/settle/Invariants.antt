use Rattle.bits.specs.Bits.{has, signals_in, whole}
use Rattle.cells.specs.Words.{cells_of}
use Rattle.run.proofs.Passes.{Settling}
use Rattle.run.proofs.Ready.settle.Given as goal

abbrev pub invariant-loop-n : goal.invariant-loop-n
invariant-loop-n l = Settling (signals_in (whole l.event)) (has (whole l.state)) (cells_of l.self.cells.now) l.self.order.now l.values l.n-index
