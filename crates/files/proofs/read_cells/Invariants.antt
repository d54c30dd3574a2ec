use Rattle.files.proofs.Reading.{Reading}
use Rattle.files.proofs.read_cells.Given as goal

abbrev pub invariant-loop-n : goal.invariant-loop-n
invariant-loop-n l = Reading l.s l.h.inputs l.h.cells l.start l.initial.cells l.n l.registers l.at l.cells
