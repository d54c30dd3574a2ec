use Rattle.cells.specs.Words.{cells_of}
use Rattle.cuts.specs.Cutting.{Cutting, left}
use Rattle.cuts.specs.Kept.{Keeps}
use Rattle.cuts.proofs.Cutter.cut_out.Given as goal

abbrev pub invariant-loop-top : goal.invariant-loop-top
invariant-loop-top l = record {
  kept : Keeps l.fn.self l.self;
  going : Cutting (cells_of l.fn.self.cells.now) l.fn.t.pins l.fn.t.cell l.fn.self.base l.self.marks.now l.self.values.now l.self.stack.now l.top;
}

abbrev pub decreases-loop-top : goal.decreases-loop-top
decreases-loop-top l = left (cells_of l.self.cells.now) l.self.base l.self.marks.now l.top
