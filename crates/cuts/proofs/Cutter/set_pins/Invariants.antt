use mathlib.Core.Path.{◌≡◌}
use Rattle.cuts.specs.Cutting.{Pinned}
use Rattle.cuts.specs.Kept.{Keeps}
use Rattle.cuts.proofs.Cutter.set_pins.Given as goal

abbrev pub invariant-loop-p : goal.invariant-loop-p
invariant-loop-p l = record {
  kept : Keeps l.initial.self l.self;
  pinned : Pinned l.fn.cut l.initial.self.base l.self.marks.now l.self.values.now l.p l.counts;
  stack : l.self.stack.now ≡ l.initial.self.stack.now;
}
