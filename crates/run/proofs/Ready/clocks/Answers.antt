-- At each event the values settle, show the outputs and give the next state.
use Prim.Native.Nat.{ℕ, ◌/◌, ◌<◌}
use mathlib.Core.Path.{◌≡◌, sym, ap, ◌∙◌}
use mathlib.Core.List.{List}
use native.Mathlib.Omega.{arith}
use lib.ListN.{length, get_or}
use Rattle.bits.specs.Bits.{words, sets_in, whole}
use Rattle.bits.proofs.Columns.{set_at}
use Rattle.cells.specs.declared.Cell.{Cell}
use Rattle.cells.specs.Words.{cells_of}
use Rattle.cells.proofs.Counting.{operands_count, operand_cell}
use Rattle.run.proofs.Numbering.{clock_of}
use Rattle.run.proofs.Going.{upto_none, signals_length, states_length, upto_next, upto_all}
use Rattle.run.proofs.Ready.clocks.Goals as goal

pub loop-j-init : goal.loop-j-init
loop-j-init c =
    (upto_none _ _ _ _ _, c.requires.0.prepared.ready.judged.long)

pub read-requires : goal.read-requires
read-requires c = omega (arith, c.count-j-end.ensures, c.loop-j-test.true)

pub settle-requires : goal.settle-requires
settle-requires c =
    let ready = c.requires.0.prepared.ready in
    let judged = ready.judged in (
      record {
        judged = record { closed = judged.closed; few = judged.few; bits = judged.bits; long = c.loop-j.invariant.1 };
        ordered = ready.ordered;
        places = ready.places;
      },
      c.requires.0.numbered,
    )

pub shown-requires : goal.shown-requires
shown-requires c =
    rw (c.settle.auto.values ∙ c.loop-j.invariant.1) c.requires.0.prepared.signals

pub write-requires : goal.write-requires
write-requires c =
    omega (arith, c.count-j-end.ensures, c.loop-j-test.true, c.requires.1.signals_long, signals_length _ _ _ _ _ c.loop-j.invariant.0)

pub next_state-last-requires : goal.next_state-last-requires
next_state-last-requires c =
    let cells : List Cell = cells_of c.args.self.now.cells.now in
    let judged = c.requires.0.prepared.ready.judged in
    let feeds = c.requires.0.feeds in
    let count = ap length feeds ∙ operands_count cells in (
      omega (arith, count, judged.bits),
      λ b h. omega (arith, c.settle.auto.values, c.loop-j.invariant.1, operand_cell cells judged.closed feeds b h),
    )

pub write-requires-in-loop-j : goal.write-requires-in-loop-j
write-requires-in-loop-j c =
    omega (arith, c.count-j-end.ensures, c.loop-j-test.true, c.requires.1.states_long, states_length _ _ _ _ _ c.loop-j.invariant.0)

pub loop-j-preserved : goal.loop-j-preserved
loop-j-preserved c =
    let events : List ℕ = c.args.events.now in
    let cells : List Cell = cells_of c.args.self.now.cells.now in
    let j : ℕ = c.loop-j.j in
    let inside : j < length events / words = omega (arith, c.count-j-end.ensures, c.loop-j-test.true) in
    let event : get_or (sets_in events) j 0 ≡ whole c.read.result = set_at events j inside ∙ sym c.read.ensures in (
      rw (c.write.ensures, c.write-in-loop-j.ensures)
          (upto_next _ _ _ _ _ c.loop-j.invariant.0 (whole c.shown.result) (whole c.next_state-last.result) inside event
          (clock_of _ _ cells _ c.requires.0.feeds c.settle.ensures c.shown.ensures c.next_state-last.ensures)),
      c.settle.auto.values ∙ c.loop-j.invariant.1,
    )

pub shape_of-values : goal.shape_of-values
shape_of-values c =
    c.loop-j.invariant.1 ∙ sym c.requires.0.prepared.ready.judged.long

pub shape_of-signals : goal.shape_of-signals
shape_of-signals c = signals_length _ _ _ _ _ c.loop-j.invariant.0

pub shape_of-states : goal.shape_of-states
shape_of-states c = states_length _ _ _ _ _ c.loop-j.invariant.0

pub returns : goal.returns
returns c = upto_all _ _ _ _ _ c.loop-j.invariant.0 (omega (arith, c.count-j-end.ensures, c.loop-j-test.false))
