-- What was asked is what the order of faults asks; where nothing stops them the clocks are a run.
use mathlib.Core.Path.{sym}
use native.Mathlib.Omega.{arith}
use lib.Seq.{length-take-le}
use Rattle.netlist_entries.proofs.NetEntries.{counted_few, numberable, clockable}
use Rattle.netlist_entries.proofs.NetRuns.{net_stopped, net_room, net_ran}
use borrow.Author.Rules.{rules}
use Rattle.netlist_entries.proofs.clocks.Goals as goal

pub number_registers-k-requires : goal.number_registers-k-requires
number_registers-k-requires c =
    numberable c.requires (search rules) (search rules)

pub slice_bounds-ready-end-in-Ok : goal.slice_bounds-ready-end-in-Ok
slice_bounds-ready-end-in-Ok c =
    sym (length-take-le _ _ (omega (arith, c.number_registers-k.ensures.count, c.requires.formed.bits, c.number_registers-k.auto)))

pub clocks-last-requires : goal.clocks-last-requires
clocks-last-requires c = (
  clockable c.requires c.number_registers-k.ensures,
  net_room c.args.h.outputs c.args.cells.now (record {
    events_asked = c.events_ok-own.ensures;
    counted = c.number_registers-k.ensures.count;
    state_asked = c.state_ok-fit.ensures;
    length_asked = c.needed-needed.ensures;
    room_asked = c.has_room-room.ensures;
    stop = c.first_fault.ensures;
  }) c.in-Ok.is,
)

pub overflow_cast-h : goal.overflow_cast-h
overflow_cast-h c =
    omega (arith, counted_few c.requires)

pub returns-in-Err : goal.returns-in-Err
returns-in-Err c =
    rw (c.with_state.ensures, c.refusal.ensures) (net_stopped c.args.h.outputs c.args.cells.now (record {
      events_asked = c.events_ok-own.ensures;
      counted = c.number_registers-k.ensures.count;
      state_asked = c.state_ok-fit.ensures;
      length_asked = c.needed-needed.ensures;
      room_asked = c.has_room-room.ensures;
      stop = c.first_fault.ensures;
    }) c.in-Err.is)

pub returns-in-Ok : goal.returns-in-Ok
returns-in-Ok c =
    rw (c.with_state-in-Ok.ensures, c.acceptance.ensures) (net_ran c.args.h.outputs c.args.cells.now (record {
      events_asked = c.events_ok-own.ensures;
      counted = c.number_registers-k.ensures.count;
      state_asked = c.state_ok-fit.ensures;
      length_asked = c.needed-needed.ensures;
      room_asked = c.has_room-room.ensures;
      stop = c.first_fault.ensures;
    }) c.in-Ok.is
    c.requires.counted c.clocks-last.ensures)
