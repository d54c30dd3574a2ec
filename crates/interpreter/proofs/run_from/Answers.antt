-- What was asked is what the order of faults asks; where nothing stops them the moments are a run.
use mathlib.Core.Bool.{Bool, ◌&&◌}
use mathlib.Core.List.{List}
use mathlib.Core.Path.{◌≡◌, refl}
use Prim.Native.Nat.{ℕ}
use borrow.Author.Rules.{rules}
use lib.Dec.{leb}
use lib.ListN.{length}
use Rattle.bits.specs.Bits.{whole}
use Rattle.bits.specs.declared.Bits.{Bits}
use Rattle.bits.proofs.Whole.{Proper, fits}
use Rattle.rules.specs.Words.{Fitted}
use Rattle.run.specs.Many.{events_ok}
use Rattle.verdicts.specs.Answers.{passes, verdict, stop_of}
use Rattle.verdicts.specs.Runs.{Asked, needed}
use Rattle.interpreter.specs.declared.Program.{Program}
use Rattle.interpreter.proofs.Reacting.{Judged, inputs_few, program_stopped, may_run, program_ran, fitted_back}
use Rattle.interpreter.proofs.run_from.Goals as goal
use Rattle.number.specs.declared.Fault.{Fault}
use Rattle.std.specs.Prelude.{Result}
use Rattle.sheet.specs.declared.Row.{Row}

-- what was handed in
abbrev asked : Bits → List ℕ → List ℕ → List ℕ → Asked
asked state events signals states = record { state = whole state; events = events; signals = signals; states = states }

-- what was asked of it
judged : (p : Program) (rows : List Row) (ask : Asked) (n : ℕ) (own fit room : Bool) (r : Result (Unit {0}) Fault) → own ≡ events_ok p.counts.inputs ask.events
    → Fitted rows ask.state fit → n ≡ needed ask → room ≡ (leb n (length ask.signals) && leb n (length ask.states))
    → r ≡ stop_of (verdict passes own fit room n) → Judged p rows ask n own fit room r
judged p rows ask n own fit room r events state long has_room stop =
    record { events_asked = events; state_asked = state; length_asked = long; room_asked = has_room; stop = stop }

pub events_ok-own-requires : goal.events_ok-own-requires
events_ok-own-requires c = inputs_few c.requires.0.is

pub moments-last-requires : goal.moments-last-requires
moments-last-requires c =
    let a = c.args in
    let was = judged a.p a.rows.now (asked a.state a.events.now a.emissions.now a.states.now) c.needed-needed.result c.events_ok-own.result a.fit
    c.has_room-room.result c.first_fault.result c.events_ok-own.ensures c.requires.1 c.needed-needed.ensures c.has_room-room.ensures c.first_fault.ensures in
    may_run was c.in-Ok.is c.requires.0

pub returns-in-Err : goal.returns-in-Err
returns-in-Err c =
    let a = c.args in
    let proper : Proper a.state.words = record { long = search rules; small = λ p. fits (search (rules, c.well_formed.1.1.1.0)) } in
    let was = judged a.p a.rows.now (asked a.state a.events.now a.emissions.now a.states.now) c.needed-needed.result c.events_ok-own.result a.fit
    c.has_room-room.result c.first_fault.result c.events_ok-own.ensures c.requires.1 c.needed-needed.ensures c.has_room-room.ensures c.first_fault.ensures in
    record {
      program_runs = rw (c.with_state.ensures, c.refusal.ensures) (program_stopped was c.in-Err.is);
      fitted = fitted_back proper c.with_state.ensures c.requires.1;
    }

pub returns-in-Ok : goal.returns-in-Ok
returns-in-Ok c =
    let a = c.args in
    let proper : Proper c.moments-last.result.words = record { long = search rules; small = λ p. fits (search rules) } in
    let was = judged a.p a.rows.now (asked a.state a.events.now a.emissions.now a.states.now) c.needed-needed.result c.events_ok-own.result a.fit
    c.has_room-room.result c.first_fault.result c.events_ok-own.ensures c.requires.1 c.needed-needed.ensures c.has_room-room.ensures c.first_fault.ensures in
    record {
      program_runs = rw (c.with_state-in-Ok.ensures, c.acceptance.ensures) (program_ran was c.in-Ok.is c.moments-last.ensures);
      fitted = λ so. fitted_back proper c.with_state-in-Ok.ensures c.moments-last.ensures.fit refl;
    }
