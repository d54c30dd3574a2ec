-- For an accepted sheet, a state that fits and an event of its own inputs the rounds settle: demand 3 says where, and in how many.
use mathlib.Core.Path.{◌≡◌, sym, ◌∙◌}
use mathlib.Core.Bool.{true}
use mathlib.Core.List.{List}
use Prim.Native.Nat.{ℕ, suc, ◌≤◌}
use native.Mathlib.Omega.{arith}
use Rattle.number.specs.declared.SignalNo.{SignalNo}
use Rattle.number.specs.Counts.{halt_no}
use Rattle.bits.specs.Bits.{has, signals_in}
use Rattle.sheet.specs.Read.{Sheet}
use Rattle.sheet.specs.Rows.{Holds}
use Rattle.rules.specs.States.{Event, fits}
use Rattle.rules.specs.Words.{root}
use Rattle.rules.proofs.Walks.{run_proper}
use Rattle.compiler.specs.Check.{Accepted}
use Rattle.run.specs.Words.{event_ok}
use Rattle.run.proofs.Words.{event_no_tick, event_own}
use Rattle.agreement.specs.Demand.{others}
use Rattle.agreement.proofs.Theorem.{settles}
use Rattle.interpreter.specs.Settle.{Settling}
use Rattle.interpreter.proofs.Interpreting.{accepted_proper}
use Rattle.sheet.specs.declared.Row.{Row}

-- the signals are an event of I inputs
pub event_of : (I event : ℕ) → event_ok I event ≡ true → Event I (signals_in event)
event_of I event ok = record { no_tick = event_no_tick I event ok; own = event_own I event ok }

-- the rows hold an accepted sheet
pub settling_rows : {s : List ℕ} {rows : List Row} {w : Sheet} {state event : ℕ} → Accepted s w → Holds rows root (halt_no 0) w.root
    → fits (has state) w.root ≡ true → event_ok w.inputs event ≡ true → Settling rows state event
unfolding run_proper
settling_rows {w = w} {state} {event} accepts holds fit is_event =
    let proper = accepted_proper accepts in
    let own : Event w.inputs (signals_in event) = event_of w.inputs event is_event in
    let there : (k : ℕ) → others w ≤ k → (s : SignalNo) → _ = settles accepts (signals_in event) (has state) fit own in
    record {
      run = run_proper proper holds;
      limit = others w;
      few = omega (arith, proper.signals);
      repeats = λ s. there (suc (others w)) (omega arith) s ∙ sym (there (others w) (omega arith) s);
    }
