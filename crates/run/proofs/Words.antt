-- The test of an event says what the paper says of its bits.
use Prim.Native.Nat.{ℕ, ◌+◌, ◌<◌}
use mathlib.Core.Path.{◌≡◌}
use mathlib.Core.Bool.{true, false, not}
use native.Mathlib.Omega.{arith}
use borrow.Author.Tests.{not-true}
use Rattle.number.specs.Counts.{signal_no, of_signal}
use Rattle.number.specs.declared.SignalNo.{SignalNo}
use Rattle.bits.specs.Bits.{has, signals_in, none_from}
use Rattle.number.proofs.Bools.{and_left, and_right}
use Rattle.bits.proofs.None.{none_past}
use Rattle.run.specs.Words.{event_ok}

-- an event has no bit outside 1..I ..
pub event_no_tick : (I event : ℕ) → event_ok I event ≡ true → signals_in event (signal_no 0) ≡ false
event_no_tick I event e = not-true (has event 0) (and_left (not (has event 0)) (none_from (1 + I) event) e)

pub event_own : (I event : ℕ) → event_ok I event ≡ true → (s : SignalNo) → I < of_signal s → signals_in event s ≡ false
event_own I event e s h = none_past (1 + I) event (and_right (not (has event 0)) (none_from (1 + I) event) e) (of_signal s) (omega arith)
