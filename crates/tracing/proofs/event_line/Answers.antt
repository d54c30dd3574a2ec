-- One law for each answer.
use native.Mathlib.Omega.{arith}
use mathlib.Core.Path.{refl}
use Rattle.tracing.proofs.Stepping.{event_bad, event_no, event_instant}
use Rattle.tracing.proofs.event_line.Goals as goal

pub returns-in_default : goal.returns-in_default
returns-in_default c = event_bad _ c.set_value.ensures c.in_default.is c.bad_line.ensures

pub returns-then-r-gt0 : goal.returns-then-r-gt0
returns-then-r-gt0 c =
    event_no _ c.set_value.ensures c.in-Some.is c.react-r.ensures.program_reacts c.if-r-gt0.true refl c.refused_line.ensures

pub returns : goal.returns
returns c =
    event_instant _ c.set_value.ensures c.in-Some.is c.react-r.ensures.program_reacts c.react-r.ensures.fitted
    (omega (arith, c.if-r-gt0.false)) c.instant.ensures
