-- Each arm is the step of what is awaited.
use Rattle.tracing.proofs.Stepping.{sound_ready, stopped_step}
use Rattle.tracing.proofs.step.Goals as goal

pub event_line-requires : goal.event_line-requires
event_line-requires c = sound_ready c.requires.1 c.in-Event.is

pub returns-in-Nothing : goal.returns-in-Nothing
returns-in-Nothing c = stopped_step _ c.in-Nothing.is c.bytes.ensures
