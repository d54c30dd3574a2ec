-- A sheet that is refused, and one that is made ready.
use mathlib.Core.Path.{refl}
use Rattle.interpreter.proofs.Interpreting.{was_refused, was_compiled, compiled_run}
use Rattle.tracing.proofs.Opening.{opens_none, opens_sheet}
use Rattle.tracing.proofs.open_sheet.Goals as goal

pub ready-requires : goal.ready-requires
ready-requires c = compiled_run (was_compiled c.compile.ensures c.in-Ok.is)

pub returns-in-Err : goal.returns-in-Err
returns-in-Err c =
    let was = was_refused c.compile.ensures c.in-Err.is in
    let printed = rw c.refusal-no.ensures at c.refused_line.ensures in
    opens_none was (record { awaits = refl; written = printed })

pub returns-in-Ok : goal.returns-in-Ok
returns-in-Ok c =
    opens_sheet (was_compiled c.compile.ensures c.in-Ok.is) c.ready.ensures (record { awaits = refl; written = c.word_line.ensures })
