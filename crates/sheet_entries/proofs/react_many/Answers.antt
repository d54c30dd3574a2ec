-- The sheet's fault answers; otherwise the reactions of the program that was made of it.
use Rattle.interpreter.proofs.Interpreting.{was_refused, was_compiled, compiled_run, prepared}
use Rattle.sheet_entries.proofs.SheetEntries.{many_refused, many_ran}
use Rattle.sheet_entries.proofs.react_many.Goals as goal

pub prepare-p-requires : goal.prepare-p-requires
prepare-p-requires c =
    compiled_run (was_compiled c.compile.ensures c.in-Ok.is)

pub react_many-requires : goal.react_many-requires
react_many-requires c =
    let a = was_compiled c.compile.ensures c.in-Ok.is in
    record { read = a.read; is = prepared a c.prepare-p.ensures }

pub returns-in-Err : goal.returns-in-Err
returns-in-Err c =
    rw (c.with_state.ensures, c.refusal.ensures) (many_refused (was_refused c.compile.ensures c.in-Err.is))

pub returns-in-Ok : goal.returns-in-Ok
returns-in-Ok c =
    let a = was_compiled c.compile.ensures c.in-Ok.is in
    many_ran a.accepts (c.react_many.ensures.runs a.read (prepared a c.prepare-p.ensures))
