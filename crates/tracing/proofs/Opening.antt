-- What the compiler and the interpreter answer of a sheet opens it.
use Prim.Native.Nat.{ℕ, ◌<◌}
use mathlib.Core.Path.{◌≡◌, refl, sym, ap}
use mathlib.Core.List.{List}
use native.Mathlib.Omega.{arith}
use Rattle.number.specs.declared.Fault.{Fault}
use Rattle.number.specs.declared.Refusal.{Refusal}
use Rattle.number.specs.declared.Refusal.TheVariants.{Short, Number, Kind, Count, Scope, Emit, Exit, Extra}
use Rattle.number.specs.declared.Refusal.TheVariants.{Instant, Twice, Room, Cycle, Event, State, Buffer, Cell}
use Rattle.number.specs.declared.Refusal.TheVariants.{Word, Name, Cover, Order, Line, States}
use Rattle.number.specs.Refusals.{refusal_no}
use Rattle.sheet.specs.declared.Counts.{Counts}
use Rattle.sheet.specs.Read.{Sheet, sheet, faulty}
use Rattle.agreement.proofs.WordRuns.{fresh_fits}
use Rattle.compiler.specs.Check.{Checks, accepted}
use Rattle.compiler.proofs.Passing.{judged_read}
use Rattle.interpreter.proofs.Interpreting.{Compiled_as, prepared}
use Rattle.verdicts.specs.Answers.{refusal, acceptance}
use Rattle.sheet_entries.proofs.SheetEntries.{checked_refused, checked_accepted}
use Rattle.texts.specs.declared.Page.{Page}
use Rattle.tracing.specs.declared.Running.{Running}
use Rattle.tracing.specs.declared.Trace.{Trace}
use Rattle.tracing.specs.declared.Trace.TheVariants.{Event, Nothing}
use Rattle.tracing.specs.Texts.{ok_text, refused_text}
use Rattle.tracing.specs.Steps.{Headed}
use Rattle.tracing.specs.Stands.{Prints, Ready, Opens, not_opened, is_opened}
use Rattle.sets.specs.declared.Entry.{Entry}
use Rattle.sheet.specs.declared.Row.{Row}

-- no refusal has the number 0
refusal_positive : (x : Refusal) → 0 < refusal_no x
refusal_positive Short = omega arith
refusal_positive Number = omega arith
refusal_positive Kind = omega arith
refusal_positive Count = omega arith
refusal_positive Scope = omega arith
refusal_positive Emit = omega arith
refusal_positive Exit = omega arith
refusal_positive Extra = omega arith
refusal_positive Instant = omega arith
refusal_positive Twice = omega arith
refusal_positive Room = omega arith
refusal_positive Cycle = omega arith
refusal_positive Event = omega arith
refusal_positive State = omega arith
refusal_positive Buffer = omega arith
refusal_positive Cell = omega arith
refusal_positive Word = omega arith
refusal_positive Name = omega arith
refusal_positive Cover = omega arith
refusal_positive Order = omega arith
refusal_positive Line = omega arith
refusal_positive States = omega arith

-- a sheet that is refused
pub opens_none : {s : List ℕ} {f : Fault} {r : Trace} {rows : List Row} {statics : List Entry} {p p' : Page} → Checks s (faulty f)
    → Prints Nothing (refused_text (refusal_no f.refusal) f.place) r p p' → Opens s r rows statics p p'
opens_none {f = f} was w = not_opened {a = refusal f} (checked_refused was) (refusal_positive f.refusal) w

-- "A sheet is: number of inputs I, of outputs O": those of an accepted one
headed : {s : List ℕ} {w : Sheet} {I O : ℕ} → Checks s (sheet w) → I ≡ w.inputs → O ≡ w.outputs → Headed s I O
headed {w = w} (accepted order is ordered) inputs outputs =
    record { read_as = w; is = (judged_read is).read; inputs_are = inputs; outputs_are = outputs }

-- one that is accepted is ready
pub opens_sheet : {s : List ℕ} {rows : List Row} {statics : List Entry} {cells : List ℕ} {c : Counts} {n : ℕ} {k : Running} {r : Trace} {p p' : Page}
    → Compiled_as s c n rows statics cells
    → Ready rows c n k → Prints (Event k) (ok_text c.statements n) r p p' → Opens s r rows statics p p'
opens_sheet {c = c} {n = n} a t w =
    is_opened {a = acceptance c.statements n} (checked_accepted a) refl
    (headed a.accepts (ap (λ (k : Counts). k.inputs) a.counts) (ap (λ (k : Counts). k.outputs) a.counts))
    w
    (record {
      read_as = a.read;
      accepts = a.accepts;
      ready = prepared a t.prepares;
      outputs = t.outputs;
      state = sym t.fresh;
      fit = record { answer = λ s _. rw t.fresh (sym (fresh_fits s)) };
      instants = sym t.none;
    })
