-- What the compiler and the interpreter answer makes the entries' answers.
use mathlib.Core.Path.{◌≡◌, refl, sym, ◌∙◌}
use mathlib.Core.Bool.{Bool, true, false}
use mathlib.Core.List.{List}
use Prim.Native.Nat.{ℕ}
use Rattle.number.specs.declared.Fault.{Fault}
use Rattle.number.specs.declared.Refusal.TheVariants.{State}
use Rattle.number.specs.Number.{pick}
use Rattle.number.specs.Refusals.{refusal_no, fault}
use Rattle.sheet.specs.declared.Counts.{Counts}
use Rattle.sheet.specs.Read.{Sheet, SheetOutcome, sheet, faulty}
use Rattle.sheet.specs.Answer.{counts_of, sheet_answer}
use Rattle.rules.specs.Words.{Fitted}
use Rattle.compiler.specs.Check.{Checks}
use Rattle.interpreter.specs.Program.{AcceptedRuns}
use Rattle.interpreter.proofs.Interpreting.{Compiled_as}
use Rattle.verdicts.specs.Answers.{verdict, answer_of, refusal, acceptance, with_state}
use Rattle.verdicts.specs.Runs.{Asked, Told}
use Rattle.verdicts.proofs.Running.{ran_stopped}
use Rattle.sheet_entries.specs.Sheets.{reading_of, sheet_verdict, sheet_accepted, Checked, sheet_fits, Fitting, sheet_events, sheet_step, ReactedMany}
use Rattle.std.specs.Prelude.{Result, Ok, Err}
use Rattle.sets.specs.declared.Entry.{Entry}
use Rattle.sheet.specs.declared.Row.{Row}

-- reading alone
pub read_refused : (o : SheetOutcome) {r : Result Counts Fault} {f : Fault} {n : ℕ} → r ≡ sheet_answer o → r ≡ Err f → n ≡ refusal_no f.refusal
    → record { number = n; place = f.place; statements = 0; halts = 0; signals = 0 } ≡ reading_of o
unfolding reading_of sheet_answer
read_refused (faulty f) answer is number = let same : Err _ ≡ Err f = sym is ∙ answer in cc
read_refused (sheet w) answer is number = absurd (cc)

pub read_counts : (o : SheetOutcome) {r : Result Counts Fault} {c : Counts} → r ≡ sheet_answer o → r ≡ Ok c
    → record { number = 0; place = 0; statements = c.statements; halts = c.halts; signals = c.signals } ≡ reading_of o
unfolding reading_of sheet_answer
read_counts (faulty f) answer is = absurd (cc)
read_counts (sheet w) answer is = let same : Ok _ ≡ Ok (counts_of w) = sym is ∙ answer in cc

-- a sheet's own fault
module _ {s : List ℕ} {f : Fault} (was : Checks s (faulty f)) where
  pub checked_refused : Checked s (refusal f)
  unfolding answer_of sheet_verdict
  checked_refused = record { outcome = faulty f; checks = was; answer = refl }

  pub fitting_refused : {state : ℕ} → Fitting s state (refusal f)
  unfolding answer_of sheet_verdict verdict
  fitting_refused = record { outcome = faulty f; checks = was; answer = refl }

-- an accepted sheet
module _ {s : List ℕ} {rows : List Row} {statics : List Entry} {cells : List ℕ} {c : Counts} {n : ℕ} (a : Compiled_as s c n rows statics cells) where
  pub counts_are : acceptance c.statements n ≡ sheet_accepted (sheet a.read)
  unfolding sheet_accepted
  counts_are = rw (a.counts, a.count)

  pub checked_accepted : Checked s (acceptance c.statements n)
  unfolding answer_of sheet_verdict
  checked_accepted = record { outcome = sheet a.read; checks = a.accepts; answer = counts_are }

  module _ {state : ℕ} {fit : Bool} (fitted : Fitted rows state fit) where
    fits_is : {b : Bool} → fit ≡ b → sheet_fits (sheet a.read) state ≡ b
    unfolding sheet_fits
    fits_is is = sym (fitted.answer a.read.root a.own.holds) ∙ is

    pub fitting_accepted : fit ≡ true → Fitting s state (acceptance c.statements n)
    unfolding answer_of sheet_verdict verdict pick
    fitting_accepted is = record { outcome = sheet a.read; checks = a.accepts; answer = rw (fits_is is) counts_are }

    pub fitting_state : fit ≡ false → Fitting s state (refusal (fault State 0))
    unfolding answer_of sheet_verdict verdict pick
    fitting_state is = record { outcome = sheet a.read; checks = a.accepts; answer = rw (fits_is is) }

-- the runs of the program that was made of it are its runs
pub many_refused : {s : List ℕ} {f : Fault} {ask : Asked} → Checks s (faulty f)
    → ReactedMany s ask (record { course = with_state (refusal f) ask.state; signals = ask.signals; states = ask.states })
unfolding verdict sheet_verdict
many_refused {f = f} was = record { outcome = faulty f; checks = was; answer = ran_stopped refl }

pub many_ran : {s : List ℕ} {w : Sheet} {ask : Asked} {told : Told} → Checks s (sheet w) → AcceptedRuns w ask told → ReactedMany s ask told
unfolding verdict sheet_verdict sheet_events sheet_fits sheet_step sheet_accepted
many_ran {w = w} was did = record { outcome = sheet w; checks = was; answer = did }
