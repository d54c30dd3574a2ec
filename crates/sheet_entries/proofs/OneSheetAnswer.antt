-- Nothing else satisfies the description: two answers of an entry to the same arguments are equal, and so is what was lent after them.
use mathlib.Core.Path.{◌≡◌, sym, ◌∙◌}
use mathlib.Core.Bool.{true}
use mathlib.Core.List.{List}
use Prim.Native.Nat.{ℕ}
use native.Mathlib.Omega.{arith}
use Rattle.number.proofs.Bools.{and_right}
use Rattle.bits.specs.Bits.{has, is_whole, sets_in}
use Rattle.sheet.specs.Read.{Sheet, SheetOutcome, sheet, faulty}
use Rattle.rules.specs.States.{fits}
use Rattle.run.specs.Words.{event_ok}
use Rattle.run.specs.Many.{Steps, each}
use Rattle.run.proofs.Going.{SameSteps, one_run}
use Rattle.compiler.specs.Check.{Checks}
use Rattle.compiler.proofs.Unique.{one_check}
use Rattle.interpreter.proofs.Alone.{one_moment, fits_again}
use Rattle.verdicts.specs.declared.Answer.{Answer}
use Rattle.verdicts.specs.declared.Reaction.{Reaction}
use Rattle.verdicts.specs.Answers.{stops, verdict}
use Rattle.verdicts.specs.Runs.{Asked, Told, needed, has_room, Once}
use Rattle.verdicts.proofs.Running.{all_pass, one_ran, one_once}
use Rattle.sheet_entries.specs.Sheets.{sheet_verdict, Checked, sheet_fits, Fitting, sheet_events, sheet_step, SheetRuns, ReactedMany}

module _ (s : List ℕ) where
  pub one_checked : {r r' : Answer} → Checked s r → Checked s r' → r ≡ r'
  one_checked a b = let same = one_check s a.checks b.checks in a.answer ∙ rw same (sym b.answer)

  pub one_fitting : (state : ℕ) {r r' : Answer} → Fitting s state r → Fitting s state r' → r ≡ r'
  one_fitting state a b = let same = one_check s a.checks b.checks in a.answer ∙ rw same (sym b.answer)

-- an accepted sheet: from a state that fits each event of its inputs has one moment, and the next state fits again
module _ (s : List ℕ) (ask : Asked) where
  moments_alike : (w : Sheet) → Checks s (sheet w) → sheet_events (sheet w) ask.events ≡ true → sheet_fits (sheet w) ask.state ≡ true → (a n b m : List ℕ)
      → Steps (sheet_step (sheet w)) ask.state (sets_in ask.events) a n → Steps (sheet_step (sheet w)) ask.state (sets_in ask.events) b m
      → SameSteps a n b m
  unfolding sheet_step sheet_events sheet_fits
  moments_alike w ok own fit a n b m =
      one_run (sheet_step (sheet w)) (λ state. fits (has state) w.root ≡ true) (event_ok w.inputs)
      (λ state event out next out' next' good is_event x y. let same = one_moment ok is_event good x y in (same.emissions_same, same.next_same))
      (λ state event out next good is_event x. fits_again ok is_event good x)
      fit (and_right (is_whole ask.events) (each (event_ok w.inputs) (sets_in ask.events)) own)

  alike : (o : SheetOutcome) → Checks s o → {t t' : Told} → SheetRuns o ask t → SheetRuns o ask t' → t ≡ t'
  unfolding verdict sheet_verdict
  alike (faulty f) ok x y = one_ran _ _ (stops f) ask (λ e. let z : ◌≡◌ {A = ℕ} 0 1 = cc in absurd (omega arith)) x y
  alike (sheet w) ok x y =
      one_ran _ _ _ ask
      (λ e.
      let all = all_pass (sheet_events (sheet w) ask.events) (sheet_fits (sheet w) ask.state) (has_room ask) (needed ask) e in
      moments_alike w ok all.events_pass all.state_passes)
      x y

pub one_reacted_many : (s : List ℕ) (ask : Asked) (t t' : Told) → ReactedMany s ask t → ReactedMany s ask t' → t ≡ t'
one_reacted_many s ask t t' x y =
    let same = one_check s x.checks y.checks in
    alike s ask x.outcome x.checks x.answer (rw (sym same) at y.answer)

pub one_reacted : (s : List ℕ) (state event : ℕ) {r r' : Reaction} → Once (ReactedMany s) state event r → Once (ReactedMany s) state event r' → r ≡ r'
one_reacted s state event = one_once (ReactedMany s) (one_reacted_many s)
