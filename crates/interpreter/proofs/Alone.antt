-- The interpreter's answer is determined: exactly one set of signals agrees, so there is one moment.
use mathlib.Core.Path.{◌≡◌, sym, ap, ◌∙◌, subst, fun_ext}
use mathlib.Core.Bool.{true}
use mathlib.Core.List.{List}
use Prim.Native.Nat.{ℕ}
use Rattle.number.specs.Counts.{signal_no}
use Rattle.bits.specs.Bits.{has, signals_in}
use Rattle.bits.proofs.Laws.{ext}
use Rattle.sheet.specs.Read.{Sheet}
use Rattle.rules.specs.Rules.{Signals, Outcome}
use Rattle.rules.specs.States.{State, react, next_state, fits}
use Rattle.run.specs.Words.{event_ok}
use Rattle.compiler.specs.Check.{Accepted}
use Rattle.agreement.specs.Demand.{WholeReaction}
use Rattle.agreement.proofs.Theorem.{reaction}
use Rattle.interpreter.specs.Interpret.{Moment}
use Rattle.interpreter.proofs.Settling.{event_of}

-- the same emissions and the same next state
pub record SameMoment (emissions next emissions' next' : ℕ) : Type 0 where
  pub emissions_same : emissions ≡ emissions'
  pub next_same : next ≡ next'

-- what demand 3 says of an event in a state
agreed : {s : List ℕ} {w : Sheet} (state event : ℕ) → Accepted s w → event_ok w.inputs event ≡ true → fits (has state) w.root ≡ true
    → WholeReaction w (signals_in event) (has state)
agreed {w = w} state event ok is_event fit = reaction ok (signals_in event) (has state) fit (event_of w.inputs event is_event)

-- a moment is under the one set that agrees
under : {w : Sheet} {state event emissions next : ℕ} (r : WholeReaction w (signals_in event) (has state))
    (m : Moment w.root state event emissions next)
    → react m.present (has state) w.root ≡ react r.present (has state) w.root
under {w} {state} r m = ap (λ (E : Signals). react E (has state) w.root) (fun_ext (r.alone m.present m.agrees))

pub one_moment : {s : List ℕ} {w : Sheet} {state event emissions next emissions' next' : ℕ} → Accepted s w
    → event_ok w.inputs event ≡ true → fits (has state) w.root ≡ true → Moment w.root state event emissions next
    → Moment w.root state event emissions' next' → SameMoment emissions next emissions' next'
one_moment {w = w} {state} {event} {emissions} {next} {emissions'} {next'} ok is_event fit m m' =
    let r = agreed state event ok is_event fit in
    let same = under r m ∙ sym (under r m') in
    let emits : (j : ℕ) → has emissions j ≡ has emissions' j =
    λ j. m.emits (signal_no j) ∙ ap (λ (o : Outcome). o.emits (signal_no j)) same ∙ sym (m'.emits (signal_no j)) in
    let keeps : (b : ℕ) → has next b ≡ has next' b = λ b. m.keeps b ∙ ap (λ (o : Outcome). next_state o b) same ∙ sym (m'.keeps b) in
    record { emissions_same = ext emissions emissions' emits; next_same = ext next next' keeps }

-- the next state fits again, so that the next event can follow
pub fits_again : {s : List ℕ} {w : Sheet} {state event emissions next : ℕ} → Accepted s w → event_ok w.inputs event ≡ true
    → fits (has state) w.root ≡ true → Moment w.root state event emissions next → fits (has next) w.root ≡ true
fits_again {w = w} {state} {event} {next = next} ok is_event fit m =
    let r = agreed state event ok is_event fit in
    let after : has next ≡ next_state (react r.present (has state) w.root) = fun_ext m.keeps ∙ ap next_state (under r m) in
    subst (λ (S : State). fits S w.root ≡ true) (sym after) r.again
