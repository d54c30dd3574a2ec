-- What stops a run, what an engine's run answers, and that there is one answer: of both engines alike.
use mathlib.Core.Path.{◌≡◌, refl, sym, ap, ◌∙◌}
use mathlib.Core.Bool.{Bool, true, false}
use mathlib.Core.List.{List, [], ◌∷◌, ◌++◌, append-nil}
use Prim.Native.Nat.{ℕ, zero, suc, ◌+◌, ◌*◌}
use native.Mathlib.Omega.{arith}
use lib.Dec.{leb}
use lib.ListN.{length, take, drop, replicate, drop_of_length-le, length-replicate}
use lib.Seq.{sets, sets-eq}
use borrow.Author.Tests.{leb-true}
use Rattle.number.specs.declared.Fault.{Fault}
use Rattle.number.specs.Number.{pick}
use Rattle.number.proofs.Bools.{and_left, and_right}
use Rattle.bits.specs.Bits.{words, whole_in, words_of, sets_in}
use Rattle.bits.proofs.Whole.{words_of_long}
use Rattle.run.specs.Many.{Step, Steps, Room, Ran}
use Rattle.run.proofs.Going.{SameSteps}
use Rattle.verdicts.specs.declared.Answer.{Answer}
use Rattle.verdicts.specs.declared.Course.{Course}
use Rattle.verdicts.specs.declared.Reaction.{Reaction}
use Rattle.verdicts.specs.Answers.{Verdict, passes, stops, verdict, answer_of, refusal, buffer_after, with_state, reaction_of, stop_of}
use Rattle.verdicts.specs.Runs.{Asked, Told, needed, has_room, state_after, Runs, Once}
use Rattle.verdicts.specs.Once.{Run, RanOnce}
use denote.Ref.{Bor, MutBor}
use Rattle.std.specs.Prelude.{Ok, Err}

-- two constructors are never equal
never : {A : Type 0} → ◌≡◌ {A = ℕ} 0 1 → A
never e = absurd (omega arith)

-- what stops a run, as the code has it
pub stop_by : (v : Verdict) {f : Fault} → Err f ≡ stop_of v → v ≡ stops f
unfolding stop_of
stop_by passes e = never (cc)
stop_by (stops g) e = cc

pub stop_none : (v : Verdict) → Ok tt ≡ stop_of v → v ≡ passes
unfolding stop_of
stop_none passes e = refl
stop_none (stops g) e = never (cc)

-- nothing stops it: all that was asked is so
pub record AllPass (events state room : Bool) : Type 0 where
  pub events_pass : events ≡ true
  pub state_passes : state ≡ true
  pub room_passes : room ≡ true

pub all_pass : (e s m : Bool) (n : ℕ) → verdict passes e s m n ≡ passes → AllPass e s m
unfolding verdict pick
all_pass true true true n p = record { events_pass = refl; state_passes = refl; room_passes = refl }
all_pass true true false n p = never (cc)
all_pass true false m n p = never (cc)
all_pass false s m n p = never (cc)

-- both lent slices are long enough
pub room_is : (ask : Asked) → has_room ask ≡ true → Room ask.events ask.signals ask.states
room_is ask e =
    let n : ℕ = needed ask in
    let a : Bool = leb n (length ask.signals) in
    let b : Bool = leb n (length ask.states) in
    record { signals_long = leb-true n _ (and_left a b e); states_long = leb-true n _ (and_right a b e) }

module _ {step : Step} {accepted : Answer} {v : Verdict} {ask : Asked} where
  -- a fault: nothing is written
  pub ran_stopped : {f : Fault} → v ≡ stops f
      → Runs step accepted v ask (record { course = with_state (refusal f) ask.state; signals = ask.signals; states = ask.states })
  unfolding answer_of state_after buffer_after
  ran_stopped {f} e =
      record { shown = []; passed = []; steps = λ p. never (cc); answer = rw e; signals_left = rw e; states_left = rw e }

  -- no fault: what the engine's run leaves
  pub ran_on : {last : ℕ} {signals' states' : List ℕ} → v ≡ passes
      → Ran step ask.state ask.events ask.signals signals' ask.states states' last
      → Runs step accepted v ask (record { course = with_state accepted last; signals = signals'; states = states' })
  unfolding answer_of state_after buffer_after
  ran_on e ran =
      record {
        shown = ran.shown;
        passed = ran.passed;
        steps = λ p. ran.steps;
        answer = rw (e, ran.ends);
        signals_left = rw e ran.signals_left;
        states_left = rw e ran.states_left;
      }

told : Course → List ℕ → List ℕ → Told
told c signals states = record { course = c; signals = signals; states = states }

told_same : {t t' : Told} → t.course ≡ t'.course → t.signals ≡ t'.signals → t.states ≡ t'.states → t ≡ t'
unfolding told
told_same {t} {t'} a b c =
    ap (λ (x : Course). told x t.signals t.states) a ∙ ap (λ (x : List ℕ). told t'.course x t.states) b ∙ ap (λ (x : List ℕ). told t'.course t'.signals x) c

-- where there is one run there is one answer
pub one_ran : (step : Step) (accepted : Answer) (v : Verdict) (ask : Asked)
    → (v ≡ passes → (a n b m : List ℕ) → Steps step ask.state (sets_in ask.events) a n → Steps step ask.state (sets_in ask.events) b m
    → SameSteps a n b m) → {t t' : Told} → Runs step accepted v ask t → Runs step accepted v ask t' → t ≡ t'
unfolding answer_of state_after buffer_after
one_ran step accepted (stops f) ask alone {t} {t'} x y =
    told_same (x.answer ∙ sym y.answer) (x.signals_left ∙ sym y.signals_left) (x.states_left ∙ sym y.states_left)
one_ran step accepted passes ask alone {t} {t'} x y =
    let same = alone refl x.shown x.passed y.shown y.passed (x.steps refl) (y.steps refl) in
    let answer : t.course ≡ t'.course = x.answer ∙ rw same.states_same (sym y.answer) in
    let signals : t.signals ≡ t'.signals = x.signals_left ∙ rw same.shown_same (sym y.signals_left) in
    let states : t.states ≡ t'.states = x.states_left ∙ rw same.states_same (sym y.states_left) in
    told_same answer signals states

-- .. and one reaction
pub one_once : (many : Asked → Told → Type 0) → ((ask : Asked) (t t' : Told) → many ask t → many ask t' → t ≡ t')
    → {state event : ℕ} {r r' : Reaction} → Once many state event r → Once many state event r' → r ≡ r'
one_once many alone x y = x.is ∙ rw (alone _ x.told y.told x.ran y.ran) (sym y.is)

-- an event written to a slice of its own, and a slice of nothing
zeros : (k : ℕ) → words_of k 0 ≡ replicate k 0
unfolding words_of
zeros zero = refl
zeros (suc k) = ap (λ (l : List ℕ). 0 ∷ l) (zeros k)

all_laid : (l xs : List ℕ) → length l ≡ length xs → sets l 0 xs ≡ xs
all_laid l xs e =
    let none : drop (0 + length xs) l ≡ [] = drop_of_length-le l {i = 0 + length xs} (omega (arith, e)) in
    sets-eq xs l 0 (omega (arith, e)) ∙ ap (λ (r : List ℕ). xs ++ r) none ∙ append-nil xs

-- What is written as the event, and what is lent for the rest, are a run over one event.
pub event_alone : (event : ℕ) {events : List ℕ} → events ≡ sets (replicate words 0) (0 * words) (words_of words event)
    → events ≡ words_of words event
event_alone event written =
    written ∙ all_laid (replicate words 0) (words_of words event) (length-replicate {A = ℕ} words 0 ∙ sym (words_of_long words event))

pub nothing_lent : replicate words 0 ≡ words_of words 0
nothing_lent = sym (zeros words)

-- A reaction is what a run answers that was called with one event.
pub once_of : {F : Type 0} {g : Run F} {run : F} (many : Asked → Told → Type 0) {state event : ℕ} {r : Reaction} → RanOnce g run event r
    → ((events : Bor (List ℕ)) (signals states signals' states' : MutBor (List ℕ)) (course : Course)
    → g.post run (events, (signals, (states, tt))) (course, (signals', (states', tt)))
    → many (record { state = state; events = events.now; signals = signals.now; states = states.now })
    (record { course = course; signals = signals'.now; states = states'.now }))
    → Once many state event r
once_of many {state} {event} o says =
    record {
      told = record { course = o.course; signals = o.signals_left.now; states = o.states_left.now };
      ran = rw (o.one_event, o.no_signals, o.no_states) at (says o.events o.signals o.states o.signals_left o.states_left o.course o.ran);
      is = o.is;
    }
