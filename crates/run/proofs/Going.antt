-- A run grows by a step at its end, and where each step has one answer there is one run.
use Prim.Native.Nat.{ℕ, zero, suc, ◌+◌, ◌*◌, ◌/◌, ◌<◌, ◌≤◌}
use mathlib.Core.Path.{◌≡◌, refl, sym, ap, ap₂, ◌∙◌, subst}
use mathlib.Core.Bool.{Bool, true, false, and-eq-true_iff}
use mathlib.Core.List.{List, [], ◌∷◌, ◌++◌}
use native.Mathlib.Omega.{arith}
use native.Mathlib.Numerals.{add-one}
use lib.ListN.{length, take, drop, get_or, drop_of_length-le}
use lib.Seq.{sets, length-sets, take-suc, take_all, drop-cons, length-take-le}
use Rattle.bits.specs.Bits.{words, words_of, sets_in, column_of}
use Rattle.bits.proofs.Columns.{sets_length, set_laid}
use Rattle.run.specs.Many.{Step, Steps, ended, goes, last_state, each, Ran}

module _ {step : Step} where
  steps_snoc : {state event signals next : ℕ} {events shown states : List ℕ} → Steps step state events shown states
      → step (last_state state states) event signals next → Steps step state (events ++ (event ∷ [])) (shown ++ (signals ∷ [])) (states ++ (next ∷ []))
  unfolding last_state
  steps_snoc ended s = goes s ended
  steps_snoc (goes first rest) s = goes first (steps_snoc rest s)

  -- one entry for each event
  pub shown_each : {state : ℕ} {events shown states : List ℕ} → Steps step state events shown states → length shown ≡ length events
  shown_each ended = refl
  shown_each (goes first rest) = ap suc (shown_each rest)

  pub states_each : {state : ℕ} {events shown states : List ℕ} → Steps step state events shown states → length states ≡ length events
  states_each ended = refl
  states_each (goes first rest) = ap suc (states_each rest)

last_snoc : (state : ℕ) (states : List ℕ) (next : ℕ) → last_state state (states ++ (next ∷ [])) ≡ next
unfolding last_state
last_snoc state [] next = refl
last_snoc state (s ∷ states) next = last_snoc s states next

-- a run over the sets that were handed in, of which j have passed
pub record Passed (step : Step) (start : ℕ) (sets_in' signals signals' states states' : List ℕ) (last : ℕ) : Type 0 where
  pub shown : List ℕ
  pub passed : List ℕ
  pub steps : Steps step start sets_in' shown passed
  pub signals_left : signals' ≡ sets signals 0 (column_of shown)
  pub states_left : states' ≡ sets states 0 (column_of passed)
  pub ends : last ≡ last_state start passed

module _ (step : Step) (start : ℕ) (events signals states : List ℕ) where
  -- the loop has come to event j
  pub record Upto (signals' states' : List ℕ) (state j : ℕ) : Type 0 where
    pub upto : j ≤ length (sets_in events)
    pub ran : Passed step start (take j (sets_in events)) signals signals' states states' state

  pub upto_none : Upto signals states start 0
  unfolding last_state column_of
  upto_none =
      record {
        upto = omega arith;
        ran = record { shown = []; passed = []; steps = ended; signals_left = refl; states_left = refl; ends = refl };
      }

  module _ {signals' states' : List ℕ} {state j : ℕ} (here : Upto signals' states' state j) where
    -- the slices keep their lengths
    pub signals_length : length signals' ≡ length signals
    signals_length = ap length here.ran.signals_left ∙ length-sets signals 0 (column_of here.ran.shown)

    pub states_length : length states' ≡ length states
    states_length = ap length here.ran.states_left ∙ length-sets states 0 (column_of here.ran.passed)

    pub upto_next : (out next : ℕ) {event : ℕ} → j < length events / words → get_or (sets_in events) j 0 ≡ event → step state event out next
        → Upto (sets signals' (j * words) (words_of words out)) (sets states' (j * words) (words_of words next)) next (j + 1)
    upto_next out next {event} h is taken =
        let ran = here.ran in
        let es : List ℕ = sets_in events in
        let inside : j < length es = omega (arith, sets_length events) in
        let so_far : length (take j es) ≡ j = length-take-le j es here.upto in
        let last : step (last_state start ran.passed) event out next = rw ran.ends at taken in
        let longer : take j es ++ (get_or es j 0 ∷ []) ≡ take (j + 1) es = rw (add-one, take-suc es j 0 inside) in
        record {
          upto = omega arith;
          ran = record {
            shown = ran.shown ++ (out ∷ []);
            passed = ran.passed ++ (next ∷ []);
            steps = subst (λ (xs : List ℕ). Steps step start xs (ran.shown ++ (out ∷ [])) (ran.passed ++ (next ∷ []))) longer (steps_snoc ran.steps (rw is last));
            signals_left = rw ran.signals_left (set_laid signals ran.shown out (shown_each ran.steps ∙ so_far));
            states_left = rw ran.states_left (set_laid states ran.passed next (states_each ran.steps ∙ so_far));
            ends = sym (last_snoc start ran.passed next);
          };
        }

    pub upto_all : length events / words ≤ j → Ran step start events signals signals' states states' state
    upto_all h =
        let ran = here.ran in
        let all : take j (sets_in events) ≡ sets_in events = take_all j (sets_in events) (omega (arith, sets_length events)) in
        record {
          shown = ran.shown;
          passed = ran.passed;
          steps = subst (λ (xs : List ℕ). Steps step start xs ran.shown ran.passed) all ran.steps;
          signals_left = ran.signals_left;
          states_left = ran.states_left;
          ends = ran.ends;
        }

-- the test of each word, word by word
pub each_none : (test : ℕ → Bool) (ws : List ℕ) (j : ℕ) → length ws ≤ j → each test (drop j ws) ≡ true
unfolding each
each_none test ws j h = rw (drop_of_length-le ws {i = j} h)

pub each_next : (test : ℕ → Bool) (ws : List ℕ) (j : ℕ) → j < length ws → test (get_or ws j 0) ≡ true → each test (drop j ws) ≡ each test (drop (j + 1) ws)
unfolding each
each_next test ws j h ok = rw (drop-cons ws j 0 h, ok, add-one)

pub each_fails : (test : ℕ → Bool) (ws : List ℕ) (j : ℕ) → j < length ws → test (get_or ws j 0) ≡ false → each test (drop j ws) ≡ false
unfolding each
each_fails test ws j h bad = rw (drop-cons ws j 0 h, bad)

pub each_at : (test : ℕ → Bool) (ws : List ℕ) (j : ℕ) → j < length ws → each test ws ≡ true → test (get_or ws j 0) ≡ true
unfolding each
each_at test [] j h e = absurd (omega arith)
each_at test (w ∷ ws) zero h e = ((and-eq-true_iff (test w) (each test ws)).0 e).0
each_at test (w ∷ ws) (suc j) h e = each_at test ws j (omega arith) ((and-eq-true_iff (test w) (each test ws)).0 e).1

-- the same signals and states
pub record SameSteps (shown states shown' states' : List ℕ) : Type 0 where
  pub shown_same : shown ≡ shown'
  pub states_same : states ≡ states'

-- Where a step from a good state with an event that passes the test has one answer and leads to a good state, there is one run.
module _ (step : Step) (Good : ℕ → Type 0) (test : ℕ → Bool)
    (alone : (state event out next out' next' : ℕ) → Good state → test event ≡ true → step state event out next → step state event out' next'
    → (out ≡ out') × (next ≡ next'))
    (again : (state event out next : ℕ) → Good state → test event ≡ true → step state event out next → Good next) where
  pub one_run : {state : ℕ} {events shown states shown' states' : List ℕ} → Good state → each test events ≡ true → Steps step state events shown states
      → Steps step state events shown' states' → SameSteps shown states shown' states'
  unfolding each
  one_run good own ended ended = record { shown_same = refl; states_same = refl }
  one_run good own (goes {event = e} {signals = a} {next = n} {events = es} first rest) (goes {signals = b} {next = m} {shown = bs} {states = ms} first' rest') =
      let own_each = (and-eq-true_iff (test e) (each test es)).0 own in
      let same = alone _ e a n b m good own_each.0 first first' in
      let later = one_run {shown' = bs} {states' = ms} (again _ e a n good own_each.0 first) own_each.1 rest (subst (λ (s : ℕ). Steps step s es bs ms) (sym same.1) rest') in
      record {
        shown_same = ap₂ {C = List ℕ} (λ (x : ℕ) (xs : List ℕ). x ∷ xs) same.0 later.shown_same;
        states_same = ap₂ {C = List ℕ} (λ (x : ℕ) (xs : List ℕ). x ∷ xs) same.1 later.states_same;
      }
