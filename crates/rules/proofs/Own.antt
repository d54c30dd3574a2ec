-- What lies outside a statement's own signals and halts is not touched, and not looked at: it emits only signals that it names, keeps only
-- halts of its own, and asks E and the state only for those.
use mathlib.Core.Path.{◌≡◌, refl, ap}
use mathlib.Core.Bool.{Bool, true, false, ◌||◌, false≢true}
use Prim.Native.Nat.{ℕ, zero, suc, ◌+◌, ◌<◌, ◌≤◌}
use native.Mathlib.Omega.{arith}
use borrow.Author.Tests.{eqb-true, eq-eqb}
use Rattle.number.specs.declared.SignalNo.{SignalNo}
use Rattle.number.specs.declared.HaltNo.{HaltNo}
use Rattle.number.specs.Counts.{of_signal, of_halt}
use Rattle.number.specs.Number.{pick}
use Rattle.number.proofs.Bools.{or_left, or_right, or_cases}
use Rattle.bits.specs.Bits.{boot}
use Rattle.sheet.specs.declared.Leaf.TheVariants.{Nothing, Halt, Emit, Exit}
use Rattle.sheet.specs.declared.Unary.TheVariants.{Loop, Watching, Trap, Signal}
use Rattle.sheet.specs.declared.Binary.TheVariants.{Sequence, Present, Parallel}
use Rattle.sheet.specs.Stmt.{Stmt, leaf, one, two, halt_count}
use Rattle.sheet.specs.Read.{only}
use Rattle.sheet.proofs.Notions.{Scoped, Numbered, in_halts, halt_within}
use Rattle.sets.specs.Codes.{join, larger}
use Rattle.rules.specs.Rules.{Signals, Halts, Outcome, idle, then_on, followed, kept, beside, trapped, start, active, resume}
use Rattle.rules.specs.States.{State, halts_of, react}

-- A claim on what is emitted, or kept: it holds of a whole run if it holds of each emit, and of each halt.
module _ (X : Type 0) (P : X → Type 0) (of : Outcome → X → Bool) where
  abbrev Only : Outcome → Type 0
  Only o = (x : X) → of o x ≡ true → P x

  only_followed : (a b : Outcome) → Only (record { emits = join a.emits b.emits; code = b.code; halts = b.halts }) → Only a
      → Only (followed a b)
  only_followed a b f g = go a.code
    where
      go : (k : ℕ) → Only (then_on k a b)
      go zero = f
      go (suc k) = g

  only_pick : (c : Bool) (a b : Outcome) → Only a → Only b → Only (pick c a b)
  unfolding pick
  only_pick true a b f g = f
  only_pick false a b f g = g

-- emissions are outputs or locals, below n
module _ (i n : ℕ) where
  abbrev Emitted : SignalNo → Type 0
  Emitted s = (i < of_signal s) × (of_signal s < n)

  abbrev pub EmitsOwn : Outcome → Type 0
  EmitsOwn o = (s : SignalNo) → o.emits s ≡ true → (i < of_signal s) × (of_signal s < n)

  followed_emits : (a b : Outcome) → EmitsOwn a → EmitsOwn b → EmitsOwn (followed a b)
  followed_emits a b f g =
      only_followed SignalNo Emitted (λ o. o.emits) a b (λ s. or_cases (a.emits s) (b.emits s) (f s) (g s)) f

  pick_emits : (c : Bool) (a b : Outcome) → EmitsOwn a → EmitsOwn b → EmitsOwn (pick c a b)
  pick_emits = only_pick SignalNo Emitted (λ o. o.emits)

  beside_emits : (a b : Outcome) → EmitsOwn a → EmitsOwn b → EmitsOwn (beside a b)
  beside_emits a b f g s = or_cases (a.emits s) (b.emits s) (f s) (g s)

  none_emitted : EmitsOwn idle
  none_emitted s e = absurd (false≢true e)

  one_emitted : (x : SignalNo) → (i < of_signal x) × (of_signal x < n) → (s : SignalNo) → only x s ≡ true
      → (i < of_signal s) × (of_signal s < n)
  one_emitted x w s e =
      let here : of_signal s ≡ of_signal x = eqb-true (of_signal s) (of_signal x) e in (omega (arith, w.0), omega (arith, w.1))

  pub start_emits : (E : Signals) (t : Stmt) → Scoped i n t → EmitsOwn (start E t)
  unfolding start Scoped
  start_emits E (leaf Nothing) w = none_emitted
  start_emits E (leaf (Halt k)) w = none_emitted
  start_emits E (leaf (Emit x)) w = one_emitted x w
  start_emits E (leaf (Exit k)) w = none_emitted
  start_emits E (one Loop p) w = start_emits E p w.1
  start_emits E (one (Watching s) p) w = start_emits E p w.1
  start_emits E (one Trap p) w = start_emits E p w.1
  start_emits E (one (Signal s) p) w = start_emits E p w.1
  start_emits E (two Sequence p q) w = followed_emits (start E p) (start E q) (start_emits E p w.1) (start_emits E q w.2)
  start_emits E (two (Present s) p q) w = pick_emits (E s) (start E p) (start E q) (start_emits E p w.1) (start_emits E q w.2)
  start_emits E (two Parallel p q) w = beside_emits (start E p) (start E q) (start_emits E p w.1) (start_emits E q w.2)

  pub resume_emits : (E : Signals) (H : Halts) (t : Stmt) → Scoped i n t → EmitsOwn (resume E H t)
  unfolding resume Scoped
  resume_emits E H (leaf Nothing) w = none_emitted
  resume_emits E H (leaf (Halt k)) w = none_emitted
  resume_emits E H (leaf (Emit s)) w = none_emitted
  resume_emits E H (leaf (Exit k)) w = none_emitted
  resume_emits E H (one Loop p) w = followed_emits (resume E H p) (start E p) (resume_emits E H p w.1) (start_emits E p w.1)
  resume_emits E H (one (Watching s) p) w = pick_emits (E s) idle (resume E H p) none_emitted (resume_emits E H p w.1)
  resume_emits E H (one Trap p) w = resume_emits E H p w.1
  resume_emits E H (one (Signal s) p) w = resume_emits E H p w.1
  resume_emits E H (two Sequence p q) w =
      pick_emits (active H p) (followed (resume E H p) (start E q)) (resume E H q)
      (followed_emits (resume E H p) (start E q) (resume_emits E H p w.1) (start_emits E q w.2))
      (resume_emits E H q w.2)
  resume_emits E H (two (Present s) p q) w =
      pick_emits (active H p) (resume E H p) (resume E H q) (resume_emits E H p w.1) (resume_emits E H q w.2)
  resume_emits E H (two Parallel p q) w =
      beside_emits (pick (active H p) (resume E H p) idle) (pick (active H q) (resume E H q) idle)
      (pick_emits (active H p) (resume E H p) idle (resume_emits E H p w.1) none_emitted)
      (pick_emits (active H q) (resume E H q) idle (resume_emits E H q w.2) none_emitted)

  pub react_emits : (E : Signals) (S : State) (t : Stmt) → Scoped i n t → EmitsOwn (react E S t)
  unfolding react
  react_emits E S t w =
      pick_emits (S boot) (pick (active (halts_of S) t) (resume E (halts_of S) t) idle) (start E t)
      (pick_emits (active (halts_of S) t) (resume E (halts_of S) t) idle (resume_emits E (halts_of S) t w) none_emitted)
      (start_emits E t w)

-- halts that are kept are t's own
abbrev pub KeepsOwn : Stmt → Outcome → Type 0
KeepsOwn t o = (h : HaltNo) → o.halts h ≡ true → in_halts t h ≡ true

none_kept : (t : Stmt) → KeepsOwn t idle
none_kept t h e = absurd (false≢true e)

module _ (t : Stmt) where
  followed_keeps : (a b : Outcome) → KeepsOwn t a → KeepsOwn t b → KeepsOwn t (followed a b)
  followed_keeps a b f g = only_followed HaltNo (λ h. in_halts t h ≡ true) (λ o. o.halts) a b g f

  pick_keeps : (c : Bool) (a b : Outcome) → KeepsOwn t a → KeepsOwn t b → KeepsOwn t (pick c a b)
  pick_keeps = only_pick HaltNo (λ h. in_halts t h ≡ true) (λ o. o.halts)

  beside_keeps : (a b : Outcome) → KeepsOwn t a → KeepsOwn t b → KeepsOwn t (beside a b)
  beside_keeps a b f g = go (larger a.code b.code)
    where
      go : (c : ℕ) → (h : HaltNo) → kept c (join a.halts b.halts) h ≡ true → in_halts t h ≡ true
      go zero h = or_cases (a.halts h) (b.halts h) (f h) (g h)
      go (suc zero) h = or_cases (a.halts h) (b.halts h) (f h) (g h)
      go (suc (suc c)) h = λ e. absurd (false≢true e)

-- the halts of a part are halts of the whole
module _ (p q : Stmt) (o : Outcome) where
  left_keeps : KeepsOwn p o → (h : HaltNo) → o.halts h ≡ true → (in_halts p h || in_halts q h) ≡ true
  left_keeps f h e = or_left (in_halts p h) (in_halts q h) (f h e)

  right_keeps : KeepsOwn q o → (h : HaltNo) → o.halts h ≡ true → (in_halts p h || in_halts q h) ≡ true
  right_keeps f h e = or_right (in_halts p h) (in_halts q h) (f h e)

pub start_keeps : (E : Signals) (t : Stmt) → KeepsOwn t (start E t)
unfolding start in_halts
start_keeps E (leaf Nothing) = none_kept (leaf Nothing)
start_keeps E (leaf (Halt k)) = λ h e. e
start_keeps E (leaf (Emit s)) = none_kept (leaf (Emit s))
start_keeps E (leaf (Exit k)) = none_kept (leaf (Exit k))
start_keeps E (one Loop p) = start_keeps E p
start_keeps E (one (Watching s) p) = start_keeps E p
start_keeps E (one Trap p) = start_keeps E p
start_keeps E (one (Signal s) p) = start_keeps E p
start_keeps E (two Sequence p q) =
    followed_keeps (two Sequence p q) (start E p) (start E q)
    (left_keeps p q (start E p) (start_keeps E p)) (right_keeps p q (start E q) (start_keeps E q))
start_keeps E (two (Present s) p q) =
    pick_keeps (two (Present s) p q) (E s) (start E p) (start E q)
    (left_keeps p q (start E p) (start_keeps E p)) (right_keeps p q (start E q) (start_keeps E q))
start_keeps E (two Parallel p q) =
    beside_keeps (two Parallel p q) (start E p) (start E q)
    (left_keeps p q (start E p) (start_keeps E p)) (right_keeps p q (start E q) (start_keeps E q))

pub resume_keeps : (E : Signals) (H : Halts) (t : Stmt) → KeepsOwn t (resume E H t)
unfolding resume in_halts
resume_keeps E H (leaf Nothing) = none_kept (leaf Nothing)
resume_keeps E H (leaf (Halt k)) = λ h e. e
resume_keeps E H (leaf (Emit s)) = none_kept (leaf (Emit s))
resume_keeps E H (leaf (Exit k)) = none_kept (leaf (Exit k))
resume_keeps E H (one Loop p) = followed_keeps p (resume E H p) (start E p) (resume_keeps E H p) (start_keeps E p)
resume_keeps E H (one (Watching s) p) = pick_keeps p (E s) idle (resume E H p) (none_kept p) (resume_keeps E H p)
resume_keeps E H (one Trap p) = resume_keeps E H p
resume_keeps E H (one (Signal s) p) = resume_keeps E H p
resume_keeps E H (two Sequence p q) =
    pick_keeps (two Sequence p q) (active H p) (followed (resume E H p) (start E q)) (resume E H q)
    (followed_keeps (two Sequence p q) (resume E H p) (start E q)
    (left_keeps p q (resume E H p) (resume_keeps E H p)) (right_keeps p q (start E q) (start_keeps E q)))
    (right_keeps p q (resume E H q) (resume_keeps E H q))
resume_keeps E H (two (Present s) p q) =
    pick_keeps (two (Present s) p q) (active H p) (resume E H p) (resume E H q)
    (left_keeps p q (resume E H p) (resume_keeps E H p)) (right_keeps p q (resume E H q) (resume_keeps E H q))
resume_keeps E H (two Parallel p q) =
    let P : Outcome = pick (active H p) (resume E H p) idle in
    let Q : Outcome = pick (active H q) (resume E H q) idle in
    beside_keeps (two Parallel p q) P Q
    (left_keeps p q P (pick_keeps p (active H p) (resume E H p) idle (resume_keeps E H p) (none_kept p)))
    (right_keeps p q Q (pick_keeps q (active H q) (resume E H q) idle (resume_keeps E H q) (none_kept q)))

pub react_keeps : (E : Signals) (S : State) (t : Stmt) → KeepsOwn t (react E S t)
unfolding react
react_keeps E S t =
    pick_keeps t (S boot) (pick (active (halts_of S) t) (resume E (halts_of S) t) idle) (start E t)
    (pick_keeps t (active (halts_of S) t) (resume E (halts_of S) t) idle (resume_keeps E (halts_of S) t) (none_kept t))
    (start_keeps E t)

-- as numbers: from the statement's first halt on, as many as it has
pub kept_numbers : (a : HaltNo) (t : Stmt) (o : Outcome) → Numbered a t → KeepsOwn t o → (h : HaltNo) → o.halts h ≡ true
    → (of_halt a ≤ of_halt h) × (of_halt h < of_halt a + halt_count t)
kept_numbers a t o n f h e = halt_within a t n h (f h e)

-- two sets that agree on the signals that t names give the same run
module _ (i n : ℕ) (E E' : Signals) (alike : (s : SignalNo) → of_signal s < n → E s ≡ E' s) where
  pub start_reads : (t : Stmt) → Scoped i n t → start E t ≡ start E' t
  unfolding start Scoped
  start_reads (leaf Nothing) w = refl
  start_reads (leaf (Halt k)) w = refl
  start_reads (leaf (Emit s)) w = refl
  start_reads (leaf (Exit k)) w = refl
  start_reads (one Loop p) w = start_reads p w.1
  start_reads (one (Watching s) p) w = start_reads p w.1
  start_reads (one Trap p) w = ap trapped (start_reads p w.1)
  start_reads (one (Signal s) p) w = start_reads p w.1
  start_reads (two Sequence p q) w = rw (start_reads p w.1, start_reads q w.2)
  start_reads (two (Present s) p q) w = rw (alike s w.0, start_reads p w.1, start_reads q w.2)
  start_reads (two Parallel p q) w = rw (start_reads p w.1, start_reads q w.2)

  pub resume_reads : (H : Halts) (t : Stmt) → Scoped i n t → resume E H t ≡ resume E' H t
  unfolding resume Scoped
  resume_reads H (leaf Nothing) w = refl
  resume_reads H (leaf (Halt k)) w = refl
  resume_reads H (leaf (Emit s)) w = refl
  resume_reads H (leaf (Exit k)) w = refl
  resume_reads H (one Loop p) w = rw (resume_reads H p w.1, start_reads p w.1)
  resume_reads H (one (Watching s) p) w = rw (alike s w.0, resume_reads H p w.1)
  resume_reads H (one Trap p) w = ap trapped (resume_reads H p w.1)
  resume_reads H (one (Signal s) p) w = resume_reads H p w.1
  resume_reads H (two Sequence p q) w = rw (resume_reads H p w.1, resume_reads H q w.2, start_reads q w.2)
  resume_reads H (two (Present s) p q) w = rw (resume_reads H p w.1, resume_reads H q w.2)
  resume_reads H (two Parallel p q) w = rw (resume_reads H p w.1, resume_reads H q w.2)

  pub react_reads : (S : State) (t : Stmt) → Scoped i n t → react E S t ≡ react E' S t
  unfolding react
  react_reads S t w = rw (start_reads t w, resume_reads (halts_of S) t w)

-- and so do two states that agree on the halts of t
module _ (H H' : Halts) where
  abbrev pub Alike : Stmt → Type 0
  Alike t = (h : HaltNo) → in_halts t h ≡ true → H h ≡ H' h

  alike_left : (p q : Stmt) → ((h : HaltNo) → (in_halts p h || in_halts q h) ≡ true → H h ≡ H' h) → Alike p
  alike_left p q f h e = f h (or_left (in_halts p h) (in_halts q h) e)

  alike_right : (p q : Stmt) → ((h : HaltNo) → (in_halts p h || in_halts q h) ≡ true → H h ≡ H' h) → Alike q
  alike_right p q f h e = f h (or_right (in_halts p h) (in_halts q h) e)

  pub active_asks : (t : Stmt) → Alike t → active H t ≡ active H' t
  unfolding active in_halts
  active_asks (leaf Nothing) f = refl
  active_asks (leaf (Halt k)) f = f k (eq-eqb (of_halt k) (of_halt k) refl)
  active_asks (leaf (Emit s)) f = refl
  active_asks (leaf (Exit k)) f = refl
  active_asks (one u p) f = active_asks p f
  active_asks (two b p q) f = rw (active_asks p (alike_left p q f), active_asks q (alike_right p q f))

  pub resume_asks : (E : Signals) (t : Stmt) → Alike t → resume E H t ≡ resume E H' t
  unfolding resume in_halts
  resume_asks E (leaf Nothing) f = refl
  resume_asks E (leaf (Halt k)) f = refl
  resume_asks E (leaf (Emit s)) f = refl
  resume_asks E (leaf (Exit k)) f = refl
  resume_asks E (one Loop p) f = rw (resume_asks E p f)
  resume_asks E (one (Watching s) p) f = rw (resume_asks E p f)
  resume_asks E (one Trap p) f = ap trapped (resume_asks E p f)
  resume_asks E (one (Signal s) p) f = resume_asks E p f
  resume_asks E (two Sequence p q) f =
      let l : Alike p = alike_left p q f in
      let r : Alike q = alike_right p q f in
      rw (active_asks p l, resume_asks E p l, resume_asks E q r)
  resume_asks E (two (Present s) p q) f =
      let l : Alike p = alike_left p q f in
      let r : Alike q = alike_right p q f in
      rw (active_asks p l, resume_asks E p l, resume_asks E q r)
  resume_asks E (two Parallel p q) f =
      let l : Alike p = alike_left p q f in
      let r : Alike q = alike_right p q f in
      rw (active_asks p l, active_asks q r, resume_asks E p l, resume_asks E q r)
