-- Two runs in one instant, of two statements or of one that is started again: where no local signal lives in both, neither emits what lives in the other.
use mathlib.Core.Path.{◌≡◌, refl, ◌∙◌}
use mathlib.Core.Bool.{Bool, true, false, not, ◌&&◌, ◌||◌, or-false}
use Prim.Native.Nat.{ℕ, zero, suc}
use Rattle.number.specs.declared.SignalNo.{SignalNo}
use Rattle.number.specs.Number.{pick}
use Rattle.number.proofs.Bools.{taut, or_left, or_right}
use Rattle.sheet.specs.Stmt.{Stmt}
use Rattle.sets.specs.Codes.{same}
use Rattle.rules.specs.Rules.{Signals, Halts, Outcome, idle, followed, beside, start, resume}
use Rattle.rules.proofs.Again.{swap}
use Rattle.agreement.proofs.Runs.{followed_emits}
use Rattle.berry.proofs.Scopes.{in_locals, Bound, undeclared}
use Rattle.berry.proofs.Lives.{start_lives, resume_lives, start_own, resume_own, start_seen, resume_seen}

-- A run with the outcome o, of a statement whose own signals are D, with X in scope: L live in it.
pub record Run (X D : Signals) (o : Outcome) (L : Signals) : Type 0 where
  pub new : (s : SignalNo) → (D s && X s) ≡ false
  pub own : (s : SignalNo) → (L s && not (D s)) ≡ false
  pub seen : (s : SignalNo) → (o.emits s && not (X s || L s)) ≡ false

module _ (X : Signals) (t : Stmt) (b : Bound X t) where
  pub start_run : (E : Signals) → Run X (in_locals t) (start E t) (start_lives E t)
  start_run E = record { new = undeclared X t b; own = start_own E t; seen = start_seen X E t b }

  pub resume_run : (E : Signals) (H : Halts) → Run X (in_locals t) (resume E H t) (resume_lives E H t)
  resume_run E H = record { new = undeclared X t b; own = resume_own E H t; seen = resume_seen X E H t b }

  pub idle_run : Run X (in_locals t) idle (λ s. false)
  idle_run = record { new = undeclared X t b; own = λ s. refl; seen = λ s. refl }

  -- a side of a parallel: resumed where it has halts, and else idle
  pub side_run : (E : Signals) (H : Halts) (z : Bool) → Run X (in_locals t) (pick z (resume E H t) idle) (λ s. pick z (resume_lives E H t s) false)
  unfolding pick
  side_run E H true = resume_run E H
  side_run E H false = idle_run

-- none lives in both
abbrev pub Separate : Signals → Signals → Type 0
Separate L M = (s : SignalNo) → (L s && M s) ≡ false

lives_apart : (l m d c : Bool) → (l && not d) ≡ false → (m && not c) ≡ false → (d && c) ≡ false → (l && m) ≡ false
lives_apart = taut 4 3 _ _ _ tt

-- each signal that lives is present just where the outcome emits it
abbrev pub Closed : Signals → Signals → Outcome → Type 0
Closed E L o = (s : SignalNo) → L s ≡ true → E s ≡ o.emits s

unseen : (l d b x m : Bool) → l ≡ true → (l && not d) ≡ false → (d && x) ≡ false → (b && not (x || m)) ≡ false → (l && m) ≡ false → b ≡ false
unseen = taut 5 5 _ _ _ tt

pub separate : {X Dp Dq L M : Signals} {a b : Outcome} → Run X Dp a L → Run X Dq b M → Separate Dp Dq → Separate L M
separate {Dp = Dp} {Dq = Dq} {L = L} {M = M} ra rb different s = lives_apart (L s) (M s) (Dp s) (Dq s) (ra.own s) (rb.own s) (different s)

module _ {X Dp Dq L M : Signals} {a b : Outcome} (ra : Run X Dp a L) (rb : Run X Dq b M) where
  off_second : Separate L M → (s : SignalNo) → L s ≡ true → b.emits s ≡ false
  off_second none s on = unseen (L s) (Dp s) (b.emits s) (X s) (M s) on (ra.own s) (ra.new s) (rb.seen s) (none s)

  off_first : Separate L M → (s : SignalNo) → M s ≡ true → a.emits s ≡ false
  off_first none s on = unseen (M s) (Dq s) (a.emits s) (X s) (L s) on (rb.own s) (rb.new s) (ra.seen s) (swap (L s) (M s) (none s))

  module _ (E : Signals) where
    -- the first run of two, of which the second takes place only after code 0
    pub followed_first : (a.code ≡ 0 → Separate L M) → Closed E (λ s. L s || (same a.code 0 && M s)) (followed a b) → Closed E L a
    followed_first none f s on = f s (or_left (L s) (same a.code 0 && M s) on) ∙ followed_emits a b s ∙ go a.code refl
      where
        go : (k : ℕ) → a.code ≡ k → (a.emits s || (same k 0 && b.emits s)) ≡ a.emits s
        go zero z = rw (off_second (none z) s on, or-false)
        go (suc k) z = or-false (a.emits s)

    pub followed_second : (a.code ≡ 0 → Separate L M) → a.code ≡ 0 → Closed E (λ s. L s || (same a.code 0 && M s)) (followed a b) → Closed E M b
    followed_second none z f s on =
        f s (or_right (L s) (same a.code 0 && M s) (rw z on)) ∙ followed_emits a b s ∙ rw (z, off_first (none z) s on)

    pub beside_first : Separate L M → Closed E (λ s. L s || M s) (beside a b) → Closed E L a
    beside_first none f s on = f s (or_left (L s) (M s) on) ∙ rw (off_second none s on, or-false)

    pub beside_second : Separate L M → Closed E (λ s. L s || M s) (beside a b) → Closed E M b
    beside_second none f s on = f s (or_right (L s) (M s) on) ∙ rw (off_first none s on)
