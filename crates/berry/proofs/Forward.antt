-- The outcome of the paper's rules under a set in which each local signal that lives is present just where it is emitted is a step of 004's rules.
use mathlib.Core.Path.{◌≡◌, refl, sym, ◌∙◌, subst, fun_ext}
use mathlib.Core.Bool.{Bool, true, false, not, ◌&&◌, ◌||◌, false≢true, or-true, and-true, or-false, and-false}
use mathlib.Core.Logic.{◌⊎◌, inl, inr}
use Prim.Native.Nat.{ℕ, zero, suc, ◌+◌, ◌-◌, ◌<◌}
use native.Mathlib.Omega.{arith}
use Rattle.number.specs.declared.SignalNo.{SignalNo}
use Rattle.number.specs.Counts.{halt_no}
use Rattle.number.specs.Number.{pick}
use Rattle.number.proofs.Bools.{taut, or_left, or_right, off}
use Rattle.sheet.specs.declared.Leaf.TheVariants.{Nothing, Halt, Emit, Exit}
use Rattle.sheet.specs.declared.Unary.TheVariants.{Loop, Watching, Trap, Signal}
use Rattle.sheet.specs.declared.Binary.TheVariants.{Sequence, Present, Parallel}
use Rattle.sheet.specs.Stmt.{Stmt, leaf, one, two}
use Rattle.sheet.specs.Read.{only}
use Rattle.sheet.proofs.Notions.{Exits}
use Rattle.sets.specs.Codes.{same, empty, join, caught}
use Rattle.sets.specs.Static.{K}
use Rattle.rules.specs.Rules.{Signals, Halts, Outcome, idle, then_on, followed, beside, trapped, start, active, resume}
use Rattle.rules.specs.States.{apart}
use Rattle.rules.proofs.Codes.{NoInstant, start_in_k, sequence_left, sequence_right, parallel_left, parallel_right}
use Rattle.rules.proofs.Halting.{HaltsWithOne, start_halting, resume_halting}
use Rattle.rules.proofs.Again.{only_right}
use Rattle.berry.specs.Behaviour.{Step, nothing_rule, halt_rule, emit_rule, sequence_on, sequence_stays, loop_rule, present_then, present_else_rule}
use Rattle.berry.specs.Behaviour.{watching_rule, parallel_rule, trap_ends, trap_stays, exit_rule, signal_present, signal_absent, without, present_else}
use Rattle.berry.specs.Behaviour.{unless_ended}
use Rattle.berry.specs.Haltsets.{recovering}
use Rattle.berry.proofs.Scopes.{Bound, only_self, only_in, only_out, same_signal}
use Rattle.agreement.proofs.Restarts.{NoRestart}
use Rattle.berry.proofs.Lives.{start_lives, resume_lives, lives_once}
use Rattle.berry.proofs.Runs.{Separate, Closed, separate, start_run, resume_run, side_run, followed_first, followed_second, beside_first, beside_second}

-- what of the emissions A is seen where X is in scope
abbrev pub seen : Signals → Signals → Signals
seen X A s = A s && X s

-- under D the statement x makes a step with the outcome o, of whose emissions those in X are seen
pub record Gives (X D : Signals) (x : Stmt) (o : Outcome) : Type 0 where
  pub becomes : Stmt
  pub step : Step D x (seen X o.emits) o.code o.halts becomes

no_halts : (a : Outcome) → HaltsWithOne a → (a.code ≡ 1 → ⊥) → a.halts ≡ empty
no_halts a quiet other = fun_ext (λ h. off (a.halts h) (λ e. other (quiet.with_one h e)))

positive : (k : ℕ) → (k ≡ 0 → ⊥) → 0 < k
positive zero f = absurd (f refl)
positive (suc k) f = omega arith

seen_both : (a b x : Bool) → ((a && x) || (b && x)) ≡ ((a || b) && x)
seen_both = taut 3 0 _ _ _ tt

seen_in : (m x : Bool) → (m && not x) ≡ false → m ≡ (m && x)
seen_in = taut 2 1 _ _ _ tt

module _ (X D : Signals) where
  seen_join : (a b : Outcome) → join (seen X a.emits) (seen X b.emits) ≡ seen X (join a.emits b.emits)
  seen_join a b = fun_ext (λ s. seen_both (a.emits s) (b.emits s) (X s))

  pub sequence_gives : (x q : Stmt) (a b : Outcome) → HaltsWithOne a → Gives X D x a → (a.code ≡ 0 → Gives X D q b)
      → Gives X D (two Sequence x q) (followed a b)
  sequence_gives x q a b quiet ga gb = go a.code refl
    where
      go : (k : ℕ) → a.code ≡ k → Gives X D (two Sequence x q) (then_on k a b)
      go zero e =
          let ended : Step D x (seen X a.emits) 0 empty ga.becomes = rw (e, no_halts a quiet (λ i. omega (arith, e))) at ga.step in
          record { becomes = (gb e).becomes; step = rw (← seen_join a b) (sequence_on ended (gb e).step) }
      go (suc k) e = record { becomes = two Sequence ga.becomes q; step = sequence_stays ga.step (omega (arith, e)) }

  loop_gives : (p : Stmt) (a : Outcome) → (a.code ≡ 0 → ⊥) → Gives X D p a → Gives X D (one Loop p) a
  loop_gives p a runs ga = record { becomes = two Sequence ga.becomes (one Loop p); step = loop_rule ga.step (positive a.code runs) }

  parallel_gives : (x y : Stmt) (a b : Outcome) → Gives X D x a → Gives X D y b → Gives X D (two Parallel x y) (beside a b)
  parallel_gives x y a b ga gb =
      record {
        becomes = two Parallel (unless_ended a.code ga.becomes) (unless_ended b.code gb.becomes);
        step = rw (← seen_join a b) (parallel_rule ga.step gb.step);
      }

  trap_gives : (x : Stmt) (a : Outcome) → HaltsWithOne a → Gives X D x a → Gives X D (one Trap x) (trapped a)
  trap_gives x a quiet ga = go a.code refl
    where
      ends : (a.code ≡ 0) ⊎ (a.code ≡ 2) → (a.code ≡ 1 → ⊥) → Step D (one Trap x) (seen X a.emits) 0 a.halts (leaf Nothing)
      ends c other = let none : a.halts ≡ empty = no_halts a quiet other in rw none (trap_ends (rw none at ga.step) c)

      go : (k : ℕ) → a.code ≡ k → Gives X D (one Trap x) (record { emits = a.emits; code = caught k; halts = a.halts })
      go zero e = record { becomes = leaf Nothing; step = ends (inl e) (λ i. omega (arith, e)) }
      go (suc zero) e = record { becomes = one Trap ga.becomes; step = trap_stays ga.step (inl (e, refl)) }
      go (suc (suc zero)) e = record { becomes = leaf Nothing; step = ends (inr e) (λ i. omega (arith, e)) }
      go (suc (suc (suc k))) e =
          let falls : suc (suc k) ≡ a.code - 1 = omega (arith, e) in
          record { becomes = one Trap ga.becomes; step = trap_stays ga.step (inr (omega (arith, e), falls)) }

  pub nothing_gives : Gives X D (leaf Nothing) idle
  nothing_gives = record { becomes = leaf Nothing; step = nothing_rule }

  emit_gives : (s : SignalNo) → X s ≡ true → Gives X D (leaf (Emit s)) (record { emits = only s; code = 0; halts = empty })
  emit_gives s on =
      let all : only s ≡ seen X (only s) = fun_ext (λ x. seen_in (only s x) (X x) (only_in X s x on)) in
      record { becomes = leaf Nothing; step = subst (λ (A : Signals). Step D (leaf (Emit s)) A 0 empty (leaf Nothing)) all emit_rule }

  watching_gives : (s : SignalNo) (x : Stmt) (a : Outcome) → Gives X D x a → Gives X D (one (Watching s) x) a
  watching_gives s x a ga = record { becomes = present_else s (one (Watching s) ga.becomes); step = watching_rule ga.step }

  present_gives : (s : SignalNo) (x y : Stmt) (z : Bool) (a b : Outcome) → D s ≡ z → (z ≡ true → Gives X D x a) → (z ≡ false → Gives X D y b)
      → Gives X D (two (Present s) x y) (pick z a b)
  unfolding pick
  present_gives s x y true a b e f g = record { becomes = (f refl).becomes; step = present_then e (f refl).step }
  present_gives s x y false a b e f g = record { becomes = (g refl).becomes; step = present_else_rule e (g refl).step }

-- D and E have the same signals of X
abbrev pub Agree : Signals → Signals → Signals → Type 0
Agree X D E = (s : SignalNo) → X s ≡ true → D s ≡ E s

-- a local signal comes into scope
module _ (X D E : Signals) (x : SignalNo) (agree : Agree X D E) where
  pub agree_present : E x ≡ true → Agree (join X (only x)) (join D (only x)) E
  agree_present on s u = go (only x s) refl u
    where
      go : (b : Bool) → only x s ≡ b → (X s || b) ≡ true → (D s || b) ≡ E s
      go true m u = or-true (D s) ∙ sym (subst (λ (y : SignalNo). E y ≡ true) (sym (same_signal x s m)) on)
      go false m u = or-false (D s) ∙ agree s (rw or-false at u)

  pub agree_absent : E x ≡ false → Agree (join X (only x)) (without D x) E
  agree_absent off s u = go (only x s) refl u
    where
      go : (b : Bool) → only x s ≡ b → (X s || b) ≡ true → (D s && not b) ≡ E s
      go true m u = and-false (D s) ∙ sym (subst (λ (y : SignalNo). E y ≡ false) (sym (same_signal x s m)) off)
      go false m u = and-true (D s) ∙ agree s (rw or-false at u)

present_seen : (a x m : Bool) → (m && not a) ≡ false → (a && (x || m)) ≡ ((a && x) || m)
present_seen = taut 3 1 _ _ _ tt

absent_seen : (a x m : Bool) → (m && a) ≡ false → (a && (x || m)) ≡ (a && x)
absent_seen = taut 3 1 _ _ _ tt

signal_gives : (X D E : Signals) (x : SignalNo) (y : Stmt) (a : Outcome) → X x ≡ false → E x ≡ a.emits x → Agree X D E
    → ((D' : Signals) → Agree (join X (only x)) D' E → Gives (join X (only x)) D' y a) → Gives X D (one (Signal x) y) a
signal_gives X D E x y a new closed agree f = go (E x) refl
  where
    off : seen X a.emits x ≡ false
    off = rw new (and-false (a.emits x))

    go : (b : Bool) → E x ≡ b → Gives X D (one (Signal x) y) a
    go true on =
        let g = f (join D (only x)) (agree_present X D E x agree on) in
        let split : seen (join X (only x)) a.emits ≡ join (seen X a.emits) (only x) =
        fun_ext (λ s. present_seen (a.emits s) (X s) (only x s) (only_in a.emits x s (sym closed ∙ on))) in
        record { becomes = one (Signal x) g.becomes; step = signal_present (rw split at g.step) off }
    go false not_on =
        let g = f (without D x) (agree_absent X D E x agree not_on) in
        let split : seen (join X (only x)) a.emits ≡ seen X a.emits =
        fun_ext (λ s. absent_seen (a.emits s) (X s) (only x s) (only_out a.emits x s (sym closed ∙ not_on))) in
        record { becomes = one (Signal x) g.becomes; step = signal_absent (rw split at g.step) off }

-- a loop's body does not end at once
runs_on : (E : Signals) (p : Stmt) → NoInstant p → K p 0 ≡ false → (start E p).code ≡ 0 → ⊥
runs_on E p w none e = false≢true (sym none ∙ subst (λ (c : ℕ). K p c ≡ true) e (start_in_k E p w))

pub start_gives : (d : ℕ) (X D E : Signals) (t : Stmt) → Exits d t → NoInstant t → Bound X t → Agree X D E → Closed E (start_lives E t) (start E t)
    → Gives X D t (start E t)
unfolding start start_lives Exits NoInstant Bound pick
start_gives d X D E (leaf Nothing) x w b g c = nothing_gives X D
start_gives d X D E (leaf (Halt h)) x w b g c = record { becomes = leaf (Halt h); step = halt_rule }
start_gives d X D E (leaf (Emit s)) x w b g c = emit_gives X D s b
start_gives d X D E (leaf (Exit k)) x w b g c = record { becomes = leaf (Halt (halt_no 0)); step = exit_rule }
start_gives d X D E (one Loop p) x w b g c =
    loop_gives X D p (start E p) (runs_on E p w.1 w.0) (start_gives d X D E p x.1 w.1 b.1 g c)
start_gives d X D E (one (Watching s) p) x w b g c = watching_gives X D s p (start E p) (start_gives d X D E p x.1 w b.1 g c)
start_gives d X D E (one Trap p) x w b g c =
    trap_gives X D p (start E p) (start_halting (d + 1) E p x.1) (start_gives (d + 1) X D E p x.1 w b.1 g c)
start_gives d X D E (one (Signal s) p) x w b g c =
    signal_gives X D E s p (start E p) b.0 (c s (or_left (only s s) (start_lives E p s) (only_self s))) g
    (λ D' g'. start_gives d (join X (only s)) D' E p x.1 w b.1 g' (λ y e. c y (or_right (only s y) (start_lives E p y) e)))
start_gives d X D E (two Sequence p q) x w b g c =
    let rp = start_run X p b.1 E in
    let rq = start_run X q b.2 E in
    let none : (start E p).code ≡ 0 → Separate (start_lives E p) (start_lives E q) = λ z. separate rp rq b.3 in
    sequence_gives X D p q (start E p) (start E q) (start_halting d E p x.0)
    (start_gives d X D E p x.0 w.0 b.1 g (followed_first rp rq E none c))
    (λ z. start_gives d X D E q x.1 w.1 b.2 g (followed_second rp rq E none z c))
start_gives d X D E (two (Present s) p q) x w b g c =
    present_gives X D s p q (E s) (start E p) (start E q) (g s b.0)
    (λ z. start_gives d X D E p x.0 w.0 b.1 g (rw z at c)) (λ z. start_gives d X D E q x.1 w.1 b.2 g (rw z at c))
start_gives d X D E (two Parallel p q) x w b g c =
    let rp = start_run X p b.1 E in
    let rq = start_run X q b.2 E in
    let none : Separate (start_lives E p) (start_lives E q) = separate rp rq b.3 in
    parallel_gives X D p q (start E p) (start E q)
    (start_gives d X D E p x.0 w.0 b.1 g (beside_first rp rq E none c))
    (start_gives d X D E q x.1 w.1 b.2 g (beside_second rp rq E none c))

module _ (X D E : Signals) (H : Halts) where
  -- what is known of a part that is resumed
  abbrev Resumes : Stmt → Type 0
  Resumes p = active H p ≡ true → Closed E (resume_lives E H p) (resume E H p) → Gives X D (recovering H p) (resume E H p)

  side_gives : (p : Stmt) → Resumes p → (z : Bool) → active H p ≡ z → Closed E (λ s. pick z (resume_lives E H p s) false) (pick z (resume E H p) idle)
      → Gives X D (pick z (recovering H p) (leaf Nothing)) (pick z (resume E H p) idle)
  unfolding pick
  side_gives p f true e c = f e c
  side_gives p f false e c = nothing_gives X D

  sequence_resumes : (p q : Stmt) → Bound X (two Sequence p q) → HaltsWithOne (resume E H p) → (active H p || active H q) ≡ true → Resumes p → Resumes q
      → (Closed E (start_lives E q) (start E q) → Gives X D q (start E q)) → (z : Bool) → active H p ≡ z
      → Closed E (λ s. pick z (resume_lives E H p s || (same (resume E H p).code 0 && start_lives E q s)) (resume_lives E H q s))
      (pick z (followed (resume E H p) (start E q)) (resume E H q))
      → Gives X D (pick z (two Sequence (recovering H p) q) (recovering H q)) (pick z (followed (resume E H p) (start E q)) (resume E H q))
  unfolding Bound pick
  sequence_resumes p q b quiet h ip iq sq true e c =
      let rp = resume_run X p b.1 E H in
      let rq = start_run X q b.2 E in
      let none : (resume E H p).code ≡ 0 → Separate (resume_lives E H p) (start_lives E q) = λ z. separate rp rq b.3 in
      sequence_gives X D (recovering H p) q (resume E H p) (start E q) quiet (ip e (followed_first rp rq E none c))
      (λ z. sq (followed_second rp rq E none z c))
  sequence_resumes p q b quiet h ip iq sq false e c = iq (only_right (active H p) (active H q) h e) c

  present_resumes : (p q : Stmt) → (active H p || active H q) ≡ true → Resumes p → Resumes q → (z : Bool) → active H p ≡ z
      → Closed E (λ s. pick z (resume_lives E H p s) (resume_lives E H q s)) (pick z (resume E H p) (resume E H q))
      → Gives X D (pick z (recovering H p) (recovering H q)) (pick z (resume E H p) (resume E H q))
  unfolding pick
  present_resumes p q h ip iq true e c = ip e c
  present_resumes p q h ip iq false e c = iq (only_right (active H p) (active H q) h e) c

pub resume_gives : (d : ℕ) (X D E : Signals) (H : Halts) (t : Stmt) → Exits d t → NoInstant t → NoRestart t → apart H t ≡ true → Bound X t → Agree X D E
    → active H t ≡ true → Closed E (resume_lives E H t) (resume E H t) → Gives X D (recovering H t) (resume E H t)
unfolding start resume resume_lives active recovering Exits NoInstant NoRestart apart Bound pick
resume_gives d X D E H (leaf Nothing) x w n f b g h c = absurd (false≢true h)
resume_gives d X D E H (leaf (Halt k)) x w n f b g h c = record { becomes = leaf (Halt k); step = halt_rule }
resume_gives d X D E H (leaf (Emit s)) x w n f b g h c = absurd (false≢true h)
resume_gives d X D E H (leaf (Exit k)) x w n f b g h c = absurd (false≢true h)
resume_gives d X D E H (one Loop p) x w n f b g h c =
    let rp = resume_run X p b.1 E H in
    let rq = start_run X p b.1 E in
    let none : (resume E H p).code ≡ 0 → Separate (resume_lives E H p) (start_lives E p) = lives_once X E E H p w n f b.1 h in
    sequence_gives X D (recovering H p) (one Loop p) (resume E H p) (start E p) (resume_halting d E H p x.1)
    (resume_gives d X D E H p x.1 w.1 n.1 f b.1 g h (followed_first rp rq E none c))
    (λ z. loop_gives X D p (start E p) (runs_on E p w.1 w.0) (start_gives d X D E p x.1 w.1 b.1 g (followed_second rp rq E none z c)))
resume_gives d X D E H (one (Watching s) p) x w n f b g h c =
    present_gives X D s (leaf Nothing) (one (Watching s) (recovering H p)) (E s) idle (resume E H p) (g s b.0) (λ z. nothing_gives X D)
    (λ z. watching_gives X D s (recovering H p) (resume E H p) (resume_gives d X D E H p x.1 w n f b.1 g h (rw z at c)))
resume_gives d X D E H (one Trap p) x w n f b g h c =
    trap_gives X D (recovering H p) (resume E H p) (resume_halting (d + 1) E H p x.1) (resume_gives (d + 1) X D E H p x.1 w n f b.1 g h c)
resume_gives d X D E H (one (Signal s) p) x w n f b g h c =
    signal_gives X D E s (recovering H p) (resume E H p) b.0 (c s (or_left (only s s) (resume_lives E H p s) (only_self s))) g
    (λ D' g'. resume_gives d (join X (only s)) D' E H p x.1 w n f b.1 g' h (λ y e. c y (or_right (only s y) (resume_lives E H p y) e)))
resume_gives d X D E H (two Sequence p q) x w n f b g h c =
    sequence_resumes X D E H p q b (resume_halting d E H p x.0) h
    (resume_gives d X D E H p x.0 w.0 n.0 (sequence_left H p q f) b.1 g)
    (resume_gives d X D E H q x.1 w.1 n.1 (sequence_right H p q f) b.2 g)
    (start_gives d X D E q x.1 w.1 b.2 g) (active H p) refl c
resume_gives d X D E H (two (Present s) p q) x w n f b g h c =
    present_resumes X D E H p q h
    (resume_gives d X D E H p x.0 w.0 n.0 (sequence_left H p q f) b.1 g)
    (resume_gives d X D E H q x.1 w.1 n.1 (sequence_right H p q f) b.2 g) (active H p) refl c
resume_gives d X D E H (two Parallel p q) x w n f b g h c =
    let rp = side_run X p b.1 E H (active H p) in
    let rq = side_run X q b.2 E H (active H q) in
    let none = separate rp rq b.3 in
    parallel_gives X D (pick (active H p) (recovering H p) (leaf Nothing)) (pick (active H q) (recovering H q) (leaf Nothing))
    (pick (active H p) (resume E H p) idle) (pick (active H q) (resume E H q) idle)
    (side_gives X D E H p (resume_gives d X D E H p x.0 w.0 n.0 (parallel_left H p q f) b.1 g) (active H p) refl (beside_first rp rq E none c))
    (side_gives X D E H q (resume_gives d X D E H q x.1 w.1 n.1 (parallel_right H p q f) b.2 g) (active H q) refl (beside_second rp rq E none c))
