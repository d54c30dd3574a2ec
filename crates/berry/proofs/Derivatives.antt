-- 004, section 4.2, "the main result: the coding extends from immediate derivatives to general ones": a step with level 1 of the statement that is recovered
-- from a haltset goes to the one that is recovered from the new haltset. It asks that halts are numbered apart and that no exit's level is 1, and nothing more.
use mathlib.Core.Path.{◌≡◌, refl, sym, ap, ◌∙◌}
use mathlib.Core.Bool.{Bool, true, false, not, ◌&&◌, ◌||◌, false≢true, or-false}
use mathlib.Core.Logic.{◌⊎◌, inl, inr}
use Prim.Native.Nat.{ℕ, zero, suc, ◌+◌, ◌-◌, ◌<◌}
use native.Mathlib.Omega.{arith}
use borrow.Author.Tests.{eq-eqb}
use Rattle.number.specs.declared.SignalNo.{SignalNo}
use Rattle.number.specs.declared.HaltNo.{HaltNo}
use Rattle.number.specs.Counts.{of_halt, halt_no}
use Rattle.number.specs.Number.{pick}
use Rattle.number.proofs.Bools.{or_left, or_right}
use Rattle.sheet.specs.Form.{halts_on}
use Rattle.sheet.specs.declared.Leaf.TheVariants.{Nothing, Halt, Emit, Exit}
use Rattle.sheet.specs.declared.Unary.{Unary}
use Rattle.sheet.specs.declared.Unary.TheVariants.{Loop, Watching, Trap, Signal}
use Rattle.sheet.specs.declared.Binary.TheVariants.{Sequence, Present, Parallel}
use Rattle.sheet.specs.Stmt.{Stmt, leaf, one, two, halt_count}
use Rattle.sheet.proofs.Notions.{Numbered, Exits, in_halts}
use Rattle.sets.specs.Codes.{empty, join, larger}
use Rattle.rules.specs.Rules.{Signals, Halts, only_halt, kept, active}
use Rattle.rules.proofs.Again.{On, on_left, on_right, none, Disjoint, sides_disjoint, off_side, swap, own_left, own_right, own_both, drop_left, drop_right}
use Rattle.rules.proofs.Again.{only_right}
use Rattle.berry.specs.Behaviour.{Step, nothing_rule, halt_rule, emit_rule, sequence_on, sequence_stays, loop_rule, present_then, present_else_rule}
use Rattle.berry.specs.Behaviour.{watching_rule, parallel_rule, trap_ends, trap_stays, exit_rule, signal_present, signal_absent, present_else, unless_ended}
use Rattle.berry.specs.Haltsets.{recovering, recovered}
use Rattle.berry.proofs.Tests.{all_in}

-- What a step of t, or of a derivative of t, to x with the level k and the haltset H leaves: only halts of t, which are in x too, and none but with level 1;
-- with level 1 a halt of t, and x is what is recovered from any haltset that has the same halts of t.
pub record Left (t : Stmt) (k : ℕ) (H : Halts) (x : Stmt) : Type 0 where
  pub own : (h : HaltNo) → (H h && not (in_halts t h)) ≡ false
  pub occurs : (h : HaltNo) → (H h && not (in_halts x h)) ≡ false
  pub quiet : (k ≡ 1 → ⊥) → (h : HaltNo) → H h ≡ false
  pub recovers : k ≡ 1 → (G : Halts) → On t G H → (active G t ≡ true) × (x ≡ recovering G t)

none_left : (t : Stmt) (k : ℕ) (x : Stmt) → (k ≡ 1 → ⊥) → Left t k empty x
none_left t k x other = record { own = λ h. refl; occurs = λ h. refl; quiet = λ e h. refl; recovers = λ e G f. absurd (other e) }

-- a statement with one part, whose part becomes x
abbrev around : Unary → Stmt → Stmt → Stmt
around Loop p x = two Sequence x (one Loop p)
around (Watching s) p x = present_else s (one (Watching s) x)
around Trap p x = one Trap x
around (Signal s) p x = one (Signal s) x

recovering_one : (G : Halts) (u : Unary) (p : Stmt) → recovering G (one u p) ≡ around u p (recovering G p)
unfolding recovering
recovering_one G Loop p = refl
recovering_one G (Watching s) p = refl
recovering_one G Trap p = refl
recovering_one G (Signal s) p = refl

around_has : (u : Unary) (p x : Stmt) (h : HaltNo) (a : Bool) → (a && not (in_halts x h)) ≡ false → (a && not (in_halts (around u p x) h)) ≡ false
unfolding in_halts
around_has Loop p x h a e = own_left a (in_halts x h) (in_halts p h) e
around_has (Watching s) p x h a e = e
around_has Trap p x h a e = e
around_has (Signal s) p x h a e = e

one_left : (u : Unary) (p : Stmt) (k k' : ℕ) (H : Halts) (x : Stmt) → (k ≡ 1 → k' ≡ 1) → (k' ≡ 1 → k ≡ 1) → Left p k H x
    → Left (one u p) k' H (around u p x)
unfolding active in_halts
one_left u p k k' H x there back g =
    record {
      own = g.own;
      occurs = λ h. around_has u p x h (H h) (g.occurs h);
      quiet = λ other. g.quiet (λ e. other (there e));
      recovers = λ e G f. let r = g.recovers (back e) G f in (r.0, ap (around u p) r.1 ∙ sym (recovering_one G u p));
    }

-- one side of a sequence or present has run; the other has no halt of it
module _ (p q : Stmt) (disjoint : Disjoint p q) (k : ℕ) (H : Halts) (x : Stmt) where
  left_off : Left q k H x → (G : Halts) → On p G H → active G p ≡ false
  left_off g G f = none G p (λ h e. f h e ∙ off_side (H h) (in_halts q h) (in_halts p h) (g.own h) (swap (in_halts p h) (in_halts q h) (disjoint h)) e)

  sequence_left : Left p k H x → Left (two Sequence p q) k H (two Sequence x q)
  unfolding in_halts active recovering pick
  sequence_left g =
      record {
        own = λ h. own_left (H h) (in_halts p h) (in_halts q h) (g.own h);
        occurs = λ h. own_left (H h) (in_halts x h) (in_halts q h) (g.occurs h);
        quiet = g.quiet;
        recovers = λ e G f. let r = g.recovers e G (on_left Sequence p q G H f) in (or_left (active G p) (active G q) r.0, rw (r.0, r.1));
      }

  sequence_right : Left q k H x → Left (two Sequence p q) k H x
  unfolding in_halts active recovering pick
  sequence_right g =
      record {
        own = λ h. own_right (H h) (in_halts p h) (in_halts q h) (g.own h);
        occurs = g.occurs;
        quiet = g.quiet;
        recovers =
            λ e G f. let r = g.recovers e G (on_right Sequence p q G H f) in
            (or_right (active G p) (active G q) r.0, rw (left_off g G (on_left Sequence p q G H f), r.1));
      }

  present_left : (s : SignalNo) → Left p k H x → Left (two (Present s) p q) k H x
  unfolding in_halts active recovering pick
  present_left s g =
      record {
        own = λ h. own_left (H h) (in_halts p h) (in_halts q h) (g.own h);
        occurs = g.occurs;
        quiet = g.quiet;
        recovers = λ e G f. let r = g.recovers e G (on_left Sequence p q G H f) in (or_left (active G p) (active G q) r.0, rw (r.0, r.1));
      }

  present_right : (s : SignalNo) → Left q k H x → Left (two (Present s) p q) k H x
  unfolding in_halts active recovering pick
  present_right s g =
      record {
        own = λ h. own_right (H h) (in_halts p h) (in_halts q h) (g.own h);
        occurs = g.occurs;
        quiet = g.quiet;
        recovers =
            λ e G f. let r = g.recovers e G (on_right Sequence p q G H f) in
            (or_right (active G p) (active G q) r.0, rw (left_off g G (on_left Sequence p q G H f), r.1));
      }

-- both sides of a parallel have run
module _ (p q : Stmt) (disjoint : Disjoint p q) (H₁ H₂ : Halts) (x y : Stmt) where
  abbrev Both : Halts → Type 0
  Both G = On (two Parallel p q) G (join H₁ H₂)

  joined_own : {k l : ℕ} → Left p k H₁ x → Left q l H₂ y → (h : HaltNo) → (join H₁ H₂ h && not (in_halts (two Parallel p q) h)) ≡ false
  unfolding in_halts
  joined_own a b h = own_both (H₁ h) (H₂ h) (in_halts p h) (in_halts q h) (a.own h) (b.own h)

  on_first : {l : ℕ} → Left q l H₂ y → (G : Halts) → Both G → On p G H₁
  on_first b G f h e =
      on_left Parallel p q G (join H₁ H₂) f h e
      ∙ drop_right (H₁ h) (H₂ h) (off_side (H₂ h) (in_halts q h) (in_halts p h) (b.own h) (swap (in_halts p h) (in_halts q h) (disjoint h)) e)

  on_second : {k : ℕ} → Left p k H₁ x → (G : Halts) → Both G → On q G H₂
  on_second a G f h e =
      on_right Parallel p q G (join H₁ H₂) f h e ∙ drop_left (H₁ h) (H₂ h) (off_side (H₁ h) (in_halts p h) (in_halts q h) (a.own h) (disjoint h) e)

  none_first : {k l : ℕ} → (k ≡ 1 → ⊥) → Left p k H₁ x → Left q l H₂ y → (G : Halts) → Both G → active G p ≡ false
  none_first other a b G f = none G p (λ h e. on_first b G f h e ∙ a.quiet other h)

  none_second : {k l : ℕ} → (l ≡ 1 → ⊥) → Left p k H₁ x → Left q l H₂ y → (G : Halts) → Both G → active G q ≡ false
  none_second other a b G f = none G q (λ h e. on_second a G f h e ∙ b.quiet other h)

  parallel_left : (k l : ℕ) → Left p k H₁ x → Left q l H₂ y
      → Left (two Parallel p q) (larger k l) (kept (larger k l) (join H₁ H₂)) (two Parallel (unless_ended k x) (unless_ended l y))
  unfolding active recovering pick in_halts
  parallel_left zero zero a b =
      record {
        own = joined_own a b;
        occurs = λ h. rw (a.quiet (λ e. omega arith) h, b.quiet (λ e. omega arith) h);
        quiet = λ other h. rw (a.quiet other h, b.quiet other h);
        recovers = λ e G f. absurd (omega arith);
      }
  parallel_left zero (suc zero) a b =
      record {
        own = joined_own a b;
        occurs = λ h. rw (a.quiet (λ e. omega arith) h) (b.occurs h);
        quiet = λ other h. absurd (other refl);
        recovers =
            λ e G f. let r = b.recovers refl G (on_second a G f) in
            (or_right (active G p) (active G q) r.0, rw (none_first (λ e. omega arith) a b G f, r.0, r.1));
      }
  parallel_left (suc zero) zero a b =
      record {
        own = joined_own a b;
        occurs = λ h. rw (b.quiet (λ e. omega arith) h, or-false (H₁ h), or-false (in_halts x h)) (a.occurs h);
        quiet = λ other h. absurd (other refl);
        recovers =
            λ e G f. let r = a.recovers refl G (on_first b G f) in
            (or_left (active G p) (active G q) r.0, rw (none_second (λ e. omega arith) a b G f, r.0, r.1));
      }
  parallel_left (suc zero) (suc zero) a b =
      record {
        own = joined_own a b;
        occurs = λ h. own_both (H₁ h) (H₂ h) (in_halts x h) (in_halts y h) (a.occurs h) (b.occurs h);
        quiet = λ other h. absurd (other refl);
        recovers =
            λ e G f. let r = a.recovers refl G (on_first b G f) in
            let u = b.recovers refl G (on_second a G f) in
            (or_left (active G p) (active G q) r.0, rw (r.0, u.0, r.1, u.1));
      }
  parallel_left zero (suc (suc l)) a b = none_left (two Parallel p q) (suc (suc l)) _ (λ e. omega arith)
  parallel_left (suc zero) (suc (suc l)) a b = none_left (two Parallel p q) (suc (suc l)) _ (λ e. omega arith)
  parallel_left (suc (suc k)) zero a b = none_left (two Parallel p q) (suc (suc k)) _ (λ e. omega arith)
  parallel_left (suc (suc k)) (suc zero) a b = none_left (two Parallel p q) (suc (suc k)) _ (λ e. omega arith)
  parallel_left (suc (suc k)) (suc (suc l)) a b = none_left (two Parallel p q) (suc (suc (larger k l))) _ (λ e. omega arith)

-- x is t or a derivative of t: what any step of x leaves, it leaves of t
pub record Lefts (x t : Stmt) : Type 0 where
  pub left : {E A : Signals} {H : Halts} {k : ℕ} {x' : Stmt} → Step E x A k H x' → Left t k H x'

pub nothing_lefts : (t : Stmt) → Lefts (leaf Nothing) t
nothing_lefts t = record { left = go }
  where
    go : {E A : Signals} {H : Halts} {k : ℕ} {x : Stmt} → Step E (leaf Nothing) A k H x → Left t k H x
    go nothing_rule = none_left t 0 (leaf Nothing) (λ e. omega arith)

halt_lefts : (h : HaltNo) → Lefts (leaf (Halt h)) (leaf (Halt h))
unfolding in_halts active recovering
halt_lefts h = record { left = go }
  where
    self : only_halt h h ≡ true
    self = eq-eqb (of_halt h) (of_halt h) refl

    go : {E A : Signals} {H : Halts} {k : ℕ} {x : Stmt} → Step E (leaf (Halt h)) A k H x → Left (leaf (Halt h)) k H x
    go halt_rule =
        record {
          own = λ j. all_in (only_halt h j);
          occurs = λ j. all_in (only_halt h j);
          quiet = λ other j. absurd (other refl);
          recovers = λ e G f. (f h self ∙ self, refl);
        }

emit_lefts : (s : SignalNo) → Lefts (leaf (Emit s)) (leaf (Emit s))
emit_lefts s = record { left = go }
  where
    go : {E A : Signals} {H : Halts} {k : ℕ} {x : Stmt} → Step E (leaf (Emit s)) A k H x → Left (leaf (Emit s)) k H x
    go emit_rule = none_left (leaf (Emit s)) 0 (leaf Nothing) (λ e. omega arith)

exit_lefts : (j : ℕ) → 1 < j → Lefts (leaf (Exit j)) (leaf (Exit j))
exit_lefts j high = record { left = go }
  where
    go : {E A : Signals} {H : Halts} {k : ℕ} {x : Stmt} → Step E (leaf (Exit j)) A k H x → Left (leaf (Exit j)) k H x
    go exit_rule = none_left (leaf (Exit j)) j (leaf (Halt (halt_no 0))) (λ e. omega arith)

sequence_lefts : (x p q : Stmt) → Disjoint p q → Lefts x p → Lefts q q → Lefts (two Sequence x q) (two Sequence p q)
sequence_lefts x p q disjoint fx fq = record { left = go }
  where
    go : {E A : Signals} {H : Halts} {k : ℕ} {y : Stmt} → Step E (two Sequence x q) A k H y → Left (two Sequence p q) k H y
    go (sequence_on d e) = sequence_right p q disjoint _ _ _ (fq.left e)
    go (sequence_stays d _) = sequence_left p q disjoint _ _ _ (fx.left d)

loop_lefts : (p : Stmt) → Lefts p p → Lefts (one Loop p) (one Loop p)
loop_lefts p fp = record { left = go }
  where
    go : {E A : Signals} {H : Halts} {k : ℕ} {y : Stmt} → Step E (one Loop p) A k H y → Left (one Loop p) k H y
    go (loop_rule d _) = one_left Loop p _ _ _ _ (λ e. e) (λ e. e) (fp.left d)

-- a loop that has begun: "R(loop stat end) = R(stat); loop stat end"
again_lefts : (x p : Stmt) → Lefts x p → Lefts p p → Lefts (two Sequence x (one Loop p)) (one Loop p)
again_lefts x p fx fp = record { left = go }
  where
    go : {E A : Signals} {H : Halts} {k : ℕ} {y : Stmt} → Step E (two Sequence x (one Loop p)) A k H y → Left (one Loop p) k H y
    go (sequence_on d e) = (loop_lefts p fp).left e
    go (sequence_stays d _) = one_left Loop p _ _ _ _ (λ e. e) (λ e. e) (fx.left d)

present_lefts : (s : SignalNo) (p q : Stmt) → Disjoint p q → Lefts p p → Lefts q q → Lefts (two (Present s) p q) (two (Present s) p q)
present_lefts s p q disjoint fp fq = record { left = go }
  where
    go : {E A : Signals} {H : Halts} {k : ℕ} {y : Stmt} → Step E (two (Present s) p q) A k H y → Left (two (Present s) p q) k H y
    go (present_then _ d) = present_left p q disjoint _ _ _ s (fp.left d)
    go (present_else_rule _ d) = present_right p q disjoint _ _ _ s (fq.left d)

watching_lefts : (s : SignalNo) (x p : Stmt) → Lefts x p → Lefts (one (Watching s) x) (one (Watching s) p)
watching_lefts s x p fx = record { left = go }
  where
    go : {E A : Signals} {H : Halts} {k : ℕ} {y : Stmt} → Step E (one (Watching s) x) A k H y → Left (one (Watching s) p) k H y
    go (watching_rule d) = one_left (Watching s) p _ _ _ _ (λ e. e) (λ e. e) (fx.left d)

-- a watching that has begun: "present S else do R(stat) watching S end"
guard_lefts : (s : SignalNo) (x p : Stmt) → Lefts x p → Lefts (present_else s (one (Watching s) x)) (one (Watching s) p)
guard_lefts s x p fx = record { left = go }
  where
    go : {E A : Signals} {H : Halts} {k : ℕ} {y : Stmt} → Step E (present_else s (one (Watching s) x)) A k H y → Left (one (Watching s) p) k H y
    go (present_then _ d) = (nothing_lefts (one (Watching s) p)).left d
    go (present_else_rule _ d) = (watching_lefts s x p fx).left d

parallel_lefts : (x y p q : Stmt) → Disjoint p q → Lefts x p → Lefts y q → Lefts (two Parallel x y) (two Parallel p q)
parallel_lefts x y p q disjoint fx fy = record { left = go }
  where
    go : {E A : Signals} {H : Halts} {k : ℕ} {z : Stmt} → Step E (two Parallel x y) A k H z → Left (two Parallel p q) k H z
    go (parallel_rule d e) = parallel_left p q disjoint _ _ _ _ _ _ (fx.left d) (fy.left e)

trap_lefts : (x p : Stmt) → Lefts x p → Lefts (one Trap x) (one Trap p)
trap_lefts x p fx = record { left = go }
  where
    there : (k k' : ℕ) → ((k ≡ 1) × (k' ≡ 1)) ⊎ ((2 < k) × (k' ≡ k - 1)) → k ≡ 1 → k' ≡ 1
    there k k' (inl c) e = c.1
    there k k' (inr c) e = absurd (omega (arith, c.0))

    back : (k k' : ℕ) → ((k ≡ 1) × (k' ≡ 1)) ⊎ ((2 < k) × (k' ≡ k - 1)) → k' ≡ 1 → k ≡ 1
    back k k' (inl c) e = c.0
    back k k' (inr c) e = absurd (omega (arith, c.0, c.1))

    go : {E A : Signals} {H : Halts} {k : ℕ} {y : Stmt} → Step E (one Trap x) A k H y → Left (one Trap p) k H y
    go (trap_ends d _) = none_left (one Trap p) 0 (leaf Nothing) (λ e. omega arith)
    go (trap_stays d c) = one_left Trap p _ _ _ _ (there _ _ c) (back _ _ c) (fx.left d)

signal_lefts : (s : SignalNo) (x p : Stmt) → Lefts x p → Lefts (one (Signal s) x) (one (Signal s) p)
signal_lefts s x p fx = record { left = go }
  where
    go : {E A : Signals} {H : Halts} {k : ℕ} {y : Stmt} → Step E (one (Signal s) x) A k H y → Left (one (Signal s) p) k H y
    go (signal_present d _) = one_left (Signal s) p _ _ _ _ (λ e. e) (λ e. e) (fx.left d)
    go (signal_absent d _) = one_left (Signal s) p _ _ _ _ (λ e. e) (λ e. e) (fx.left d)

-- t itself, labelled -
pub start_lefts : (d : ℕ) (a : HaltNo) (t : Stmt) → Exits d t → Numbered a t → Lefts t t
unfolding Exits Numbered
start_lefts d a (leaf Nothing) x n = nothing_lefts (leaf Nothing)
start_lefts d a (leaf (Halt h)) x n = halt_lefts h
start_lefts d a (leaf (Emit s)) x n = emit_lefts s
start_lefts d a (leaf (Exit k)) x n = exit_lefts k x.0
start_lefts d a (one Loop p) x n = loop_lefts p (start_lefts d a p x.1 n)
start_lefts d a (one (Watching s) p) x n = watching_lefts s p p (start_lefts d a p x.1 n)
start_lefts d a (one Trap p) x n = trap_lefts p p (start_lefts (d + 1) a p x.1 n)
start_lefts d a (one (Signal s) p) x n = signal_lefts s p p (start_lefts d a p x.1 n)
start_lefts d a (two Sequence p q) x n =
    let a₂ : HaltNo = halts_on a (halt_count p) in
    sequence_lefts p p q (sides_disjoint a p q n.0 n.1) (start_lefts d a p x.0 n.0) (start_lefts d a₂ q x.1 n.1)
start_lefts d a (two (Present s) p q) x n =
    let a₂ : HaltNo = halts_on a (halt_count p) in
    present_lefts s p q (sides_disjoint a p q n.0 n.1) (start_lefts d a p x.0 n.0) (start_lefts d a₂ q x.1 n.1)
start_lefts d a (two Parallel p q) x n =
    let a₂ : HaltNo = halts_on a (halt_count p) in
    parallel_lefts p q p q (sides_disjoint a p q n.0 n.1) (start_lefts d a p x.0 n.0) (start_lefts d a₂ q x.1 n.1)

-- a side that is labelled + is recovered; another side of a parallel is nothing
side_lefts : (G : Halts) (p : Stmt) → (active G p ≡ true → Lefts (recovering G p) p) → (b : Bool) → active G p ≡ b
    → Lefts (pick b (recovering G p) (leaf Nothing)) p
unfolding pick
side_lefts G p f true e = f e
side_lefts G p f false e = nothing_lefts p

module _ (G : Halts) (p q : Stmt) (disjoint : Disjoint p q) (some : (active G p || active G q) ≡ true)
    (fp : active G p ≡ true → Lefts (recovering G p) p) (fq : active G q ≡ true → Lefts (recovering G q) q) where
  sequence_recovered : Lefts q q → (b : Bool) → active G p ≡ b → Lefts (pick b (two Sequence (recovering G p) q) (recovering G q)) (two Sequence p q)
  unfolding pick
  sequence_recovered gq true e = sequence_lefts (recovering G p) p q disjoint (fp e) gq
  sequence_recovered gq false e =
      record { left = λ d. sequence_right p q disjoint _ _ _ ((fq (only_right (active G p) (active G q) some e)).left d) }

  present_recovered : (s : SignalNo) (b : Bool) → active G p ≡ b → Lefts (pick b (recovering G p) (recovering G q)) (two (Present s) p q)
  unfolding pick
  present_recovered s true e = record { left = λ d. present_left p q disjoint _ _ _ s ((fp e).left d) }
  present_recovered s false e = record { left = λ d. present_right p q disjoint _ _ _ s ((fq (only_right (active G p) (active G q) some e)).left d) }

-- t labelled +
pub resume_lefts : (d : ℕ) (a : HaltNo) (G : Halts) (t : Stmt) → Exits d t → Numbered a t → active G t ≡ true → Lefts (recovering G t) t
unfolding Exits Numbered active recovering
resume_lefts d a G (leaf Nothing) x n on = absurd (false≢true on)
resume_lefts d a G (leaf (Halt h)) x n on = halt_lefts h
resume_lefts d a G (leaf (Emit s)) x n on = absurd (false≢true on)
resume_lefts d a G (leaf (Exit k)) x n on = absurd (false≢true on)
resume_lefts d a G (one Loop p) x n on = again_lefts (recovering G p) p (resume_lefts d a G p x.1 n on) (start_lefts d a p x.1 n)
resume_lefts d a G (one (Watching s) p) x n on = guard_lefts s (recovering G p) p (resume_lefts d a G p x.1 n on)
resume_lefts d a G (one Trap p) x n on = trap_lefts (recovering G p) p (resume_lefts (d + 1) a G p x.1 n on)
resume_lefts d a G (one (Signal s) p) x n on = signal_lefts s (recovering G p) p (resume_lefts d a G p x.1 n on)
resume_lefts d a G (two Sequence p q) x n on =
    let a₂ : HaltNo = halts_on a (halt_count p) in
    sequence_recovered G p q (sides_disjoint a p q n.0 n.1) on (resume_lefts d a G p x.0 n.0) (resume_lefts d a₂ G q x.1 n.1)
    (start_lefts d a₂ q x.1 n.1) (active G p) refl
resume_lefts d a G (two (Present s) p q) x n on =
    let a₂ : HaltNo = halts_on a (halt_count p) in
    present_recovered G p q (sides_disjoint a p q n.0 n.1) on (resume_lefts d a G p x.0 n.0) (resume_lefts d a₂ G q x.1 n.1)
    s (active G p) refl
resume_lefts d a G (two Parallel p q) x n on =
    let a₂ : HaltNo = halts_on a (halt_count p) in
    parallel_lefts _ _ p q (sides_disjoint a p q n.0 n.1)
    (side_lefts G p (resume_lefts d a G p x.0 n.0) (active G p) refl) (side_lefts G q (resume_lefts d a₂ G q x.1 n.1) (active G q) refl)

-- THEOREM, 004 section 4.2: "Let H be a haltset in stat. Then for any behavioral rewriting of the form R(stat^H) -> stat' [with level 1 and haltset H'] the
-- haltset H' contains only halts occurring in stat' and one has stat' = R(stat^H')." They are halts of stat too, and H' is not empty.
pub record Recovers (t : Stmt) (H : Halts) (x : Stmt) : Type 0 where
  pub derivative : x ≡ recovered H t
  pub occurs : (h : HaltNo) → (H h && not (in_halts x h)) ≡ false
  pub own : (h : HaltNo) → (H h && not (in_halts t h)) ≡ false
  pub some : active H t ≡ true

pub recovers : (d : ℕ) (a : HaltNo) (t : Stmt) → Exits d t → Numbered a t → (G : Halts) → {E A : Signals} {H : Halts} {x : Stmt}
    → Step E (recovered G t) A 1 H x → Recovers t H x
unfolding recovered pick
recovers d a t x n G {E = E} {A = A} {H = H} {x = y} s = go (active G t) refl s
  where
    end : Left t 1 H y → Recovers t H y
    end g = let r = g.recovers refl H (λ h e. refl) in record { derivative = rw (r.0, r.1); occurs = g.occurs; own = g.own; some = r.0 }

    go : (b : Bool) → active G t ≡ b → Step E (pick b (recovering G t) t) A 1 H y → Recovers t H y
    go true e s = end ((resume_lefts d a G t x n e).left s)
    go false e s = end ((start_lefts d a t x n).left s)
