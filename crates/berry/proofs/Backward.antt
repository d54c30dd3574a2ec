-- A step of 004's rules is the outcome of the paper's rules under a set that is read off the derivation: each local signal that lives has one status there.
use mathlib.Core.Path.{◌≡◌, refl, sym, ◌∙◌, ap, subst}
use mathlib.Core.Bool.{Bool, true, false, not, ◌&&◌, ◌||◌, false≢true, or-false, and-false}
use mathlib.Core.Logic.{◌⊎◌, inl, inr}
use Prim.Native.Nat.{ℕ, zero, suc, ◌-◌, ◌<◌}
use native.Mathlib.Omega.{arith}
use Rattle.number.specs.declared.SignalNo.{SignalNo}
use Rattle.number.specs.declared.HaltNo.{HaltNo}
use Rattle.number.specs.Counts.{halt_no}
use Rattle.number.specs.Number.{pick}
use Rattle.number.proofs.Bools.{taut, or_left, or_right}
use Rattle.sheet.specs.declared.Leaf.TheVariants.{Nothing, Halt, Emit, Exit}
use Rattle.sheet.specs.declared.Unary.TheVariants.{Loop, Watching, Trap, Signal}
use Rattle.sheet.specs.declared.Binary.TheVariants.{Sequence, Present, Parallel}
use Rattle.sheet.specs.Stmt.{Stmt, leaf, one, two}
use Rattle.sheet.specs.Read.{only}
use Rattle.sets.specs.Codes.{same, empty, join, larger, caught}
use Rattle.rules.specs.Rules.{Signals, Halts, Outcome, idle, only_halt, then_on, kept, start, active, resume}
use Rattle.rules.specs.States.{apart}
use Rattle.rules.proofs.Codes.{NoInstant, sequence_left, sequence_right, parallel_left, parallel_right}
use Rattle.rules.proofs.Again.{swap, own_both, only_right}
use Rattle.berry.specs.Behaviour.{Step, nothing_rule, halt_rule, emit_rule, sequence_on, sequence_stays, loop_rule, present_then, present_else_rule}
use Rattle.berry.specs.Behaviour.{watching_rule, parallel_rule, trap_ends, trap_stays, exit_rule, signal_present, signal_absent, without, present_else}
use Rattle.berry.specs.Behaviour.{unless_ended, locals_of}
use Rattle.berry.specs.Haltsets.{recovering}
use Rattle.berry.proofs.Scopes.{in_locals, Bound, only_self, only_in, only_out, undeclared}
use Rattle.berry.proofs.Tests.{all_in, more_in}
use Rattle.agreement.proofs.Restarts.{NoRestart}
use Rattle.berry.proofs.Lives.{start_lives, resume_lives, lives_once}
use Rattle.berry.proofs.Courses.{Course, steady, ending, halting, emitting, exiting, after_left, after_trap, then_course, beside_course, pick_course}
use Rattle.berry.proofs.Courses.{loop_course, watching_course, trap_course, signal_course, start_becomes, resume_becomes, start_course, resume_course}
use Rattle.berry.proofs.Runs.{Run, Separate, separate, start_run, resume_run, side_run}
use Rattle.berry.proofs.Forward.{Agree, agree_present, agree_absent}

-- The emissions A, level k and haltset H of a step to x are those of the course c under E, as far as X is in scope; W live in it, and Y of them are present.
pub record Said (X A : Signals) (k : ℕ) (H : Halts) (x : Stmt) (W Y : Signals) (o : Outcome) (y : Stmt) (L : Signals) : Type 0 where
  pub emitted : (s : SignalNo) → A s ≡ (o.emits s && X s)
  pub level : k ≡ o.code
  pub haltset : H ≡ o.halts
  pub becoming : x ≡ y
  pub living : (s : SignalNo) → W s ≡ L s
  pub told : (s : SignalNo) → Y s ≡ (o.emits s && W s)

-- What a step under D tells: some of the signals M live, of them Y are present, and under any set that agrees with both the course is what the step says.
pub record Reads (X D M : Signals) (c : Course) (A : Signals) (k : ℕ) (H : Halts) (x : Stmt) (Y : Signals) : Type 0 where
  pub living : Signals
  pub inside : (s : SignalNo) → (living s && not (M s)) ≡ false
  pub part : (s : SignalNo) → (Y s && not (living s)) ≡ false
  pub says : (E : Signals) → Agree X D E → ((s : SignalNo) → living s ≡ true → E s ≡ Y s)
      → Said X A k H x living Y (c.outcome E) (c.becomes E) (c.lives E)

-- that set
module _ {X D M : Signals} {c : Course} {A : Signals} {k : ℕ} {H : Halts} {x : Stmt} {Y : Signals} (r : Reads X D M c A k H x Y) where
  pub found : Signals
  found s = pick (r.living s) (Y s) (D s)

  pub found_is : (s : SignalNo) → found s ≡ pick (r.living s) (Y s) (D s)
  unfolding found
  found_is s = refl

  not_living : (w m x : Bool) → (w && not m) ≡ false → (m && x) ≡ false → x ≡ true → w ≡ false
  not_living = taut 3 3 _ _ _ tt

  pub found_said : Separate M X → Said X A k H x r.living Y (c.outcome found) (c.becomes found) (c.lives found)
  unfolding found pick
  found_said new = r.says found (λ s on. rw (not_living (r.living s) (M s) (X s) (r.inside s) (new s) on)) (λ s on. rw on)

-- every step of x tells so
pub record Read (X : Signals) (x : Stmt) (M : Signals) (c : Course) : Type 0 where
  pub read : {D A : Signals} {H : Halts} {k : ℕ} {x' : Stmt} (d : Step D x A k H x') → Reads X D M c A k H x' (locals_of d)

-- A statement without parts.
all_seen : (a x : Bool) → (a && not x) ≡ false → a ≡ (a && x)
all_seen = taut 2 1 _ _ _ tt

still : (X D M : Signals) (o : Outcome) (x : Stmt) → ((s : SignalNo) → (o.emits s && not (X s)) ≡ false)
    → Reads X D M (steady o x) o.emits o.code o.halts x empty
still X D M o x f =
    record {
      living = empty;
      inside = λ s. refl;
      part = λ s. refl;
      says =
          λ E g u. record {
            emitted = λ s. all_seen (o.emits s) (X s) (f s);
            level = refl;
            haltset = refl;
            becoming = refl;
            living = λ s. refl;
            told = λ s. sym (and-false (o.emits s));
          };
    }

module _ (X M : Signals) where
  pub nothing_read : Read X (leaf Nothing) M ending
  unfolding locals_of
  nothing_read = record { read = go }
    where
      go : {D A : Signals} {H : Halts} {k : ℕ} {y : Stmt} (d : Step D (leaf Nothing) A k H y) → Reads X D M ending A k H y (locals_of d)
      go nothing_rule = still X _ M idle (leaf Nothing) (λ s. refl)

  pub halt_read : (h : HaltNo) → Read X (leaf (Halt h)) M (halting h)
  unfolding locals_of
  halt_read h = record { read = go }
    where
      go : {D A : Signals} {H : Halts} {k : ℕ} {y : Stmt} (d : Step D (leaf (Halt h)) A k H y) → Reads X D M (halting h) A k H y (locals_of d)
      go halt_rule = still X _ M (record { emits = empty; code = 1; halts = only_halt h }) (leaf (Halt h)) (λ s. refl)

  exit_read : (j : ℕ) → Read X (leaf (Exit j)) M (exiting j)
  unfolding locals_of
  exit_read j = record { read = go }
    where
      go : {D A : Signals} {H : Halts} {k : ℕ} {y : Stmt} (d : Step D (leaf (Exit j)) A k H y) → Reads X D M (exiting j) A k H y (locals_of d)
      go exit_rule = still X _ M (record { emits = empty; code = j; halts = empty }) (leaf (Halt (halt_no 0))) (λ s. refl)

  emit_read : (x : SignalNo) → X x ≡ true → Read X (leaf (Emit x)) M (emitting x)
  unfolding locals_of
  emit_read x on = record { read = go }
    where
      go : {D A : Signals} {H : Halts} {k : ℕ} {y : Stmt} (d : Step D (leaf (Emit x)) A k H y) → Reads X D M (emitting x) A k H y (locals_of d)
      go emit_rule = still X _ M (record { emits = only x; code = 0; halts = empty }) (leaf Nothing) (λ s. only_in X x s on)

-- Two runs in an instant.
first_status : (e w y z v : Bool) → w ≡ true → e ≡ (y || z) → (z && not v) ≡ false → (w && v) ≡ false → e ≡ y
first_status = taut 5 4 _ _ _ tt

second_status : (e w y z v : Bool) → v ≡ true → e ≡ (y || z) → (y && not w) ≡ false → (w && v) ≡ false → e ≡ z
second_status = taut 5 4 _ _ _ tt

not_others : (a x w v m : Bool) → (a && not (x || w)) ≡ false → (v && not m) ≡ false → (m && x) ≡ false → (w && v) ≡ false → (a && v) ≡ false
not_others = taut 5 4 _ _ _ tt

both_told : (y z a b w v : Bool) → y ≡ (a && w) → z ≡ (b && v) → (a && v) ≡ false → (b && w) ≡ false → (y || z) ≡ ((a || b) && (w || v))
both_told = taut 6 4 _ _ _ tt

both_emitted : (a b c d x : Bool) → a ≡ (c && x) → b ≡ (d && x) → (a || b) ≡ ((c || d) && x)
both_emitted = taut 5 2 _ _ _ tt

both_inside : (w v m n t : Bool) → (w && not m) ≡ false → (v && not n) ≡ false → (m && not t) ≡ false → (n && not t) ≡ false → ((w || v) && not t) ≡ false
both_inside = taut 5 4 _ _ _ tt

one_inside : (w m t : Bool) → (w && not m) ≡ false → (m && not t) ≡ false → (w && not t) ≡ false
one_inside = taut 3 2 _ _ _ tt

abbrev Within : Signals → Signals → Type 0
Within M N = (s : SignalNo) → (M s && not (N s)) ≡ false

module _ (X Mp Mq Mt : Signals) (a b : Course) (pa : (E : Signals) → Run X Mp (a.outcome E) (a.lives E))
    (pb : (E : Signals) → Run X Mq (b.outcome E) (b.lives E)) (ip : Within Mp Mt) (iq : Within Mq Mt) where
  module _ {D A B : Signals} {k l : ℕ} {H G : Halts} {x y : Stmt} {Y Z : Signals} (ra : Reads X D Mp a A k H x Y) (rb : Reads X D Mq b B l G y Z)
      (none : Separate ra.living rb.living) where
    -- the statuses of both are those of each
    abbrev Statuses : Signals → Type 0
    Statuses E = (s : SignalNo) → (ra.living s || rb.living s) ≡ true → E s ≡ (Y s || Z s)

    on_first : (E : Signals) → Statuses E → (s : SignalNo) → ra.living s ≡ true → E s ≡ Y s
    on_first E u s e = first_status (E s) (ra.living s) (Y s) (Z s) (rb.living s) e (u s (or_left (ra.living s) (rb.living s) e)) (rb.part s) (none s)

    on_second : (E : Signals) → Statuses E → (s : SignalNo) → rb.living s ≡ true → E s ≡ Z s
    on_second E u s e =
        second_status (E s) (ra.living s) (Y s) (Z s) (rb.living s) e (u s (or_right (ra.living s) (rb.living s) e)) (ra.part s) (none s)

    inside_both : (s : SignalNo) → ((ra.living s || rb.living s) && not (Mt s)) ≡ false
    inside_both s = both_inside (ra.living s) (rb.living s) (Mp s) (Mq s) (Mt s) (ra.inside s) (rb.inside s) (ip s) (iq s)

    part_both : (s : SignalNo) → ((Y s || Z s) && not (ra.living s || rb.living s)) ≡ false
    part_both s = own_both (Y s) (Z s) (ra.living s) (rb.living s) (ra.part s) (rb.part s)

    module _ (E : Signals) (sa : Said X A k H x ra.living Y (a.outcome E) (a.becomes E) (a.lives E))
        (sb : Said X B l G y rb.living Z (b.outcome E) (b.becomes E) (b.lives E)) where
      told_both : (s : SignalNo) → (Y s || Z s) ≡ (((a.outcome E).emits s || (b.outcome E).emits s) && (ra.living s || rb.living s))
      told_both s =
          let ea : Bool = (a.outcome E).emits s in
          let eb : Bool = (b.outcome E).emits s in
          let seen_a : (ea && not (X s || ra.living s)) ≡ false = rw (sa.living s) ((pa E).seen s) in
          let seen_b : (eb && not (X s || rb.living s)) ≡ false = rw (sb.living s) ((pb E).seen s) in
          both_told (Y s) (Z s) ea eb (ra.living s) (rb.living s) (sa.told s) (sb.told s)
          (not_others ea (X s) (ra.living s) (rb.living s) (Mq s) seen_a (rb.inside s) ((pb E).new s) (none s))
          (not_others eb (X s) (rb.living s) (ra.living s) (Mp s) seen_b (ra.inside s) ((pa E).new s) (swap (ra.living s) (rb.living s) (none s)))

      emitted_both : (s : SignalNo) → (A s || B s) ≡ (((a.outcome E).emits s || (b.outcome E).emits s) && X s)
      emitted_both s = both_emitted (A s) (B s) ((a.outcome E).emits s) ((b.outcome E).emits s) (X s) (sa.emitted s) (sb.emitted s)

    beside_reads : Reads X D Mt (beside_course a b) (join A B) (larger k l) (kept (larger k l) (join H G))
        (two Parallel (unless_ended k x) (unless_ended l y)) (join Y Z)
    beside_reads =
        record {
          living = join ra.living rb.living;
          inside = inside_both;
          part = part_both;
          says =
              λ E g u.
              let sa = ra.says E g (on_first E u) in
              let sb = rb.says E g (on_second E u) in
              record {
                emitted = emitted_both E sa sb;
                level = λ i. larger (sa.level i) (sb.level i);
                haltset = λ i. kept (larger (sa.level i) (sb.level i)) (join (sa.haltset i) (sb.haltset i));
                becoming = λ i. two Parallel (unless_ended (sa.level i) (sa.becoming i)) (unless_ended (sb.level i) (sb.becoming i));
                living = λ s. rw (sa.living s, sb.living s);
                told = told_both E sa sb;
              };
        }

  -- what is said of the two in a row, where q stands on the right and the first has the code c
  abbrev InRow : Stmt → Signals → ℕ → Signals → ℕ → Halts → Stmt → Signals → Signals → Type 0
  InRow q E c A k H x W Y =
      Said X A k H x W Y (then_on c (a.outcome E) (b.outcome E)) (after_left c (two Sequence (a.becomes E) q) (b.becomes E))
      (λ s. a.lives E s || (same c 0 && b.lives E s))

  -- the second run follows ..
  follow_reads : (q : Stmt) {D A B : Signals} {l : ℕ} {H G : Halts} {x y : Stmt} {Y Z : Signals} (ra : Reads X D Mp a A 0 H x Y)
      (rb : Reads X D Mq b B l G y Z) → Separate ra.living rb.living → Reads X D Mt (then_course q a b) (join A B) l G y (join Y Z)
  follow_reads q {A = A} {B = B} {l = l} {G = G} {y = y} {Y = Y} {Z = Z} ra rb none =
      record {
        living = join ra.living rb.living;
        inside = inside_both ra rb none;
        part = part_both ra rb none;
        says =
            λ E g u.
            let sa = ra.says E g (on_first ra rb none E u) in
            let sb = rb.says E g (on_second ra rb none E u) in
            subst (λ (c : ℕ). InRow q E c (join A B) l G y (join ra.living rb.living) (join Y Z)) sa.level
            (record {
              emitted = emitted_both ra rb none E sa sb;
              level = sb.level;
              haltset = sb.haltset;
              becoming = sb.becoming;
              living = λ s. rw (sa.living s, sb.living s);
              told = told_both ra rb none E sa sb;
            });
      }

  -- .. or does not
  stay_reads : (q : Stmt) {D A : Signals} {k : ℕ} {H : Halts} {x : Stmt} {Y : Signals} → 0 < k → (ra : Reads X D Mp a A k H x Y)
      → Reads X D Mt (then_course q a b) A k H (two Sequence x q) Y
  stay_reads q {A = A} {k = k} {H = H} {x = x} {Y = Y} some ra =
      record {
        living = ra.living;
        inside = λ s. one_inside (ra.living s) (Mp s) (Mt s) (ra.inside s) (ip s);
        part = ra.part;
        says = λ E g u. stays E (a.outcome E).code refl (ra.says E g u);
      }
    where
      stays : (E : Signals) (c : ℕ) → (a.outcome E).code ≡ c → Said X A k H x ra.living Y (a.outcome E) (a.becomes E) (a.lives E)
          → InRow q E c A k H (two Sequence x q) ra.living Y
      stays E zero e sa = let zero_level : k ≡ 0 = sa.level ∙ e in absurd (omega arith)
      stays E (suc c) e sa =
          record {
            emitted = sa.emitted;
            level = sa.level;
            haltset = sa.haltset;
            becoming = λ i. two Sequence (sa.becoming i) q;
            living = λ s. sa.living s ∙ sym (or-false (a.lives E s));
            told = sa.told;
          }

  -- no signal lives in both, whatever the sets are: so it is of what two steps tell
  told_separate : {D A B : Signals} {k l : ℕ} {H G : Halts} {x y : Stmt} {Y Z : Signals} (ra : Reads X D Mp a A k H x Y) (rb : Reads X D Mq b B l G y Z)
      → ((E F : Signals) → (a.outcome E).code ≡ k → Separate (a.lives E) (b.lives F)) → Separate ra.living rb.living
  told_separate {D = D} ra rb none s =
      let sa = found_said ra (pa D).new in
      let sb = found_said rb (pb D).new in
      rw (sa.living s, sb.living s) (none (found ra) (found rb) (sym sa.level) s)

  pub sequence_read : (x q : Stmt) → ((E F : Signals) → (a.outcome E).code ≡ 0 → Separate (a.lives E) (b.lives F)) → Read X x Mp a → Read X q Mq b
      → Read X (two Sequence x q) Mt (then_course q a b)
  unfolding locals_of
  sequence_read x q none gx gq = record { read = go }
    where
      go : {D A : Signals} {H : Halts} {k : ℕ} {y : Stmt} (d : Step D (two Sequence x q) A k H y) → Reads X D Mt (then_course q a b) A k H y (locals_of d)
      go (sequence_on d e) = follow_reads q (gx.read d) (gq.read e) (told_separate (gx.read d) (gq.read e) none)
      go (sequence_stays d some) = stay_reads q some (gx.read d)

  parallel_read : (x y : Stmt) → ((E F : Signals) → Separate (a.lives E) (b.lives F)) → Read X x Mp a → Read X y Mq b
      → Read X (two Parallel x y) Mt (beside_course a b)
  unfolding locals_of
  parallel_read x y none gx gy = record { read = go }
    where
      go : {D A : Signals} {H : Halts} {k : ℕ} {z : Stmt} (d : Step D (two Parallel x y) A k H z) → Reads X D Mt (beside_course a b) A k H z (locals_of d)
      go (parallel_rule d e) = beside_reads (gx.read d) (gy.read e) (told_separate (gx.read d) (gy.read e) (λ E F i. none E F))

-- Statements with one part.
module _ (X M : Signals) (x : Stmt) (a : Course) (g : Read X x M a) where
  -- only what the statement becomes is another
  wrap_reads : (f : Stmt → Stmt) {D A : Signals} {k : ℕ} {H : Halts} {y : Stmt} {Y : Signals} → Reads X D M a A k H y Y
      → Reads X D M (record { outcome = a.outcome; becomes = λ E. f (a.becomes E); lives = a.lives }) A k H (f y) Y
  wrap_reads f r =
      record {
        living = r.living;
        inside = r.inside;
        part = r.part;
        says =
            λ E g u.
            let sa = r.says E g u in
            record {
              emitted = sa.emitted;
              level = sa.level;
              haltset = sa.haltset;
              becoming = ap f sa.becoming;
              living = sa.living;
              told = sa.told;
            };
      }

  loop_read : Read X (one Loop x) M (loop_course x a)
  unfolding locals_of
  loop_read = record { read = go }
    where
      go : {D A : Signals} {H : Halts} {k : ℕ} {y : Stmt} (d : Step D (one Loop x) A k H y) → Reads X D M (loop_course x a) A k H y (locals_of d)
      go (loop_rule d _) = wrap_reads (λ y. two Sequence y (one Loop x)) (g.read d)

  watching_read : (s : SignalNo) → Read X (one (Watching s) x) M (watching_course s a)
  unfolding locals_of
  watching_read s = record { read = go }
    where
      go : {D A : Signals} {H : Halts} {k : ℕ} {y : Stmt} (d : Step D (one (Watching s) x) A k H y) → Reads X D M (watching_course s a) A k H y (locals_of d)
      go (watching_rule d) = wrap_reads (λ y. present_else s (one (Watching s) y)) (g.read d)

  trap_reads : {D A : Signals} {k : ℕ} {H : Halts} {y : Stmt} {Y : Signals} (k' : ℕ) (y' : Stmt) → k' ≡ caught k → y' ≡ after_trap k y
      → Reads X D M a A k H y Y → Reads X D M (trap_course a) A k' H y' Y
  trap_reads k' y' level after r =
      record {
        living = r.living;
        inside = r.inside;
        part = r.part;
        says =
            λ E g u.
            let sa = r.says E g u in
            record {
              emitted = sa.emitted;
              level = level ∙ ap caught sa.level;
              haltset = sa.haltset;
              becoming = after ∙ (λ i. after_trap (sa.level i) (sa.becoming i));
              living = sa.living;
              told = sa.told;
            };
      }

  trap_read : Read X (one Trap x) M (trap_course a)
  unfolding locals_of
  trap_read = record { read = go }
    where
      ends : (k : ℕ) (y : Stmt) → (k ≡ 0) ⊎ (k ≡ 2) → (0 ≡ caught k) × (leaf Nothing ≡ after_trap k y)
      ends k y (inl e) = (rw e, rw e)
      ends k y (inr e) = (rw e, rw e)

      falls : (k k' : ℕ) (y : Stmt) → 2 < k → k' ≡ k - 1 → (k' ≡ caught k) × (one Trap y ≡ after_trap k y)
      falls zero k' y l e = absurd (omega arith)
      falls (suc zero) k' y l e = absurd (omega arith)
      falls (suc (suc zero)) k' y l e = absurd (omega arith)
      falls (suc (suc (suc k))) k' y l e = (omega arith, refl)

      stays : (k k' : ℕ) (y : Stmt) → ((k ≡ 1) × (k' ≡ 1)) ⊎ ((2 < k) × (k' ≡ k - 1)) → (k' ≡ caught k) × (one Trap y ≡ after_trap k y)
      stays k k' y (inl c) = (c.1 ∙ rw c.0, rw c.0)
      stays k k' y (inr c) = falls k k' y c.0 c.1

      go : {D A : Signals} {H : Halts} {k : ℕ} {y : Stmt} (d : Step D (one Trap x) A k H y) → Reads X D M (trap_course a) A k H y (locals_of d)
      go (trap_ends d c) = let e = ends _ _ c in trap_reads 0 (leaf Nothing) e.0 e.1 (g.read d)
      go (trap_stays d c) = let e = stays _ _ _ c in trap_reads _ _ e.0 e.1 (g.read d)

  widen_reads : {D N A : Signals} {k : ℕ} {H : Halts} {y : Stmt} {Y : Signals} → Within M N → Reads X D M a A k H y Y → Reads X D N a A k H y Y
  widen_reads {N = N} i r =
      record { living = r.living; inside = λ s. one_inside (r.living s) (M s) (N s) (r.inside s) (i s); part = r.part; says = r.says }

  widen : (N : Signals) → Within M N → Read X x N a
  widen N i = record { read = λ d. widen_reads i (g.read d) }

-- A test: one of two courses.
module _ (X Mt : Signals) (x : SignalNo) (on : X x ≡ true) (a b : Course) where
  -- the course that is taken where x is z
  chosen_reads : {D M A : Signals} {k : ℕ} {H : Halts} {y : Stmt} {Y : Signals} (z : Bool) → D x ≡ z → Within M Mt
      → Reads X D M (pick_course (λ E. z) a b) A k H y Y → Reads X D Mt (pick_course (λ E. E x) a b) A k H y Y
  chosen_reads {M = M} {A = A} {k = k} {H = H} {y = y} {Y = Y} z e i r =
      record {
        living = r.living;
        inside = λ s. one_inside (r.living s) (M s) (Mt s) (r.inside s) (i s);
        part = r.part;
        says =
            λ E g u.
            let taken : Bool → Type 0 = λ v. Said X A k H y r.living Y (pick v (a.outcome E) (b.outcome E)) (pick v (a.becomes E) (b.becomes E))
            (λ s. pick v (a.lives E s) (b.lives E s)) in
            subst taken (sym e ∙ g x on) (r.says E g u);
      }

  present_read : (Mp Mq : Signals) (p q : Stmt) → Within Mp Mt → Within Mq Mt → Read X p Mp a → Read X q Mq b
      → Read X (two (Present x) p q) Mt (pick_course (λ E. E x) a b)
  unfolding locals_of pick
  present_read Mp Mq p q ip iq gp gq = record { read = go }
    where
      go : {D A : Signals} {H : Halts} {k : ℕ} {y : Stmt} (d : Step D (two (Present x) p q) A k H y)
          → Reads X D Mt (pick_course (λ E. E x) a b) A k H y (locals_of d)
      go (present_then e d) = chosen_reads true e ip (gp.read d)
      go (present_else_rule e d) = chosen_reads false e iq (gq.read d)

-- A local signal.
other_status : (e w m y d x : Bool) → w ≡ true → e ≡ (m || y) → (w && not d) ≡ false → (d && (x || m)) ≡ false → e ≡ y
other_status = taut 6 4 _ _ _ tt

present_emitted : (a m c x : Bool) → (a || m) ≡ (c && (x || m)) → (m && a) ≡ false → (m && x) ≡ false → a ≡ (c && x)
present_emitted = taut 4 3 _ _ _ tt

present_told : (y c w a m x : Bool) → y ≡ (c && w) → (a || m) ≡ (c && (x || m)) → (m || y) ≡ (c && (m || w))
present_told = taut 6 2 _ _ _ tt

absent_emitted : (a m c x : Bool) → a ≡ (c && (x || m)) → (m && a) ≡ false → a ≡ (c && x)
absent_emitted = taut 4 2 _ _ _ tt

absent_told : (y c w a m x : Bool) → y ≡ (c && w) → a ≡ (c && (x || m)) → (m && a) ≡ false → y ≡ (c && (m || w))
absent_told = taut 6 3 _ _ _ tt

more_room : (y m w : Bool) → (y && not w) ≡ false → (y && not (m || w)) ≡ false
more_room = taut 3 1 _ _ _ tt

not_told : (y w d x : Bool) → (y && not w) ≡ false → (w && not d) ≡ false → (d && (x || true)) ≡ false → y ≡ false
not_told = taut 4 3 _ _ _ tt

module _ (X M : Signals) (x : SignalNo) (new : X x ≡ false) (apart_from : (s : SignalNo) → (M s && (X s || only x s)) ≡ false) (a : Course) where
  present_reads : {D A : Signals} {k : ℕ} {H : Halts} {y : Stmt} {Y : Signals} → A x ≡ false
      → Reads (join X (only x)) (join D (only x)) M a (join A (only x)) k H y Y
      → Reads X D (join (only x) M) (signal_course x a) A k H (one (Signal x) y) (join (only x) Y)
  present_reads {D = D} {A = A} {Y = Y} hidden r =
      record {
        living = join (only x) r.living;
        inside = λ s. more_in (only x s) (r.living s) (M s) (r.inside s);
        part = λ s. more_in (only x s) (Y s) (r.living s) (r.part s);
        says =
            λ E g u.
            let here : E x ≡ true = u x (or_left (only x x) (r.living x) (only_self x)) ∙ or_left (only x x) (Y x) (only_self x) in
            let sa = r.says E (agree_present X D E x g here)
            (λ s w. other_status (E s) (r.living s) (only x s) (Y s) (M s) (X s) w (u s (or_right (only x s) (r.living s) w)) (r.inside s) (apart_from s)) in
            let e : Signals = (a.outcome E).emits in
            record {
              emitted = λ s. present_emitted (A s) (only x s) (e s) (X s) (sa.emitted s) (only_out A x s hidden) (only_out X x s new);
              level = sa.level;
              haltset = sa.haltset;
              becoming = ap (one (Signal x)) sa.becoming;
              living = λ s. rw (sa.living s);
              told = λ s. present_told (Y s) (e s) (r.living s) (A s) (only x s) (X s) (sa.told s) (sa.emitted s);
            };
      }

  absent_reads : {D A : Signals} {k : ℕ} {H : Halts} {y : Stmt} {Y : Signals} → A x ≡ false → Reads (join X (only x)) (without D x) M a A k H y Y
      → Reads X D (join (only x) M) (signal_course x a) A k H (one (Signal x) y) Y
  absent_reads {D = D} {A = A} {Y = Y} hidden r =
      record {
        living = join (only x) r.living;
        inside = λ s. more_in (only x s) (r.living s) (M s) (r.inside s);
        part = λ s. more_room (Y s) (only x s) (r.living s) (r.part s);
        says =
            λ E g u.
            let here : E x ≡ false = u x (or_left (only x x) (r.living x) (only_self x))
            ∙ not_told (Y x) (r.living x) (M x) (X x) (r.part x) (r.inside x) (rw (only_self x) at (apart_from x)) in
            let sa = r.says E (agree_absent X D E x g here) (λ s w. u s (or_right (only x s) (r.living s) w)) in
            let e : Signals = (a.outcome E).emits in
            record {
              emitted = λ s. absent_emitted (A s) (only x s) (e s) (X s) (sa.emitted s) (only_out A x s hidden);
              level = sa.level;
              haltset = sa.haltset;
              becoming = ap (one (Signal x)) sa.becoming;
              living = λ s. rw (sa.living s);
              told = λ s. absent_told (Y s) (e s) (r.living s) (A s) (only x s) (X s) (sa.told s) (sa.emitted s) (only_out A x s hidden);
            };
      }

  signal_read : (y : Stmt) → Read (join X (only x)) y M a → Read X (one (Signal x) y) (join (only x) M) (signal_course x a)
  unfolding locals_of
  signal_read y g = record { read = go }
    where
      go : {D A : Signals} {H : Halts} {k : ℕ} {z : Stmt} (d : Step D (one (Signal x) y) A k H z)
          → Reads X D (join (only x) M) (signal_course x a) A k H z (locals_of d)
      go (signal_present d hidden) = present_reads hidden (g.read d)
      go (signal_absent d hidden) = absent_reads hidden (g.read d)

-- The whole statement, started ..
first_in : (p q : Bool) → (p && not (p || q)) ≡ false
first_in = taut 2 0 _ _ _ tt

second_in : (p q : Bool) → (q && not (p || q)) ≡ false
second_in = taut 2 0 _ _ _ tt

module _ (p q : Stmt) where
  abbrev both : Signals
  both s = in_locals p s || in_locals q s

  left_in : Within (in_locals p) both
  left_in s = first_in (in_locals p s) (in_locals q s)

  right_in : Within (in_locals q) both
  right_in s = second_in (in_locals p s) (in_locals q s)

pub start_read : (X : Signals) (t : Stmt) → Bound X t → Read X t (in_locals t) (start_course t)
unfolding start start_lives start_becomes start_course Bound in_locals
start_read X (leaf Nothing) b = nothing_read X empty
start_read X (leaf (Halt h)) b = halt_read X empty h
start_read X (leaf (Emit s)) b = emit_read X empty s b
start_read X (leaf (Exit k)) b = exit_read X empty k
start_read X (one Loop p) b = loop_read X (in_locals p) p (start_course p) (start_read X p b.1)
start_read X (one (Watching x) p) b = watching_read X (in_locals p) p (start_course p) (start_read X p b.1) x
start_read X (one Trap p) b = trap_read X (in_locals p) p (start_course p) (start_read X p b.1)
start_read X (one (Signal x) p) b =
    signal_read X (in_locals p) x b.0 (undeclared (join X (only x)) p b.1) (start_course p) p (start_read (join X (only x)) p b.1)
start_read X (two Sequence p q) b =
    sequence_read X (in_locals p) (in_locals q) (both p q) (start_course p) (start_course q) (start_run X p b.1) (start_run X q b.2)
    (left_in p q) (right_in p q) p q (λ E F z. separate (start_run X p b.1 E) (start_run X q b.2 F) b.3)
    (start_read X p b.1) (start_read X q b.2)
start_read X (two (Present x) p q) b =
    present_read X (both p q) x b.0 (start_course p) (start_course q) (in_locals p) (in_locals q) p q (left_in p q) (right_in p q)
    (start_read X p b.1) (start_read X q b.2)
start_read X (two Parallel p q) b =
    parallel_read X (in_locals p) (in_locals q) (both p q) (start_course p) (start_course q) (start_run X p b.1) (start_run X q b.2)
    (left_in p q) (right_in p q) p q (λ E F. separate (start_run X p b.1 E) (start_run X q b.2 F) b.3)
    (start_read X p b.1) (start_read X q b.2)

-- .. and resumed
module _ (X : Signals) (H : Halts) where
  -- what is known of a part that is resumed
  abbrev Resumed : Stmt → Type 0
  Resumed p = active H p ≡ true → Read X (recovering H p) (in_locals p) (resume_course H p)

  -- a side of a parallel
  abbrev side_course : Stmt → Bool → Course
  side_course p z = pick_course (λ E. z) (resume_course H p) ending

  side_read : (p : Stmt) → Resumed p → (z : Bool) → active H p ≡ z → Read X (pick z (recovering H p) (leaf Nothing)) (in_locals p) (side_course p z)
  unfolding pick
  side_read p f true e = f e
  side_read p f false e = nothing_read X (in_locals p)

  module _ (p q : Stmt) (h : (active H p || active H q) ≡ true) (rp : Resumed p) (rq : Resumed q) where
    sequence_resumed : Bound X (two Sequence p q) → (z : Bool) → active H p ≡ z
        → Read X (pick z (two Sequence (recovering H p) q) (recovering H q)) (both p q)
        (pick_course (λ E. z) (then_course q (resume_course H p) (start_course q)) (resume_course H q))
    unfolding Bound start_course resume_course pick
    sequence_resumed b true e =
        sequence_read X (in_locals p) (in_locals q) (both p q) (resume_course H p) (start_course q) (λ E. resume_run X p b.1 E H) (start_run X q b.2)
        (left_in p q) (right_in p q) (recovering H p) q (λ E F z. separate (resume_run X p b.1 E H) (start_run X q b.2 F) b.3)
        (rp e) (start_read X q b.2)
    sequence_resumed b false e =
        widen X (in_locals q) (recovering H q) (resume_course H q) (rq (only_right (active H p) (active H q) h e)) (both p q) (right_in p q)

    present_resumed : (z : Bool) → active H p ≡ z
        → Read X (pick z (recovering H p) (recovering H q)) (both p q) (pick_course (λ E. z) (resume_course H p) (resume_course H q))
    unfolding pick
    present_resumed true e = widen X (in_locals p) (recovering H p) (resume_course H p) (rp e) (both p q) (left_in p q)
    present_resumed false e =
        widen X (in_locals q) (recovering H q) (resume_course H q) (rq (only_right (active H p) (active H q) h e)) (both p q) (right_in p q)

pub resume_read : (X : Signals) (H : Halts) (t : Stmt) → NoInstant t → NoRestart t → apart H t ≡ true → Bound X t → active H t ≡ true
    → Read X (recovering H t) (in_locals t) (resume_course H t)
unfolding start start_lives start_becomes start_course resume resume_lives resume_becomes resume_course active recovering NoInstant NoRestart apart Bound in_locals
resume_read X H (leaf Nothing) w n f b h = absurd (false≢true h)
resume_read X H (leaf (Halt k)) w n f b h = halt_read X empty k
resume_read X H (leaf (Emit s)) w n f b h = absurd (false≢true h)
resume_read X H (leaf (Exit k)) w n f b h = absurd (false≢true h)
resume_read X H (one Loop p) w n f b h =
    let own : Signals = in_locals p in
    let all : Within own own = λ s. all_in (in_locals p s) in
    sequence_read X own own own (resume_course H p) (loop_course p (start_course p)) (λ E. resume_run X p b.1 E H) (start_run X p b.1) all all
    (recovering H p) (one Loop p) (λ E F z. lives_once X E F H p w n f b.1 h z)
    (resume_read X H p w.1 n.1 f b.1 h) (loop_read X own p (start_course p) (start_read X p b.1))
resume_read X H (one (Watching x) p) w n f b h =
    let own : Signals = in_locals p in
    let all : Within own own = λ s. all_in (in_locals p s) in
    present_read X own x b.0 ending (watching_course x (resume_course H p)) own own (leaf Nothing) (one (Watching x) (recovering H p)) all all
    (nothing_read X own) (watching_read X own (recovering H p) (resume_course H p) (resume_read X H p w n f b.1 h) x)
resume_read X H (one Trap p) w n f b h = trap_read X (in_locals p) (recovering H p) (resume_course H p) (resume_read X H p w n f b.1 h)
resume_read X H (one (Signal x) p) w n f b h =
    signal_read X (in_locals p) x b.0 (undeclared (join X (only x)) p b.1) (resume_course H p) (recovering H p)
    (resume_read (join X (only x)) H p w n f b.1 h)
resume_read X H (two Sequence p q) w n f b h =
    sequence_resumed X H p q h (resume_read X H p w.0 n.0 (sequence_left H p q f) b.1)
    (resume_read X H q w.1 n.1 (sequence_right H p q f) b.2) b (active H p) refl
resume_read X H (two (Present x) p q) w n f b h =
    present_resumed X H p q h (resume_read X H p w.0 n.0 (sequence_left H p q f) b.1)
    (resume_read X H q w.1 n.1 (sequence_right H p q f) b.2) (active H p) refl
resume_read X H (two Parallel p q) w n f b h =
    let zp : Bool = active H p in
    let zq : Bool = active H q in
    let rp : (E : Signals) → Run X (in_locals p) (pick zp (resume E H p) idle) (λ s. pick zp (resume_lives E H p s) false) =
    λ E. side_run X p b.1 E H zp in
    let rq : (E : Signals) → Run X (in_locals q) (pick zq (resume E H q) idle) (λ s. pick zq (resume_lives E H q s) false) =
    λ E. side_run X q b.2 E H zq in
    parallel_read X (in_locals p) (in_locals q) (both p q) (side_course X H p zp) (side_course X H q zq) rp rq (left_in p q) (right_in p q)
    (pick zp (recovering H p) (leaf Nothing)) (pick zq (recovering H q) (leaf Nothing)) (λ E F. separate (rp E) (rq F) b.3)
    (side_read X H p (resume_read X H p w.0 n.0 (parallel_left H p q f) b.1) zp refl)
    (side_read X H q (resume_read X H q w.1 n.1 (parallel_right H p q f) b.2) zq refl)
