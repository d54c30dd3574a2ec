-- The local signals that live in an instant, those whose statement is started or resumed; and that none lives twice, which the signal half of TWICE is for.
use mathlib.Core.Path.{◌≡◌, refl, sym, ◌∙◌, subst}
use mathlib.Core.Bool.{Bool, true, false, not, ◌&&◌, ◌||◌, true≢false, false≢true, or-false}
use Prim.Native.Nat.{ℕ, zero, suc}
use Rattle.number.specs.declared.SignalNo.{SignalNo}
use Rattle.number.specs.Number.{pick}
use Rattle.number.proofs.Bools.{taut, or_left, or_right, or_cases, both_off, and_left, and_right}
use Rattle.sheet.specs.declared.Leaf.TheVariants.{Nothing, Halt, Emit, Exit}
use Rattle.sheet.specs.declared.Unary.TheVariants.{Loop, Watching, Trap, Signal}
use Rattle.sheet.specs.declared.Binary.TheVariants.{Sequence, Present, Parallel}
use Rattle.sheet.specs.Stmt.{Stmt, leaf, one, two}
use Rattle.sheet.specs.Read.{only}
use Rattle.sets.specs.Codes.{Codes, same, empty, join, when, replaced, less0, caught, caught_codes}
use Rattle.sets.specs.Static.{K, R}
use Rattle.rules.specs.Rules.{Signals, Halts, Outcome, idle, then_on, followed, start, active, resume}
use Rattle.rules.specs.States.{apart}
use Rattle.rules.proofs.Codes.{NoInstant, start_in_k, resume_in_r, replaced_in, caught_in, less0_in, sequence_left, sequence_right}
use Rattle.rules.proofs.Again.{own_both, only_right}
use Rattle.agreement.proofs.Runs.{followed_emits}
use Rattle.berry.proofs.Scopes.{declared, in_locals, Bound, only_in}
use Rattle.berry.proofs.Tests.{more_in}
use Rattle.agreement.proofs.Restarts.{Redo, NoRestart}

-- the signals that live when t is started ..
unfoldable pub start_lives : Signals → Stmt → Signals
unfolding start pick
start_lives E (leaf l) s = false
start_lives E (one u p) s = declared u s || start_lives E p s
start_lives E (two Sequence p q) s = start_lives E p s || (same (start E p).code 0 && start_lives E q s)
start_lives E (two (Present x) p q) s = pick (E x) (start_lives E p s) (start_lives E q s)
start_lives E (two Parallel p q) s = start_lives E p s || start_lives E q s

-- .. and when it is resumed
unfoldable pub resume_lives : Signals → Halts → Stmt → Signals
unfolding start resume active start_lives pick
resume_lives E H (leaf l) s = false
resume_lives E H (one Loop p) s = resume_lives E H p s || (same (resume E H p).code 0 && start_lives E p s)
resume_lives E H (one (Watching x) p) s = pick (E x) false (resume_lives E H p s)
resume_lives E H (one Trap p) s = resume_lives E H p s
resume_lives E H (one (Signal x) p) s = only x s || resume_lives E H p s
resume_lives E H (two Sequence p q) s =
    pick (active H p) (resume_lives E H p s || (same (resume E H p).code 0 && start_lives E q s)) (resume_lives E H q s)
resume_lives E H (two (Present x) p q) s = pick (active H p) (resume_lives E H p s) (resume_lives E H q s)
resume_lives E H (two Parallel p q) s = pick (active H p) (resume_lives E H p s) false || pick (active H q) (resume_lives E H q s) false

-- What lives is declared.
then_in : (a c b x y : Bool) → (a && not x) ≡ false → (b && not y) ≡ false → ((a || (c && b)) && not (x || y)) ≡ false
then_in = taut 5 2 _ _ _ tt

again_in : (a c b x : Bool) → (a && not x) ≡ false → (b && not x) ≡ false → ((a || (c && b)) && not x) ≡ false
again_in = taut 4 2 _ _ _ tt

pick_in : (e a b x y : Bool) → (a && not x) ≡ false → (b && not y) ≡ false → (pick e a b && not (x || y)) ≡ false
unfolding pick
pick_in = taut 5 2 _ _ _ tt

idle_in : (e f a b x y : Bool) → (a && not x) ≡ false → (b && not y) ≡ false → ((pick e a false || pick f b false) && not (x || y)) ≡ false
unfolding pick
idle_in = taut 6 2 _ _ _ tt

guard_in : (e a x : Bool) → (a && not x) ≡ false → (pick e false a && not x) ≡ false
unfolding pick
guard_in = taut 3 1 _ _ _ tt

resumed_in : (e a c b r x y : Bool) → (a && not x) ≡ false → (b && not y) ≡ false → (r && not y) ≡ false
    → (pick e (a || (c && b)) r && not (x || y)) ≡ false
unfolding pick
resumed_in = taut 7 3 _ _ _ tt

pub start_own : (E : Signals) (t : Stmt) (s : SignalNo) → (start_lives E t s && not (in_locals t s)) ≡ false
unfolding start_lives in_locals
start_own E (leaf l) s = refl
start_own E (one u p) s = more_in (declared u s) (start_lives E p s) (in_locals p s) (start_own E p s)
start_own E (two Sequence p q) s =
    then_in (start_lives E p s) (same (start E p).code 0) (start_lives E q s) (in_locals p s) (in_locals q s) (start_own E p s) (start_own E q s)
start_own E (two (Present x) p q) s =
    pick_in (E x) (start_lives E p s) (start_lives E q s) (in_locals p s) (in_locals q s) (start_own E p s) (start_own E q s)
start_own E (two Parallel p q) s = own_both (start_lives E p s) (start_lives E q s) (in_locals p s) (in_locals q s) (start_own E p s) (start_own E q s)

pub resume_own : (E : Signals) (H : Halts) (t : Stmt) (s : SignalNo) → (resume_lives E H t s && not (in_locals t s)) ≡ false
unfolding resume_lives in_locals
resume_own E H (leaf l) s = refl
resume_own E H (one Loop p) s =
    again_in (resume_lives E H p s) (same (resume E H p).code 0) (start_lives E p s) (in_locals p s) (resume_own E H p s) (start_own E p s)
resume_own E H (one (Watching x) p) s = guard_in (E x) (resume_lives E H p s) (in_locals p s) (resume_own E H p s)
resume_own E H (one Trap p) s = resume_own E H p s
resume_own E H (one (Signal x) p) s = more_in (only x s) (resume_lives E H p s) (in_locals p s) (resume_own E H p s)
resume_own E H (two Sequence p q) s =
    resumed_in (active H p) (resume_lives E H p s) (same (resume E H p).code 0) (start_lives E q s) (resume_lives E H q s) (in_locals p s) (in_locals q s)
    (resume_own E H p s) (start_own E q s) (resume_own E H q s)
resume_own E H (two (Present x) p q) s =
    pick_in (active H p) (resume_lives E H p s) (resume_lives E H q s) (in_locals p s) (in_locals q s) (resume_own E H p s) (resume_own E H q s)
resume_own E H (two Parallel p q) s =
    idle_in (active H p) (active H q) (resume_lives E H p s) (resume_lives E H q s) (in_locals p s) (in_locals q s) (resume_own E H p s) (resume_own E H q s)

-- What is emitted is in scope, or lives.
emits_pick : (b : Bool) (x y : Outcome) (s : SignalNo) → (pick b x y).emits s ≡ pick b (x.emits s) (y.emits s)
unfolding pick
emits_pick true x y s = refl
emits_pick false x y s = refl

then_seen : (a c b x u w : Bool) → (a && not (x || u)) ≡ false → (b && not (x || w)) ≡ false → ((a || (c && b)) && not (x || (u || (c && w)))) ≡ false
then_seen = taut 6 2 _ _ _ tt

pick_seen : (e a b x u w : Bool) → (a && not (x || u)) ≡ false → (b && not (x || w)) ≡ false → (pick e a b && not (x || pick e u w)) ≡ false
unfolding pick
pick_seen = taut 6 2 _ _ _ tt

sides_seen : (a b x u w : Bool) → (a && not (x || u)) ≡ false → (b && not (x || w)) ≡ false → ((a || b) && not (x || (u || w))) ≡ false
sides_seen = taut 5 2 _ _ _ tt

emit_seen : (m x : Bool) → (m && not x) ≡ false → (m && not (x || false)) ≡ false
emit_seen = taut 2 1 _ _ _ tt

local_seen : (a x m u : Bool) → (a && not ((x || m) || u)) ≡ false → (a && not (x || (m || u))) ≡ false
local_seen = taut 4 1 _ _ _ tt

guard_seen : (e a x u : Bool) → (a && not (x || u)) ≡ false → (pick e false a && not (x || pick e false u)) ≡ false
unfolding pick
guard_seen = taut 4 1 _ _ _ tt

resumed_seen : (e a c b r x u w v : Bool) → (a && not (x || u)) ≡ false → (b && not (x || w)) ≡ false → (r && not (x || v)) ≡ false
    → (pick e (a || (c && b)) r && not (x || pick e (u || (c && w)) v)) ≡ false
unfolding pick
resumed_seen = taut 9 3 _ _ _ tt

idle_seen : (e f a b x u w : Bool) → (a && not (x || u)) ≡ false → (b && not (x || w)) ≡ false
    → ((pick e a false || pick f b false) && not (x || (pick e u false || pick f w false))) ≡ false
unfolding pick
idle_seen = taut 7 2 _ _ _ tt

pub start_seen : (X E : Signals) (t : Stmt) → Bound X t → (s : SignalNo) → ((start E t).emits s && not (X s || start_lives E t s)) ≡ false
unfolding start start_lives Bound
start_seen X E (leaf Nothing) b s = refl
start_seen X E (leaf (Halt h)) b s = refl
start_seen X E (leaf (Emit x)) b s = emit_seen (only x s) (X s) (only_in X x s b)
start_seen X E (leaf (Exit k)) b s = refl
start_seen X E (one Loop p) b s = start_seen X E p b.1 s
start_seen X E (one (Watching x) p) b s = start_seen X E p b.1 s
start_seen X E (one Trap p) b s = start_seen X E p b.1 s
start_seen X E (one (Signal x) p) b s = local_seen ((start E p).emits s) (X s) (only x s) (start_lives E p s) (start_seen (join X (only x)) E p b.1 s)
start_seen X E (two Sequence p q) b s =
    rw (followed_emits (start E p) (start E q) s)
    (then_seen ((start E p).emits s) (same (start E p).code 0) ((start E q).emits s) (X s) (start_lives E p s) (start_lives E q s)
    (start_seen X E p b.1 s) (start_seen X E q b.2 s))
start_seen X E (two (Present x) p q) b s =
    rw (emits_pick (E x) (start E p) (start E q) s)
    (pick_seen (E x) ((start E p).emits s) ((start E q).emits s) (X s) (start_lives E p s) (start_lives E q s)
    (start_seen X E p b.1 s) (start_seen X E q b.2 s))
start_seen X E (two Parallel p q) b s =
    sides_seen ((start E p).emits s) ((start E q).emits s) (X s) (start_lives E p s) (start_lives E q s)
    (start_seen X E p b.1 s) (start_seen X E q b.2 s)

pub resume_seen : (X E : Signals) (H : Halts) (t : Stmt) → Bound X t → (s : SignalNo)
    → ((resume E H t).emits s && not (X s || resume_lives E H t s)) ≡ false
unfolding resume resume_lives Bound
resume_seen X E H (leaf Nothing) b s = refl
resume_seen X E H (leaf (Halt h)) b s = refl
resume_seen X E H (leaf (Emit x)) b s = refl
resume_seen X E H (leaf (Exit k)) b s = refl
resume_seen X E H (one Loop p) b s =
    rw (followed_emits (resume E H p) (start E p) s)
    (then_seen ((resume E H p).emits s) (same (resume E H p).code 0) ((start E p).emits s) (X s) (resume_lives E H p s) (start_lives E p s)
    (resume_seen X E H p b.1 s) (start_seen X E p b.1 s))
resume_seen X E H (one (Watching x) p) b s =
    rw (emits_pick (E x) idle (resume E H p) s)
    (guard_seen (E x) ((resume E H p).emits s) (X s) (resume_lives E H p s) (resume_seen X E H p b.1 s))
resume_seen X E H (one Trap p) b s = resume_seen X E H p b.1 s
resume_seen X E H (one (Signal x) p) b s =
    local_seen ((resume E H p).emits s) (X s) (only x s) (resume_lives E H p s) (resume_seen (join X (only x)) E H p b.1 s)
resume_seen X E H (two Sequence p q) b s =
    rw (emits_pick (active H p) (followed (resume E H p) (start E q)) (resume E H q) s, followed_emits (resume E H p) (start E q) s)
    (resumed_seen (active H p) ((resume E H p).emits s) (same (resume E H p).code 0) ((start E q).emits s) ((resume E H q).emits s) (X s)
    (resume_lives E H p s) (start_lives E q s) (resume_lives E H q s)
    (resume_seen X E H p b.1 s) (start_seen X E q b.2 s) (resume_seen X E H q b.2 s))
resume_seen X E H (two (Present x) p q) b s =
    rw (emits_pick (active H p) (resume E H p) (resume E H q) s)
    (pick_seen (active H p) ((resume E H p).emits s) ((resume E H q).emits s) (X s) (resume_lives E H p s) (resume_lives E H q s)
    (resume_seen X E H p b.1 s) (resume_seen X E H q b.2 s))
resume_seen X E H (two Parallel p q) b s =
    rw (emits_pick (active H p) (resume E H p) idle s, emits_pick (active H q) (resume E H q) idle s)
    (idle_seen (active H p) (active H q) ((resume E H p).emits s) ((resume E H q).emits s) (X s) (resume_lives E H p s) (resume_lives E H q s)
    (resume_seen X E H p b.1 s) (resume_seen X E H q b.2 s))

-- A signal that lives in a resumption, under E, and in a start, under F: the resumption's code is in Redo or K.
abbrev Shared : Stmt → ℕ → Type 0
Shared t c = (Redo t c || K t c) ≡ true

zero_code : (c : ℕ) → same c 0 ≡ true → c ≡ 0
zero_code zero e = refl
zero_code (suc c) e = absurd (false≢true e)

-- r lives on one side, declared as x (or y): so it is on that side that the other run has it too
left_too : (r a c b x y : Bool) → r ≡ true → (r && not x) ≡ false → (b && not y) ≡ false → (x && y) ≡ false → (a || (c && b)) ≡ true → a ≡ true
left_too = taut 6 5 _ _ _ tt

right_too : (r a c b x y : Bool) → r ≡ true → (r && not y) ≡ false → (a && not x) ≡ false → (x && y) ≡ false → (a || (c && b)) ≡ true → (c && b) ≡ true
right_too = taut 6 5 _ _ _ tt

then_too : (r e a b x y : Bool) → r ≡ true → (r && not x) ≡ false → (b && not y) ≡ false → (x && y) ≡ false → pick e a b ≡ true → a ≡ true
unfolding pick
then_too = taut 6 5 _ _ _ tt

else_too : (r e a b x y : Bool) → r ≡ true → (r && not y) ≡ false → (a && not x) ≡ false → (x && y) ≡ false → pick e a b ≡ true → b ≡ true
unfolding pick
else_too = taut 6 5 _ _ _ tt

first_two : (a b c d : Bool) → (a || c) ≡ true → ((a || b) || (c || d)) ≡ true
first_two = taut 4 1 _ _ _ tt

second_two : (a b c d : Bool) → (b || d) ≡ true → ((a || b) || (c || d)) ≡ true
second_two = taut 4 1 _ _ _ tt

-- the codes of a sequence: its left runs, with a code in Redo or K, and its right is started after it ..
module _ (Dp Dq Kp Kq : Codes) where
  left_shared : (x y : Outcome) → (Dp x.code || Kp x.code) ≡ true → Kq y.code ≡ true
      → ((replaced Dp Kq (followed x y).code || Dq (followed x y).code) || replaced Kp Kq (followed x y).code) ≡ true
  left_shared x y e k =
      let c : ℕ = (followed x y).code in
      or_cases (Dp x.code) (Kp x.code)
      (λ d. or_left (replaced Dp Kq c || Dq c) (replaced Kp Kq c) (or_left (replaced Dp Kq c) (Dq c) (replaced_in Dp Kq x y d k)))
      (λ d. or_right (replaced Dp Kq c || Dq c) (replaced Kp Kq c) (replaced_in Kp Kq x y d k)) e

  -- .. or its left may end at once, and its right has a code in Redo or K
  right_shared : (c : ℕ) → Kp 0 ≡ true → (Dq c || Kq c) ≡ true → ((replaced Dp Kq c || (Kp 0 && Dq c)) || replaced Kp Kq c) ≡ true
  right_shared c z e =
      or_cases (Dq c) (Kq c)
      (λ d. or_left (replaced Dp Kq c || (Kp 0 && Dq c)) (replaced Kp Kq c) (or_right (replaced Dp Kq c) (Kp 0 && Dq c) (rw (z, d))))
      (λ d. or_right (replaced Dp Kq c || (Kp 0 && Dq c)) (replaced Kp Kq c) (replaced_in Kp Kq idle (record { emits = empty; code = c; halts = empty }) z d)) e

trap_shared : (D K : Codes) (c : ℕ) → (D c || K c) ≡ true → (caught_codes D (caught c) || caught_codes K (caught c)) ≡ true
trap_shared D K c e =
    or_cases (D c) (K c) (λ d. or_left (caught_codes D (caught c)) (caught_codes K (caught c)) (caught_in D c d))
    (λ d. or_right (caught_codes D (caught c)) (caught_codes K (caught c)) (caught_in K c d)) e

-- a start under F that goes on to q has 0 in K(p)
ends_at_once : (F : Signals) (p : Stmt) (b : Bool) → NoInstant p → (same (start F p).code 0 && b) ≡ true → K p 0 ≡ true
ends_at_once F p b w e =
    subst (λ (c : ℕ). K p c ≡ true) (zero_code (start F p).code (and_left (same (start F p).code 0) b e)) (start_in_k F p w)

module _ (E F : Signals) (H : Halts) (s : SignalNo) where
  -- what is known of a part
  abbrev LivesTwice : Stmt → Type 0
  LivesTwice p = resume_lives E H p s ≡ true → start_lives F p s ≡ true → Shared p (resume E H p).code

  sequence_twice : (p q : Stmt) → NoInstant p → NoInstant q → ((s : SignalNo) → (in_locals p s && in_locals q s) ≡ false)
      → (active H p || active H q) ≡ true → (active H p ≡ true → LivesTwice p) → (active H q ≡ true → LivesTwice q)
      → (start_lives F p s || (same (start F p).code 0 && start_lives F q s)) ≡ true → (z : Bool) → active H p ≡ z
      → pick z (resume_lives E H p s || (same (resume E H p).code 0 && start_lives E q s)) (resume_lives E H q s) ≡ true
      → Shared (two Sequence p q) (pick z (followed (resume E H p) (start E q)) (resume E H q)).code
  unfolding pick Redo K
  sequence_twice p q wp wq different h tp tq u true e r =
      left_shared (Redo p) (when (K p 0) (Redo q)) (K p) (K q) (resume E H p) (start E q)
      (or_cases (resume_lives E H p s) (same c 0 && start_lives E q s) first second r) (start_in_k E q wq)
    where
      c : ℕ
      c = (resume E H p).code

      first : resume_lives E H p s ≡ true → Shared p (resume E H p).code
      first v =
          tp e v (left_too (resume_lives E H p s) (start_lives F p s) (same (start F p).code 0) (start_lives F q s) (in_locals p s) (in_locals q s)
          v (resume_own E H p s) (start_own F q s) (different s) u)

      second : (same (resume E H p).code 0 && start_lives E q s) ≡ true → Shared p (resume E H p).code
      second v =
          let ended : (resume E H p).code ≡ 0 = zero_code (resume E H p).code (and_left (same (resume E H p).code 0) (start_lives E q s) v) in
          let on : start_lives E q s ≡ true = and_right (same (resume E H p).code 0) (start_lives E q s) v in
          let too : (same (start F p).code 0 && start_lives F q s) ≡ true =
          right_too (start_lives E q s) (start_lives F p s) (same (start F p).code 0) (start_lives F q s) (in_locals p s) (in_locals q s)
          on (start_own E q s) (start_own F p s) (different s) u in
          rw ended (or_right (Redo p 0) (K p 0) (ends_at_once F p (start_lives F q s) wp too))
  sequence_twice p q wp wq different h tp tq u false e r =
      let too : (same (start F p).code 0 && start_lives F q s) ≡ true =
      right_too (resume_lives E H q s) (start_lives F p s) (same (start F p).code 0) (start_lives F q s) (in_locals p s) (in_locals q s)
      r (resume_own E H q s) (start_own F p s) (different s) u in
      right_shared (Redo p) (Redo q) (K p) (K q) (resume E H q).code (ends_at_once F p (start_lives F q s) wp too)
      (tq (only_right (active H p) (active H q) h e) r (and_right (same (start F p).code 0) (start_lives F q s) too))

  loop_twice : (p : Stmt) → NoInstant p → K p 0 ≡ false → LivesTwice p → start_lives F p s ≡ true → (k : ℕ) → (resume E H p).code ≡ k
      → (resume_lives E H p s || (same k 0 && start_lives E p s)) ≡ true → Shared (one Loop p) (then_on k (resume E H p) (start E p)).code
  unfolding Redo K
  loop_twice p w none t u zero e r =
      let c : ℕ = (start E p).code in
      or_right (Redo p c) (less0 (K p) c) (less0_in (K p) c none (start_in_k E p w))
  loop_twice p w none t u (suc k) e r = rw e (rw e at (t (rw or-false at r) u))

  present_twice : (x : SignalNo) (p q : Stmt) → ((s : SignalNo) → (in_locals p s && in_locals q s) ≡ false) → (active H p || active H q) ≡ true
      → (active H p ≡ true → LivesTwice p) → (active H q ≡ true → LivesTwice q) → pick (F x) (start_lives F p s) (start_lives F q s) ≡ true
      → (z : Bool) → active H p ≡ z → pick z (resume_lives E H p s) (resume_lives E H q s) ≡ true
      → Shared (two (Present x) p q) (pick z (resume E H p) (resume E H q)).code
  unfolding pick Redo K
  present_twice x p q different h tp tq u true e r =
      let c : ℕ = (resume E H p).code in
      first_two (Redo p c) (Redo q c) (K p c) (K q c)
      (tp e r (then_too (resume_lives E H p s) (F x) (start_lives F p s) (start_lives F q s) (in_locals p s) (in_locals q s)
      r (resume_own E H p s) (start_own F q s) (different s) u))
  present_twice x p q different h tp tq u false e r =
      let c : ℕ = (resume E H q).code in
      second_two (Redo p c) (Redo q c) (K p c) (K q c)
      (tq (only_right (active H p) (active H q) h e) r
      (else_too (resume_lives E H q s) (F x) (start_lives F p s) (start_lives F q s) (in_locals p s) (in_locals q s)
      r (resume_own E H q s) (start_own F p s) (different s) u))

  watching_twice : (p : Stmt) → LivesTwice p → start_lives F p s ≡ true → (z : Bool) → pick z false (resume_lives E H p s) ≡ true
      → Shared p (pick z idle (resume E H p)).code
  unfolding pick
  watching_twice p t u true r = absurd (false≢true r)
  watching_twice p t u false r = t r u

  lives_twice : (X : Signals) (t : Stmt) → NoInstant t → apart H t ≡ true → Bound X t → active H t ≡ true → LivesTwice t
  unfolding resume resume_lives start_lives active NoInstant apart Bound Redo K
  lives_twice X (leaf Nothing) w f b h r u = absurd (false≢true h)
  lives_twice X (leaf (Halt k)) w f b h r u = absurd (false≢true r)
  lives_twice X (leaf (Emit x)) w f b h r u = absurd (false≢true h)
  lives_twice X (leaf (Exit k)) w f b h r u = absurd (false≢true h)
  lives_twice X (one Loop p) w f b h r u = loop_twice p w.1 w.0 (lives_twice X p w.1 f b.1 h) u (resume E H p).code refl r
  lives_twice X (one (Watching x) p) w f b h r u = watching_twice p (lives_twice X p w f b.1 h) u (E x) r
  lives_twice X (one Trap p) w f b h r u = trap_shared (Redo p) (K p) (resume E H p).code (lives_twice X p w f b.1 h r u)
  lives_twice X (one (Signal x) p) w f b h r u =
      let c : ℕ = (resume E H p).code in
      let own : Codes = R (one (Signal x) p) in
      or_left (own c || Redo p c) (K p c) (or_left (own c) (Redo p c) (resume_in_r E H (one (Signal x) p) w f h))
  lives_twice X (two Sequence p q) w f b h r u =
      sequence_twice p q w.0 w.1 b.3 h (lives_twice X p w.0 (sequence_left H p q f) b.1)
      (lives_twice X q w.1 (sequence_right H p q f) b.2) u (active H p) refl r
  lives_twice X (two (Present x) p q) w f b h r u =
      present_twice x p q b.3 h (lives_twice X p w.0 (sequence_left H p q f) b.1)
      (lives_twice X q w.1 (sequence_right H p q f) b.2) u (active H p) refl r
  lives_twice X (two Parallel p q) w f b h r u =
      let c : ℕ = (resume E H (two Parallel p q)).code in
      or_left (R (two Parallel p q) c) (K (two Parallel p q) c) (resume_in_r E H (two Parallel p q) w f h)

-- A loop that goes round starts no signal statement that it has resumed.
pub lives_once : (X E F : Signals) (H : Halts) (p : Stmt) → NoInstant (one Loop p) → NoRestart (one Loop p) → apart H p ≡ true → Bound X p
    → active H p ≡ true → (resume E H p).code ≡ 0 → (s : SignalNo) → (resume_lives E H p s && start_lives F p s) ≡ false
unfolding NoInstant NoRestart
lives_once X E F H p w n f b h e s =
    both_off (resume_lives E H p s) (start_lives F p s) λ r u.
    let shared : (Redo p 0 || K p 0) ≡ true = rw e at (lives_twice E F H s X p w.1 f b h r u) in
    true≢false (sym shared ∙ rw (n.0, w.0))
