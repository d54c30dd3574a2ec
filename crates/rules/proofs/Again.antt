-- What a reaction returns fits again, and so do fresh and a state at rest; a state at rest does nothing and stays at rest.
use mathlib.Core.Path.{◌≡◌, refl, sym, ap, ◌∙◌, subst}
use mathlib.Core.Bool.{Bool, true, false, not, ◌&&◌, ◌||◌, true≢false, false≢true}
use Prim.Native.Nat.{ℕ, zero, suc, ◌+◌, ◌-◌, ◌<◌, ◌≤◌}
use native.Mathlib.Omega.{arith}
use borrow.Author.Tests.{eq-eqb}
use Rattle.number.specs.declared.SignalNo.{SignalNo}
use Rattle.number.specs.declared.HaltNo.{HaltNo}
use Rattle.number.specs.Counts.{halt_no, of_halt, stmt_no}
use Rattle.number.specs.Number.{pick}
use Rattle.sheet.specs.declared.Leaf.TheVariants.{Nothing, Halt, Emit, Exit}
use Rattle.sheet.specs.declared.Unary.{Unary}
use Rattle.sheet.specs.declared.Unary.TheVariants.{Loop, Watching, Trap, Signal}
use Rattle.sheet.specs.declared.Binary.{Binary}
use Rattle.sheet.specs.declared.Binary.TheVariants.{Sequence, Present, Parallel}
use Rattle.sheet.specs.Stmt.{Stmt, leaf, one, two, halt_count}
use Rattle.sheet.specs.Rows.{halts_on}
use Rattle.sheet.specs.Form.{Proper}
use Rattle.sheet.proofs.Notions.{Numbered, Exits, in_halts, halt_within, proper_numbered, proper_exits}
use Rattle.sets.specs.Codes.{same, empty, join, larger, caught}
use Rattle.sets.specs.Static.{K, R}
use Rattle.sets.specs.Faults.{instant}
use Rattle.number.proofs.Bools.{taut, and_both, and_left, and_right, or_left, or_right, or_none}
use Rattle.limits.specs.Limits.{max_halts}
use Rattle.bits.specs.Bits.{boot, halt_bit, no_bits}
use Rattle.bits.proofs.NoBits.{no_bits_lem, bit_off}
use Rattle.rules.specs.Rules.{Signals, Halts, Outcome, idle, only_halt, then_on, followed, kept, start, active, resume}
use Rattle.rules.specs.States.{State, halts_of, fresh, react, next_state, no_halts_from, may_end, apart, fits, at_rest}
use Rattle.rules.proofs.Codes.{NoInstant, no_instant, start_in_k, resume_in_r, sequence_left, sequence_right, parallel_left, parallel_right}
use Rattle.rules.proofs.Codes.{right_ends, left_ends}
use Rattle.std.specs.Prelude.{None}

-- H has those of t's halts that A has
abbrev pub On : Stmt → Halts → Halts → Type 0
On t H A = (h : HaltNo) → in_halts t h ≡ true → H h ≡ A h

module _ (b : Binary) (p q : Stmt) (H A : Halts) where
  pub on_left : On (two b p q) H A → On p H A
  unfolding in_halts
  on_left f h e = f h (or_left (in_halts p h) (in_halts q h) e)

  pub on_right : On (two b p q) H A → On q H A
  unfolding in_halts
  on_right f h e = f h (or_right (in_halts p h) (in_halts q h) e)

-- where none of its halts is set, t is not active, and nothing is to be kept apart
pub none : (H : Halts) (t : Stmt) → On t H empty → active H t ≡ false
unfolding active in_halts
none H (leaf Nothing) f = refl
none H (leaf (Halt k)) f = f k (eq-eqb (of_halt k) (of_halt k) refl)
none H (leaf (Emit s)) f = refl
none H (leaf (Exit k)) f = refl
none H (one u p) f = none H p f
none H (two b p q) f = or_none (active H p) (active H q) (none H p (on_left b p q H empty f)) (none H q (on_right b p q H empty f))

not_both : (p q x y : Bool) → p ≡ false → x ≡ true → y ≡ true → (not (p && q) && (x && y)) ≡ true
not_both = taut 4 3 _ _ _ tt

neither : (p q e f x y : Bool) → p ≡ false → q ≡ false → x ≡ true → y ≡ true
    → ((not p || (q || e)) && ((not q || (p || f)) && (x && y))) ≡ true
neither = taut 6 4 _ _ _ tt

apart_none : (b : Binary) (H : Halts) (p q : Stmt) → active H p ≡ false → active H q ≡ false → apart H p ≡ true → apart H q ≡ true
    → apart H (two b p q) ≡ true
unfolding apart
apart_none Sequence H p q hp hq x y = not_both (active H p) (active H q) (apart H p) (apart H q) hp x y
apart_none (Present s) H p q hp hq x y = not_both (active H p) (active H q) (apart H p) (apart H q) hp x y
apart_none Parallel H p q hp hq x y = neither (active H p) (active H q) (may_end q) (may_end p) (apart H p) (apart H q) hp hq x y

none_apart : (H : Halts) (t : Stmt) → On t H empty → apart H t ≡ true
unfolding apart in_halts
none_apart H (leaf l) f = refl
none_apart H (one u p) f = none_apart H p f
none_apart H (two b p q) f =
    let left : On p H empty = on_left b p q H empty f in
    let right : On q H empty = on_right b p q H empty f in
    apart_none b H p q (none H p left) (none H q right) (none_apart H p left) (none_apart H q right)

-- What a run of t with the code c and the halts A leaves: only halts of t; one of them exactly with code 1; kept apart.
record Good (t : Stmt) (c : ℕ) (A : Halts) : Type 0 where
  own : (h : HaltNo) → (A h && not (in_halts t h)) ≡ false
  active' : (H : Halts) → On t H A → active H t ≡ same c 1
  apart' : (H : Halts) → On t H A → apart H t ≡ true

abbrev GoodRun : Stmt → Outcome → Type 0
GoodRun t o = Good t o.code o.halts

idle_good : (t : Stmt) (c : ℕ) → same c 1 ≡ false → Good t c empty
idle_good t c e = record { own = λ h. refl; active' = λ H f. none H t f ∙ sym e; apart' = λ H f. none_apart H t f }

-- no halt has a number on both sides
abbrev pub Disjoint : Stmt → Stmt → Type 0
Disjoint p q = (h : HaltNo) → (in_halts p h && in_halts q h) ≡ false

pub sides_disjoint : (a : HaltNo) (p q : Stmt) → Numbered a p → Numbered (halts_on a (halt_count p)) q → Disjoint p q
sides_disjoint a p q x y h = go (in_halts p h) refl (in_halts q h) refl
  where
    go : (l : Bool) → in_halts p h ≡ l → (r : Bool) → in_halts q h ≡ r → (l && r) ≡ false
    go true l true r =
        let before = halt_within a p x h l in
        let after = halt_within (halts_on a (halt_count p)) q y h r in
        absurd (omega (arith, before.1, after.0))
    go true l false r = refl
    go false l r' r = refl

pub off_side : (a p q : Bool) → (a && not p) ≡ false → (p && q) ≡ false → q ≡ true → a ≡ false
off_side = taut 3 3 _ _ _ tt

pub swap : (p q : Bool) → (p && q) ≡ false → (q && p) ≡ false
swap = taut 2 1 _ _ _ tt

pub own_left : (a p q : Bool) → (a && not p) ≡ false → (a && not (p || q)) ≡ false
own_left = taut 3 1 _ _ _ tt

pub own_right : (a p q : Bool) → (a && not q) ≡ false → (a && not (p || q)) ≡ false
own_right = taut 3 1 _ _ _ tt

one_side : (x y c : Bool) → x ≡ c → y ≡ false → (x || y) ≡ c
one_side = taut 3 2 _ _ _ tt

other_side : (x y c : Bool) → x ≡ false → y ≡ c → (x || y) ≡ c
other_side = taut 3 2 _ _ _ tt

left_alone : (p q x y : Bool) → q ≡ false → x ≡ true → y ≡ true → (not (p && q) && (x && y)) ≡ true
left_alone = taut 4 3 _ _ _ tt

-- a sequence or present of which one side has run
module _ (p q : Stmt) (disjoint : Disjoint p q) (c : ℕ) (A : Halts) where
  off_right : Good p c A → (H : Halts) → On q H A → On q H empty
  off_right g H f h e = f h e ∙ off_side (A h) (in_halts p h) (in_halts q h) (g.own h) (disjoint h) e

  off_left : Good q c A → (H : Halts) → On p H A → On p H empty
  off_left g H f h e = f h e ∙ off_side (A h) (in_halts q h) (in_halts p h) (g.own h) (swap (in_halts p h) (in_halts q h) (disjoint h)) e

  sequence_good_left : Good p c A → Good (two Sequence p q) c A
  unfolding active apart in_halts
  sequence_good_left g =
      record {
        own = λ h. own_left (A h) (in_halts p h) (in_halts q h) (g.own h);
        active' = λ H f. one_side (active H p) (active H q) (same c 1) (g.active' H (on_left Sequence p q H A f)) (quiet H f);
        apart' =
            λ H f. left_alone (active H p) (active H q) (apart H p) (apart H q) (quiet H f) (g.apart' H (on_left Sequence p q H A f))
            (none_apart H q (off H f));
      }
    where
      off : (H : Halts) → On (two Sequence p q) H A → On q H empty
      off H f = off_right g H (on_right Sequence p q H A f)

      quiet : (H : Halts) → On (two Sequence p q) H A → active H q ≡ false
      quiet H f = none H q (off H f)

  sequence_good_right : Good q c A → Good (two Sequence p q) c A
  unfolding active apart in_halts
  sequence_good_right g =
      record {
        own = λ h. own_right (A h) (in_halts p h) (in_halts q h) (g.own h);
        active' = λ H f. other_side (active H p) (active H q) (same c 1) (quiet H f) (g.active' H (on_right Sequence p q H A f));
        apart' =
            λ H f. not_both (active H p) (active H q) (apart H p) (apart H q) (quiet H f) (none_apart H p (off H f))
            (g.apart' H (on_right Sequence p q H A f));
      }
    where
      off : (H : Halts) → On (two Sequence p q) H A → On p H empty
      off H f = off_left g H (on_left Sequence p q H A f)

      quiet : (H : Halts) → On (two Sequence p q) H A → active H p ≡ false
      quiet H f = none H p (off H f)

  -- a present has the halts and the conditions of a sequence
  present_good : (s : SignalNo) → Good (two Sequence p q) c A → Good (two (Present s) p q) c A
  unfolding active apart in_halts
  present_good s g = record { own = g.own; active' = g.active'; apart' = g.apart' }

followed_good : (p q : Stmt) (x y : Outcome) → Disjoint p q → GoodRun p x → GoodRun q y → GoodRun (two Sequence p q) (followed x y)
followed_good p q x y disjoint gp gq = go x.code
  where
    go : (k : ℕ) → GoodRun (two Sequence p q) (then_on k x y)
    go zero = sequence_good_right p q disjoint y.code y.halts gq
    go (suc k) = sequence_good_left p q disjoint x.code x.halts gp

-- a loop that goes round
again_good : (p : Stmt) (x y : Outcome) → GoodRun p x → GoodRun p y → GoodRun p (followed x y)
again_good p x y gx gy = go x.code
  where
    go : (k : ℕ) → GoodRun p (then_on k x y)
    go zero = gy
    go (suc k) = gx

pick_good : (t : Stmt) (b : Bool) (x y : Outcome) → (b ≡ true → GoodRun t x) → (b ≡ false → GoodRun t y) → GoodRun t (pick b x y)
unfolding pick
pick_good t true x y f g = f refl
pick_good t false x y f g = g refl

chosen_good : (p q : Stmt) (s : SignalNo) → Disjoint p q → (b : Bool) (x y : Outcome) → (b ≡ true → GoodRun p x) → (b ≡ false → GoodRun q y)
    → GoodRun (two (Present s) p q) (pick b x y)
unfolding pick
chosen_good p q s disjoint true x y f g =
    present_good p q disjoint x.code x.halts s (sequence_good_left p q disjoint x.code x.halts (f refl))
chosen_good p q s disjoint false x y f g =
    present_good p q disjoint y.code y.halts s (sequence_good_right p q disjoint y.code y.halts (g refl))

-- a statement with one part has the halts and the conditions of the part
one_good : (u : Unary) (p : Stmt) (c c' : ℕ) (A : Halts) → same c 1 ≡ same c' 1 → Good p c A → Good (one u p) c' A
unfolding active apart in_halts
one_good u p c c' A e g = record { own = g.own; active' = λ H f. g.active' H f ∙ e; apart' = g.apart' }

caught_one : (c : ℕ) → same c 1 ≡ same (caught c) 1
caught_one zero = refl
caught_one (suc zero) = refl
caught_one (suc (suc zero)) = refl
caught_one (suc (suc (suc c))) = refl

-- a parallel, whose sides may end where they do
pub own_both : (a b p q : Bool) → (a && not p) ≡ false → (b && not q) ≡ false → ((a || b) && not (p || q)) ≡ false
own_both = taut 4 2 _ _ _ tt

kept_apart : (p q e f x y : Bool) → (q ≡ false → e ≡ true) → (p ≡ false → f ≡ true) → x ≡ true → y ≡ true
    → ((not p || (q || e)) && ((not q || (p || f)) && (x && y))) ≡ true
kept_apart p true e f x y er el hx hy = side p (el)
  where
    side : (p : Bool) → (p ≡ false → f ≡ true) → ((not p || (true || e)) && ((not true || (p || f)) && (x && y))) ≡ true
    side true el = rw (hx, hy)
    side false el = rw (el refl, hx, hy)
kept_apart true false e f x y er el hx hy = rw (er refl, hx, hy)
kept_apart false false e f x y er el hx hy = rw (hx, hy)

pub drop_right : (a b : Bool) → b ≡ false → (a || b) ≡ a
drop_right = taut 2 1 _ _ _ tt

pub drop_left : (a b : Bool) → a ≡ false → (a || b) ≡ b
drop_left = taut 2 1 _ _ _ tt

-- a code that is at most 1, and not 1, is 0
ended : (c : ℕ) → (same c 0 || same c 1) ≡ true → same c 1 ≡ false → c ≡ 0
ended zero r o = refl
ended (suc zero) r o = absurd (true≢false o)
ended (suc (suc c)) r o = absurd (false≢true r)

module _ (p q : Stmt) (disjoint : Disjoint p q) (A B : Halts) where
  joined_good : (a b : ℕ) → (a ≡ 0 → may_end p ≡ true) → (b ≡ 0 → may_end q ≡ true) → (same a 0 || same a 1) ≡ true
      → (same b 0 || same b 1) ≡ true → same (larger a b) 1 ≡ (same a 1 || same b 1) → Good p a A → Good q b B
      → Good (two Parallel p q) (larger a b) (join A B)
  unfolding active apart in_halts
  joined_good a b ends_p ends_q few few' e gp gq =
      record {
        own = λ h. own_both (A h) (B h) (in_halts p h) (in_halts q h) (gp.own h) (gq.own h);
        active' = λ H f. rw (hp H f, hq H f) (sym e);
        apart' =
            λ H f. kept_apart (active H p) (active H q) (may_end q) (may_end p) (apart H p) (apart H q)
            (λ r. ends_q (ended b few' (sym (hq H f) ∙ r))) (λ l. ends_p (ended a few (sym (hp H f) ∙ l)))
            (gp.apart' H (onp H f)) (gq.apart' H (onq H f));
      }
    where
      onp : (H : Halts) → On (two Parallel p q) H (join A B) → On p H A
      onp H f h e =
          on_left Parallel p q H (join A B) f h e
          ∙ drop_right (A h) (B h) (off_side (B h) (in_halts q h) (in_halts p h) (gq.own h)
          (swap (in_halts p h) (in_halts q h) (disjoint h)) e)

      onq : (H : Halts) → On (two Parallel p q) H (join A B) → On q H B
      onq H f h e =
          on_right Parallel p q H (join A B) f h e
          ∙ drop_left (A h) (B h) (off_side (A h) (in_halts p h) (in_halts q h) (gp.own h) (disjoint h) e)

      hp : (H : Halts) → On (two Parallel p q) H (join A B) → active H p ≡ same a 1
      hp H f = gp.active' H (onp H f)

      hq : (H : Halts) → On (two Parallel p q) H (join A B) → active H q ≡ same b 1
      hq H f = gq.active' H (onq H f)

  beside_good : (a b : ℕ) → (a ≡ 0 → may_end p ≡ true) → (b ≡ 0 → may_end q ≡ true) → Good p a A → Good q b B
      → Good (two Parallel p q) (larger a b) (kept (larger a b) (join A B))
  beside_good zero zero x y gp gq = joined_good 0 0 x y refl refl refl gp gq
  beside_good zero (suc zero) x y gp gq = joined_good 0 1 x y refl refl refl gp gq
  beside_good zero (suc (suc b)) x y gp gq = idle_good (two Parallel p q) (suc (suc b)) refl
  beside_good (suc zero) zero x y gp gq = joined_good 1 0 x y refl refl refl gp gq
  beside_good (suc zero) (suc zero) x y gp gq = joined_good 1 1 x y refl refl refl gp gq
  beside_good (suc zero) (suc (suc b)) x y gp gq = idle_good (two Parallel p q) (suc (suc b)) refl
  beside_good (suc (suc a)) zero x y gp gq = idle_good (two Parallel p q) (suc (suc a)) refl
  beside_good (suc (suc a)) (suc zero) x y gp gq = idle_good (two Parallel p q) (suc (suc a)) refl
  beside_good (suc (suc a)) (suc (suc b)) x y gp gq = idle_good (two Parallel p q) (suc (suc (larger a b))) refl

halt_good : (k : HaltNo) → Good (leaf (Halt k)) 1 (only_halt k)
unfolding active apart in_halts
halt_good k =
    record {
      own = λ h. itself (only_halt k h);
      active' = λ H f. f k self ∙ self;
      apart' = λ H f. refl;
    }
  where
    itself : (a : Bool) → (a && not a) ≡ false
    itself = taut 1 0 _ _ _ tt

    self : only_halt k k ≡ true
    self = eq-eqb (of_halt k) (of_halt k) refl

-- an exit's level is not 1
exit_level : (k : ℕ) → 2 ≤ k → same k 1 ≡ false
exit_level zero l = refl
exit_level (suc zero) l = absurd (omega arith)
exit_level (suc (suc k)) l = refl

start_ends : (E : Signals) (t : Stmt) → NoInstant t → (start E t).code ≡ 0 → may_end t ≡ true
start_ends E t w e = or_left (K t 0) (R t 0) (subst (λ (c : ℕ). K t c ≡ true) e (start_in_k E t w))

start_good : (d : ℕ) (E : Signals) (a : HaltNo) (t : Stmt) → Exits d t → NoInstant t → Numbered a t → GoodRun t (start E t)
unfolding start Exits NoInstant Numbered
start_good d E a (leaf Nothing) x w n = idle_good (leaf Nothing) 0 refl
start_good d E a (leaf (Halt k)) x w n = halt_good k
start_good d E a (leaf (Emit s)) x w n = idle_good (leaf (Emit s)) 0 refl
start_good d E a (leaf (Exit k)) x w n = idle_good (leaf (Exit k)) k (exit_level k x.0)
start_good d E a (one Loop p) x w n = one_good Loop p _ _ _ refl (start_good d E a p x.1 w.1 n)
start_good d E a (one (Watching s) p) x w n = one_good (Watching s) p _ _ _ refl (start_good d E a p x.1 w n)
start_good d E a (one Trap p) x w n = one_good Trap p _ _ _ (caught_one (start E p).code) (start_good (d + 1) E a p x.1 w n)
start_good d E a (one (Signal s) p) x w n = one_good (Signal s) p _ _ _ refl (start_good d E a p x.1 w n)
start_good d E a (two Sequence p q) x w n =
    followed_good p q (start E p) (start E q) (sides_disjoint a p q n.0 n.1)
    (start_good d E a p x.0 w.0 n.0) (start_good d E (halts_on a (halt_count p)) q x.1 w.1 n.1)
start_good d E a (two (Present s) p q) x w n =
    chosen_good p q s (sides_disjoint a p q n.0 n.1) (E s) (start E p) (start E q)
    (λ e. start_good d E a p x.0 w.0 n.0) (λ e. start_good d E (halts_on a (halt_count p)) q x.1 w.1 n.1)
start_good d E a (two Parallel p q) x w n =
    beside_good p q (sides_disjoint a p q n.0 n.1) _ _ _ _ (start_ends E p w.0) (start_ends E q w.1)
    (start_good d E a p x.0 w.0 n.0) (start_good d E (halts_on a (halt_count p)) q x.1 w.1 n.1)

-- a side that is resumed ends with a code of R, and one that is not may stand ended
side_ends : (E : Signals) (H : Halts) (t : Stmt) → NoInstant t → apart H t ≡ true → (b : Bool) → active H t ≡ b
    → (active H t ≡ false → may_end t ≡ true) → (pick b (resume E H t) idle).code ≡ 0 → may_end t ≡ true
unfolding pick
side_ends E H t w f true e other z = or_right (K t 0) (R t 0) (subst (λ (c : ℕ). R t c ≡ true) z (resume_in_r E H t w f e))
side_ends E H t w f false e other z = other e

only_left : (a b : Bool) → (a || b) ≡ true → b ≡ false → a ≡ true
only_left = taut 2 2 _ _ _ tt

pub only_right : (a b : Bool) → (a || b) ≡ true → a ≡ false → b ≡ true
only_right = taut 2 2 _ _ _ tt

resume_good : (d : ℕ) (E : Signals) (H : Halts) (a : HaltNo) (t : Stmt) → Exits d t → NoInstant t → Numbered a t → apart H t ≡ true
    → active H t ≡ true → GoodRun t (resume E H t)
unfolding resume active apart Exits NoInstant Numbered
resume_good d E H a (leaf Nothing) x w n f h = idle_good (leaf Nothing) 0 refl
resume_good d E H a (leaf (Halt k)) x w n f h = halt_good k
resume_good d E H a (leaf (Emit s)) x w n f h = idle_good (leaf (Emit s)) 0 refl
resume_good d E H a (leaf (Exit k)) x w n f h = idle_good (leaf (Exit k)) 0 refl
resume_good d E H a (one Loop p) x w n f h =
    one_good Loop p _ _ _ refl
    (again_good p (resume E H p) (start E p) (resume_good d E H a p x.1 w.1 n f h) (start_good d E a p x.1 w.1 n))
resume_good d E H a (one (Watching s) p) x w n f h =
    one_good (Watching s) p _ _ _ refl
    (pick_good p (E s) idle (resume E H p) (λ e. idle_good p 0 refl) (λ e. resume_good d E H a p x.1 w n f h))
resume_good d E H a (one Trap p) x w n f h =
    one_good Trap p _ _ _ (caught_one (resume E H p).code) (resume_good (d + 1) E H a p x.1 w n f h)
resume_good d E H a (one (Signal s) p) x w n f h = one_good (Signal s) p _ _ _ refl (resume_good d E H a p x.1 w n f h)
resume_good d E H a (two Sequence p q) x w n f h =
    let disjoint : Disjoint p q = sides_disjoint a p q n.0 n.1 in
    let a₂ : HaltNo = halts_on a (halt_count p) in
    pick_good (two Sequence p q) (active H p) (followed (resume E H p) (start E q)) (resume E H q)
    (λ e. followed_good p q (resume E H p) (start E q) disjoint
    (resume_good d E H a p x.0 w.0 n.0 (sequence_left H p q f) e) (start_good d E a₂ q x.1 w.1 n.1))
    (λ e. sequence_good_right p q disjoint _ _
    (resume_good d E H a₂ q x.1 w.1 n.1 (sequence_right H p q f) (only_right (active H p) (active H q) h e)))
resume_good d E H a (two (Present s) p q) x w n f h =
    chosen_good p q s (sides_disjoint a p q n.0 n.1) (active H p) (resume E H p) (resume E H q)
    (λ e. resume_good d E H a p x.0 w.0 n.0 (sequence_left H p q f) e)
    (λ e. resume_good d E H (halts_on a (halt_count p)) q x.1 w.1 n.1 (sequence_right H p q f)
    (only_right (active H p) (active H q) h e))
resume_good d E H a (two Parallel p q) x w n f h =
    let fp : apart H p ≡ true = parallel_left H p q f in
    let fq : apart H q ≡ true = parallel_right H p q f in
    beside_good p q (sides_disjoint a p q n.0 n.1) _ _ _ _
    (side_ends E H p w.0 fp (active H p) refl (λ e. left_ends H p q f (only_right (active H p) (active H q) h e) e))
    (side_ends E H q w.1 fq (active H q) refl (λ e. right_ends H p q f (only_left (active H p) (active H q) h e) e))
    (pick_good p (active H p) (resume E H p) idle (λ e. resume_good d E H a p x.0 w.0 n.0 fp e) (λ e. idle_good p 0 refl))
    (pick_good q (active H q) (resume E H q) idle
    (λ e. resume_good d E H (halts_on a (halt_count p)) q x.1 w.1 n.1 fq e) (λ e. idle_good q 0 refl))

-- bits of the next state past the halts are off
next_off : (t : Stmt) (o : Outcome) → GoodRun t o → Numbered (halt_no 0) t → (j : ℕ) → halt_bit (halt_no (halt_count t)) ≤ j
    → next_state o j ≡ false
next_off t o g n zero l = absurd (omega arith)
next_off t o g n (suc h) l = go (in_halts t (halt_no h)) refl (g.own (halt_no h))
  where
    go : (b : Bool) → in_halts t (halt_no h) ≡ b → (o.halts (halt_no h) && not b) ≡ false → o.halts (halt_no h) ≡ false
    go true e w = let inside = halt_within (halt_no 0) t n (halt_no h) e in absurd (omega (arith, inside.1))
    go false e w = off (o.halts (halt_no h)) w
      where
        off : (a : Bool) → (a && not false) ≡ false → a ≡ false
        off = taut 1 1 _ _ _ tt

pub next_halts : (o : Outcome) (h : HaltNo) → halts_of (next_state o) h ≡ o.halts h
next_halts o h = let bit : halt_bit h ≡ suc (of_halt h) = omega arith in ap (next_state o) bit

good_fits : (t : Stmt) (o : Outcome) → GoodRun t o → Numbered (halt_no 0) t → fits (next_state o) t ≡ true
unfolding fits pick
good_fits t o g n =
    and_both (no_halts_from (halt_count t) (next_state o)) (apart (halts_of (next_state o)) t)
    (no_bits_lem (max_halts - halt_count t) (halt_bit (halt_no (halt_count t))) (next_state o) (λ j l r. next_off t o g n j l))
    (g.apart' (halts_of (next_state o)) (λ h e. next_halts o h))

-- a state that fits and has boot on
pub booted_apart : (S : State) (t : Stmt) → fits S t ≡ true → S boot ≡ true → apart (halts_of S) t ≡ true
unfolding fits pick
booted_apart S t f on = and_right (no_halts_from (halt_count t) S) (apart (halts_of S) t) (rw on at f)

-- A sheet that was read and that INSTANT does not refuse: what a reaction returns fits again.
pub fits_again : {i o : ℕ} {t : Stmt} → Proper i o t → instant (stmt_no 0) t ≡ None
    → (E : Signals) (S : State) → fits S t ≡ true → fits (next_state (react E S t)) t ≡ true
unfolding react
fits_again {t = t} proper clear E S f =
    let H : Halts = halts_of S in
    let x : Exits 0 t = proper_exits proper in
    let w : NoInstant t = no_instant (stmt_no 0) t clear in
    let n : Numbered (halt_no 0) t = proper_numbered proper in
    good_fits t (react E S t)
    (pick_good t (S boot) (pick (active H t) (resume E H t) idle) (start E t)
    (λ on. pick_good t (active H t) (resume E H t) idle
    (λ e. resume_good 0 E H (halt_no 0) t x w n (booted_apart S t f on) e) (λ e. idle_good t 0 refl))
    (λ off. start_good 0 E (halt_no 0) t x w n))
    n

pub fits_fresh : (t : Stmt) → fits fresh t ≡ true
unfolding fits pick no_bits
fits_fresh t = refl

-- No halt set: none of the statement's halts is, and nothing is to be kept apart.
module _ {i o : ℕ} {t : Stmt} (proper : Proper i o t) (S : State) (quiet : no_halts_from 0 S ≡ true) where
  halts_off : On t (halts_of S) empty
  halts_off h e =
      let inside = halt_within (halt_no 0) t (proper_numbered proper) h e in
      bit_off max_halts (halt_bit (halt_no 0)) S quiet (halt_bit h) (omega arith) (omega (arith, inside.1, proper.halts))

  pub quiet_inactive : active (halts_of S) t ≡ false
  quiet_inactive = none (halts_of S) t halts_off

  pub quiet_apart : apart (halts_of S) t ≡ true
  quiet_apart = none_apart (halts_of S) t halts_off

-- A next state has boot on, so whether it is at rest is whether it has a halt.
pub next_rest : (a : Outcome) → at_rest (next_state a) ≡ no_halts_from 0 (next_state a)
unfolding at_rest
next_rest a = refl

-- At rest nothing is done, and the next state is at rest.
module _ {i o : ℕ} {t : Stmt} (proper : Proper i o t) (S : State) (rest : at_rest S ≡ true) where
  on : S boot ≡ true
  unfolding at_rest
  on = and_left (S boot) (no_halts_from 0 S) rest

  quiet : no_halts_from 0 S ≡ true
  unfolding at_rest
  quiet = and_right (S boot) (no_halts_from 0 S) rest

  pub rest_idle : (E : Signals) → react E S t ≡ idle
  unfolding react pick
  rest_idle E = rw (on, quiet_inactive proper S quiet)

  pub rest_fits : fits S t ≡ true
  unfolding fits pick
  rest_fits =
      let from : ℕ = halt_bit (halt_no (halt_count t)) in
      let off : (j : ℕ) → from ≤ j → j < from + (max_halts - halt_count t) → S j ≡ false =
      λ j l r. bit_off max_halts (halt_bit (halt_no 0)) S quiet j (omega arith) (omega (arith, proper.halts)) in
      let past = no_bits_lem (max_halts - halt_count t) from S off in
      rw on (and_both (no_halts_from (halt_count t) S) (apart (halts_of S) t) past (quiet_apart proper S quiet))

  pub rest_stays : (E : Signals) → at_rest (next_state (react E S t)) ≡ true
  rest_stays E = rw (rest_idle E, next_rest idle) (no_bits_lem max_halts (halt_bit (halt_no 0)) (next_state idle) off)
    where
      off : (j : ℕ) → halt_bit (halt_no 0) ≤ j → j < halt_bit (halt_no 0) + max_halts → next_state idle j ≡ false
      off zero l r = absurd (omega arith)
      off (suc j) l r = refl
