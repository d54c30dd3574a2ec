-- Halts come with code 1 and with no other, and codes are at most 1+d, for any E and any state.
use mathlib.Core.Path.{◌≡◌, refl}
use mathlib.Core.Bool.{Bool, true, false, ◌||◌, false≢true}
use Prim.Native.Nat.{ℕ, zero, suc, ◌+◌, ◌≤◌}
use native.Mathlib.Omega.{arith}
use borrow.Author.Tests.{eq-eqb}
use Rattle.number.specs.declared.HaltNo.{HaltNo}
use Rattle.number.specs.Counts.{of_halt}
use Rattle.number.specs.Number.{pick}
use Rattle.number.proofs.Bools.{or_left, or_right}
use Rattle.bits.specs.Bits.{boot}
use Rattle.sheet.specs.declared.Leaf.TheVariants.{Nothing, Halt, Emit, Exit}
use Rattle.sheet.specs.declared.Unary.TheVariants.{Loop, Watching, Trap, Signal}
use Rattle.sheet.specs.declared.Binary.TheVariants.{Sequence, Present, Parallel}
use Rattle.sheet.specs.Stmt.{Stmt, leaf, one, two}
use Rattle.sheet.proofs.Notions.{Exits}
use Rattle.sets.specs.Codes.{empty, join, larger, caught}
use Rattle.rules.specs.Rules.{Signals, Halts, Outcome, idle, only_halt, then_on, followed, kept, trapped, start, active, resume}
use Rattle.rules.specs.States.{State, halts_of, react}

-- a halt of the set H
pub record Halted (H : Halts) : Type 0 where
  pub halt : HaltNo
  pub set : H halt ≡ true

-- with the code c the halts H: some where c is 1, and none elsewhere
pub record Halting (c : ℕ) (H : Halts) : Type 0 where
  pub with_one : (h : HaltNo) → H h ≡ true → c ≡ 1
  pub some : c ≡ 1 → Halted H

abbrev pub HaltsWithOne : Outcome → Type 0
HaltsWithOne o = Halting o.code o.halts

no_halts : (c : ℕ) → (c ≡ 1 → ⊥) → Halting c empty
no_halts c other = record { with_one = λ h e. absurd (false≢true e); some = λ e. absurd (other e) }

one_halt : (k : HaltNo) → Halting 1 (only_halt k)
one_halt k = record { with_one = λ h e. refl; some = λ e. record { halt = k; set = eq-eqb (of_halt k) (of_halt k) refl } }

followed_halting : (x y : Outcome) → HaltsWithOne x → HaltsWithOne y → HaltsWithOne (followed x y)
followed_halting x y p q = go x.code
  where
    go : (k : ℕ) → HaltsWithOne (then_on k x y)
    go zero = q
    go (suc k) = p

pick_halting : (b : Bool) (x y : Outcome) → HaltsWithOne x → HaltsWithOne y → HaltsWithOne (pick b x y)
unfolding pick
pick_halting true x y p q = p
pick_halting false x y p q = q

caught_one : (c : ℕ) → caught c ≡ 1 → c ≡ 1
caught_one zero e = e
caught_one (suc zero) e = refl
caught_one (suc (suc zero)) e = absurd (omega arith)
caught_one (suc (suc (suc c))) e = absurd (omega arith)

trapped_halting : (x : Outcome) → HaltsWithOne x → HaltsWithOne (trapped x)
trapped_halting x p =
    record { with_one = λ h e. let one = p.with_one h e in rw one; some = λ e. p.some (caught_one x.code e) }

module _ (A B : Halts) where
  -- a halt of either side makes the larger code 1, where that is at most 1
  with_either : (a b : ℕ) → larger a b ≤ 1 → Halting a A → Halting b B → (h : HaltNo) → (A h || B h) ≡ true → larger a b ≡ 1
  with_either a b few p q h e = go (A h) refl e
    where
      left : (b : ℕ) → larger 1 b ≤ 1 → larger 1 b ≡ 1
      left zero l = refl
      left (suc zero) l = refl
      left (suc (suc b)) l = absurd (omega arith)

      right : (a : ℕ) → larger a 1 ≤ 1 → larger a 1 ≡ 1
      right zero l = refl
      right (suc zero) l = refl
      right (suc (suc a)) l = absurd (omega arith)

      go : (x : Bool) → A h ≡ x → (x || B h) ≡ true → larger a b ≡ 1
      go true w z = let one = p.with_one h w in rw one (left b (rw one at few))
      go false w z = let one = q.with_one h z in rw one (right a (rw one at few))

  some_left : Halted A → Halted (join A B)
  some_left k = record { halt = k.halt; set = or_left (A k.halt) (B k.halt) k.set }

  some_right : Halted B → Halted (join A B)
  some_right k = record { halt = k.halt; set = or_right (A k.halt) (B k.halt) k.set }

  beside_halting : (a b : ℕ) → Halting a A → Halting b B → Halting (larger a b) (kept (larger a b) (join A B))
  beside_halting zero zero p q = record { with_one = with_either 0 0 (omega arith) p q; some = λ e. some_left (p.some e) }
  beside_halting zero (suc zero) p q = record { with_one = with_either 0 1 (omega arith) p q; some = λ e. some_right (q.some refl) }
  beside_halting zero (suc (suc b)) p q = no_halts (suc (suc b)) (λ e. omega arith)
  beside_halting (suc zero) zero p q = record { with_one = with_either 1 0 (omega arith) p q; some = λ e. some_left (p.some refl) }
  beside_halting (suc zero) (suc zero) p q = record { with_one = with_either 1 1 (omega arith) p q; some = λ e. some_left (p.some refl) }
  beside_halting (suc zero) (suc (suc b)) p q = no_halts (suc (suc b)) (λ e. omega arith)
  beside_halting (suc (suc a)) zero p q = no_halts (suc (suc a)) (λ e. omega arith)
  beside_halting (suc (suc a)) (suc zero) p q = no_halts (suc (suc a)) (λ e. omega arith)
  beside_halting (suc (suc a)) (suc (suc b)) p q = no_halts (suc (suc (larger a b))) (λ e. omega arith)

idle_halting : HaltsWithOne idle
idle_halting = no_halts 0 (λ e. omega arith)

pub start_halting : (d : ℕ) (E : Signals) (t : Stmt) → Exits d t → HaltsWithOne (start E t)
unfolding start Exits
start_halting d E (leaf Nothing) x = idle_halting
start_halting d E (leaf (Halt k)) x = one_halt k
start_halting d E (leaf (Emit s)) x = idle_halting
start_halting d E (leaf (Exit k)) x = no_halts k (λ e. omega (arith, x.0))
start_halting d E (one Loop p) x = start_halting d E p x.1
start_halting d E (one (Watching s) p) x = start_halting d E p x.1
start_halting d E (one Trap p) x = trapped_halting (start E p) (start_halting (d + 1) E p x.1)
start_halting d E (one (Signal s) p) x = start_halting d E p x.1
start_halting d E (two Sequence p q) x = followed_halting (start E p) (start E q) (start_halting d E p x.0) (start_halting d E q x.1)
start_halting d E (two (Present s) p q) x =
    pick_halting (E s) (start E p) (start E q) (start_halting d E p x.0) (start_halting d E q x.1)
start_halting d E (two Parallel p q) x = beside_halting _ _ _ _ (start_halting d E p x.0) (start_halting d E q x.1)

pub resume_halting : (d : ℕ) (E : Signals) (H : Halts) (t : Stmt) → Exits d t → HaltsWithOne (resume E H t)
unfolding resume Exits
resume_halting d E H (leaf Nothing) x = idle_halting
resume_halting d E H (leaf (Halt k)) x = one_halt k
resume_halting d E H (leaf (Emit s)) x = idle_halting
resume_halting d E H (leaf (Exit k)) x = idle_halting
resume_halting d E H (one Loop p) x =
    followed_halting (resume E H p) (start E p) (resume_halting d E H p x.1) (start_halting d E p x.1)
resume_halting d E H (one (Watching s) p) x = pick_halting (E s) idle (resume E H p) idle_halting (resume_halting d E H p x.1)
resume_halting d E H (one Trap p) x = trapped_halting (resume E H p) (resume_halting (d + 1) E H p x.1)
resume_halting d E H (one (Signal s) p) x = resume_halting d E H p x.1
resume_halting d E H (two Sequence p q) x =
    pick_halting (active H p) (followed (resume E H p) (start E q)) (resume E H q)
    (followed_halting (resume E H p) (start E q) (resume_halting d E H p x.0) (start_halting d E q x.1))
    (resume_halting d E H q x.1)
resume_halting d E H (two (Present s) p q) x =
    pick_halting (active H p) (resume E H p) (resume E H q) (resume_halting d E H p x.0) (resume_halting d E H q x.1)
resume_halting d E H (two Parallel p q) x =
    beside_halting _ _ _ _
    (pick_halting (active H p) (resume E H p) idle (resume_halting d E H p x.0) idle_halting)
    (pick_halting (active H q) (resume E H q) idle (resume_halting d E H q x.1) idle_halting)

pub react_halting : (d : ℕ) (E : Signals) (S : State) (t : Stmt) → Exits d t → HaltsWithOne (react E S t)
unfolding react
react_halting d E S t x =
    pick_halting (S boot) (pick (active (halts_of S) t) (resume E (halts_of S) t) idle) (start E t)
    (pick_halting (active (halts_of S) t) (resume E (halts_of S) t) idle (resume_halting d E (halts_of S) t x) idle_halting)
    (start_halting d E t x)

-- "one net for each code up to 1+d, d enclosing traps"
abbrev UpTo : ℕ → Outcome → Type 0
UpTo d o = o.code ≤ 1 + d

module _ (d : ℕ) where
  followed_few : (x y : Outcome) → UpTo d x → UpTo d y → UpTo d (followed x y)
  followed_few x y p q = go x.code
    where
      go : (k : ℕ) → UpTo d (then_on k x y)
      go zero = q
      go (suc k) = p

  pick_few : (b : Bool) (x y : Outcome) → UpTo d x → UpTo d y → UpTo d (pick b x y)
  unfolding pick
  pick_few true x y p q = p
  pick_few false x y p q = q

  caught_few : (c : ℕ) → c ≤ 1 + (d + 1) → caught c ≤ 1 + d
  caught_few zero l = omega arith
  caught_few (suc zero) l = omega arith
  caught_few (suc (suc zero)) l = omega arith
  caught_few (suc (suc (suc c))) l = omega arith

larger_few : (a b m : ℕ) → a ≤ m → b ≤ m → larger a b ≤ m
larger_few zero b m p q = q
larger_few (suc a) zero m p q = p
larger_few (suc a) (suc b) zero p q = absurd (omega arith)
larger_few (suc a) (suc b) (suc m) p q = let less = larger_few a b m (omega arith) (omega arith) in omega arith

pub start_code : (d : ℕ) (E : Signals) (t : Stmt) → Exits d t → (start E t).code ≤ 1 + d
unfolding start Exits
start_code d E (leaf Nothing) x = omega arith
start_code d E (leaf (Halt k)) x = omega arith
start_code d E (leaf (Emit s)) x = omega arith
start_code d E (leaf (Exit k)) x = x.1
start_code d E (one Loop p) x = start_code d E p x.1
start_code d E (one (Watching s) p) x = start_code d E p x.1
start_code d E (one Trap p) x = caught_few d _ (start_code (d + 1) E p x.1)
start_code d E (one (Signal s) p) x = start_code d E p x.1
start_code d E (two Sequence p q) x = followed_few d (start E p) (start E q) (start_code d E p x.0) (start_code d E q x.1)
start_code d E (two (Present s) p q) x = pick_few d (E s) (start E p) (start E q) (start_code d E p x.0) (start_code d E q x.1)
start_code d E (two Parallel p q) x = larger_few _ _ (1 + d) (start_code d E p x.0) (start_code d E q x.1)

pub resume_code : (d : ℕ) (E : Signals) (H : Halts) (t : Stmt) → Exits d t → (resume E H t).code ≤ 1 + d
unfolding resume Exits
resume_code d E H (leaf Nothing) x = omega arith
resume_code d E H (leaf (Halt k)) x = omega arith
resume_code d E H (leaf (Emit s)) x = omega arith
resume_code d E H (leaf (Exit k)) x = omega arith
resume_code d E H (one Loop p) x = followed_few d (resume E H p) (start E p) (resume_code d E H p x.1) (start_code d E p x.1)
resume_code d E H (one (Watching s) p) x = pick_few d (E s) idle (resume E H p) (omega arith) (resume_code d E H p x.1)
resume_code d E H (one Trap p) x = caught_few d _ (resume_code (d + 1) E H p x.1)
resume_code d E H (one (Signal s) p) x = resume_code d E H p x.1
resume_code d E H (two Sequence p q) x =
    pick_few d (active H p) (followed (resume E H p) (start E q)) (resume E H q)
    (followed_few d (resume E H p) (start E q) (resume_code d E H p x.0) (start_code d E q x.1))
    (resume_code d E H q x.1)
resume_code d E H (two (Present s) p q) x =
    pick_few d (active H p) (resume E H p) (resume E H q) (resume_code d E H p x.0) (resume_code d E H q x.1)
resume_code d E H (two Parallel p q) x =
    larger_few _ _ (1 + d)
    (pick_few d (active H p) (resume E H p) idle (resume_code d E H p x.0) (omega arith))
    (pick_few d (active H q) (resume E H q) idle (resume_code d E H q x.1) (omega arith))

pub react_code : (d : ℕ) (E : Signals) (S : State) (t : Stmt) → Exits d t → (react E S t).code ≤ 1 + d
unfolding react
react_code d E S t x =
    pick_few d (S boot) (pick (active (halts_of S) t) (resume E (halts_of S) t) idle) (start E t)
    (pick_few d (active (halts_of S) t) (resume E (halts_of S) t) idle (resume_code d E (halts_of S) t x) (omega arith))
    (start_code d E t x)
