-- What a reaction does depends on E at the signals alone that the program asks for.
use mathlib.Core.Path.{◌≡◌, refl, sym, ◌∙◌}
use mathlib.Core.Bool.{Bool, true, false, ◌||◌, false≢true}
use mathlib.Core.List.{List}
use Prim.Native.Nat.{ℕ, ◌<◌, ◌≤◌}
use native.Mathlib.Omega.{arith}
use lib.Dec.{eqb}
use borrow.Author.Tests.{eq-eqb, eqb-true}
use Rattle.number.specs.declared.HaltNo.{HaltNo}
use Rattle.number.specs.declared.SignalNo.{SignalNo}
use Rattle.number.specs.declared.StmtNo.{StmtNo}
use Rattle.number.specs.Counts.{of_signal}
use Rattle.number.specs.Number.{pick}
use Rattle.number.proofs.Bools.{or_left, or_right, or_cases}
use Rattle.bits.specs.Bits.{has, signal_bit, signals_in, width}
use Rattle.bits.specs.Code.{SameAt}
use Rattle.sheet.specs.declared.Leaf.{Leaf}
use Rattle.sheet.specs.declared.Leaf.TheVariants.{Nothing, Halt, Emit, Exit}
use Rattle.sheet.specs.declared.Unary.{Unary}
use Rattle.sheet.specs.declared.Unary.TheVariants.{Loop, Watching, Trap, Signal}
use Rattle.sheet.specs.declared.Binary.{Binary}
use Rattle.sheet.specs.declared.Binary.TheVariants.{Sequence, Present, Parallel}
use Rattle.sheet.specs.declared.Head.TheVariants.{Zero, One, Two}
use Rattle.sheet.specs.Stmt.{Stmt, leaf, one, two, halt_count}
use Rattle.sheet.specs.Read.{only, further}
use Rattle.sheet.specs.Rows.{halts_on, row_at, Holds}
use Rattle.sheet.proofs.Walk.{is_leaf, is_one, is_two, holds_second}
use Rattle.rules.specs.Rules.{Signals, Halts, start, resume}
use Rattle.rules.specs.States.{State, halts_of, react}
use Rattle.interpreter.specs.Tested.{asks_one, asks_two, asks, Covers, Tested}
use Rattle.sheet.specs.declared.Row.{Row}

-- E and F are alike where t asks
abbrev pub Alike : Signals → Signals → Stmt → Type 0
Alike E F t = (s : SignalNo) → asks t s ≡ true → E s ≡ F s

module _ (E F : Signals) where
  part_alike : (u : Unary) (p : Stmt) → Alike E F (one u p) → Alike E F p
  unfolding asks
  part_alike u p h s e = h s (or_right (asks_one u s) (asks p s) e)

  left_alike : (b : Binary) (p q : Stmt) → Alike E F (two b p q) → Alike E F p
  unfolding asks
  left_alike b p q h s e = h s (or_right (asks_two b s) (asks p s || asks q s) (or_left (asks p s) (asks q s) e))

  right_alike : (b : Binary) (p q : Stmt) → Alike E F (two b p q) → Alike E F q
  unfolding asks
  right_alike b p q h s e = h s (or_right (asks_two b s) (asks p s || asks q s) (or_right (asks p s) (asks q s) e))

  watched : (s : SignalNo) (p : Stmt) → Alike E F (one (Watching s) p) → E s ≡ F s
  unfolding asks
  watched s p h = h s (or_left (only s s) (asks p s) (eq-eqb (of_signal s) (of_signal s) refl))

  present : (s : SignalNo) (p q : Stmt) → Alike E F (two (Present s) p q) → E s ≡ F s
  unfolding asks
  present s p q h = h s (or_left (only s s) (asks p s || asks q s) (eq-eqb (of_signal s) (of_signal s) refl))

  same_start : (t : Stmt) → Alike E F t → start E t ≡ start F t
  unfolding start pick
  same_start (leaf Nothing) h = refl
  same_start (leaf (Halt x)) h = refl
  same_start (leaf (Emit s)) h = refl
  same_start (leaf (Exit k)) h = refl
  same_start (one Loop p) h = same_start p (part_alike Loop p h)
  same_start (one (Watching s) p) h = same_start p (part_alike (Watching s) p h)
  same_start (one Trap p) h = rw (same_start p (part_alike Trap p h))
  same_start (one (Signal s) p) h = same_start p (part_alike (Signal s) p h)
  same_start (two Sequence p q) h = rw (same_start p (left_alike Sequence p q h), same_start q (right_alike Sequence p q h))
  same_start (two (Present s) p q) h =
      rw (present s p q h, same_start p (left_alike (Present s) p q h), same_start q (right_alike (Present s) p q h))
  same_start (two Parallel p q) h = rw (same_start p (left_alike Parallel p q h), same_start q (right_alike Parallel p q h))

  same_resume : (H : Halts) (t : Stmt) → Alike E F t → resume E H t ≡ resume F H t
  unfolding resume pick
  same_resume H (leaf Nothing) h = refl
  same_resume H (leaf (Halt x)) h = refl
  same_resume H (leaf (Emit s)) h = refl
  same_resume H (leaf (Exit k)) h = refl
  same_resume H (one Loop p) h = rw (same_resume H p (part_alike Loop p h), same_start p (part_alike Loop p h))
  same_resume H (one (Watching s) p) h = rw (watched s p h, same_resume H p (part_alike (Watching s) p h))
  same_resume H (one Trap p) h = rw (same_resume H p (part_alike Trap p h))
  same_resume H (one (Signal s) p) h = same_resume H p (part_alike (Signal s) p h)
  same_resume H (two Sequence p q) h =
      let right = right_alike Sequence p q h in
      rw (same_resume H p (left_alike Sequence p q h), same_start q right, same_resume H q right)
  same_resume H (two (Present s) p q) h =
      rw (same_resume H p (left_alike (Present s) p q h), same_resume H q (right_alike (Present s) p q h))
  same_resume H (two Parallel p q) h = rw (same_resume H p (left_alike Parallel p q h), same_resume H q (right_alike Parallel p q h))

  pub same_react : (S : State) (t : Stmt) → Alike E F t → react E S t ≡ react F S t
  unfolding react pick
  same_react S t h = rw (same_start t h, same_resume (halts_of S) t h)

-- sets that are the same at what covers t are alike for it
pub alike_sets : {w a b : ℕ} {r : Bool} → SameAt width w a b r → r ≡ true → (t : Stmt) → Covers w (asks t)
    → Alike (signals_in a) (signals_in b) t
alike_sets k on t c s asked = k.same on (signal_bit s) (c.covers s asked)

-- what the set of a statement covers, by its parts'
pub covers_none : {X : Signals} (w : ℕ) → ((s : SignalNo) → X s ≡ false) → Covers w X
covers_none w none = record { covers = λ s on h. absurd (false≢true (sym (none s) ∙ on)) }

pub covers_only : {w : ℕ} (x : SignalNo) (z : ℕ) → ((j : ℕ) → has w j ≡ (has z j || eqb j (signal_bit x))) → Covers w (only x)
covers_only {w} x z adds =
    record { covers = λ s on h. adds (signal_bit s) ∙ or_right (has z (signal_bit s)) (eqb (signal_bit s) (signal_bit x)) on }

pub covers_past : {w : ℕ} (x : SignalNo) → width ≤ signal_bit x → Covers w (only x)
covers_past {w} x past = record { covers = λ s on h. absurd (far s on h) }
  where
    far : (s : SignalNo) → eqb (of_signal s) (of_signal x) ≡ true → signal_bit s < width → ⊥
    far s on h =
        let e : of_signal s ≡ of_signal x = eqb-true (of_signal s) (of_signal x) on in
        omega (arith, e)

pub covers_join : {a b w : ℕ} {X Y : Signals} → Covers a X → Covers b Y → ((j : ℕ) → has w j ≡ (has a j || has b j))
    → Covers w (λ s. X s || Y s)
covers_join {a} {b} {w} {X} {Y} l r joins = record { covers = covers }
  where
    covers : (s : SignalNo) → (X s || Y s) ≡ true → signal_bit s < width → signals_in w s ≡ true
    covers s on h =
        joins (signal_bit s)
        ∙ or_cases (X s) (Y s) (λ x. or_left (signals_in a s) (signals_in b s) (l.covers s x h))
        (λ y. or_right (signals_in a s) (signals_in b s) (r.covers s y h)) on

module _ (rows : List Row) (n : StmtNo) where
  pub tested_leaf : {l : Leaf} (w : ℕ) → (row_at rows n).head ≡ Zero l → Tested rows n w
  unfolding asks
  tested_leaf w head = record { tested = λ a t h. rw (is_leaf rows n a t h head) (covers_none w (λ s. refl)) }

  pub tested_one : {u : Unary} {own p w : ℕ} → (row_at rows n).head ≡ One u → Covers own (asks_one u) → Tested rows (further n 1) p
      → ((j : ℕ) → has w j ≡ (has own j || has p j)) → Tested rows n w
  unfolding asks
  tested_one {u} {own} {p} {w} head c part joins = record { tested = tested }
    where
      tested : (a : HaltNo) (t : Stmt) → Holds rows n a t → Covers w (asks t)
      tested a t h =
          let k = is_one rows n a t h head in
          rw k.is (covers_join c (part.tested a k.part k.holds) joins)

  pub tested_two : {b : Binary} {own p q w : ℕ} (sides : ℕ) → (row_at rows n).head ≡ Two b → Covers own (asks_two b)
      → Tested rows (further n 1) p → Tested rows (row_at rows (further n 1)).end q → ((j : ℕ) → has sides j ≡ (has p j || has q j))
      → ((j : ℕ) → has w j ≡ (has own j || has sides j)) → Tested rows n w
  unfolding asks
  tested_two {b} {own} {p} {q} {w} sides head c left right both joins = record { tested = tested }
    where
      tested : (a : HaltNo) (t : Stmt) → Holds rows n a t → Covers w (asks t)
      tested a t h =
          let k = is_two rows n a t h head in
          let l = left.tested a k.left k.holds_left in
          let r = right.tested (halts_on a (halt_count k.left)) k.right (holds_second rows n a k) in
          rw k.is (covers_join c (covers_join l r both) joins)
