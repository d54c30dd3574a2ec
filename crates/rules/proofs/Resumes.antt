-- A statement resumed, by its parts: one law for each return of the walk. E is the set e of present signals, and H the halts of the state w.
use mathlib.Core.Path.{◌≡◌, refl, sym}
use mathlib.Core.Bool.{Bool, true, false, not, false≢true}
use mathlib.Core.List.{List}
use Prim.Native.Nat.{ℕ, ◌-◌, ◌*◌, ◌<◌}
use native.Mathlib.Omega.{arith}
use lib.ListN.{length}
use borrow.Author.Tests.{not-true, not-false}
use Rattle.bits.specs.Bits.{has, signal_bit, boot, signals_in}
use Rattle.number.specs.declared.HaltNo.{HaltNo}
use Rattle.number.specs.declared.SignalNo.{SignalNo}
use Rattle.number.specs.declared.StmtNo.{StmtNo}
use Rattle.number.specs.Counts.{of_stmt}
use Rattle.number.specs.Number.{pick}
use Rattle.sheet.specs.declared.Leaf.{Leaf}
use Rattle.sheet.specs.declared.Leaf.TheVariants.{Nothing, Halt, Emit, Exit}
use Rattle.sheet.specs.declared.Unary.{Unary}
use Rattle.sheet.specs.declared.Unary.TheVariants.{Loop, Watching, Trap, Signal}
use Rattle.sheet.specs.declared.Binary.{Binary}
use Rattle.sheet.specs.declared.Binary.TheVariants.{Sequence, Present, Parallel}
use Rattle.sheet.specs.declared.Head.TheVariants.{Zero, One, Two}
use Rattle.sheet.specs.Stmt.{Stmt, leaf, one, two, halt_count}
use Rattle.sheet.specs.Read.{further}
use Rattle.sheet.specs.Rows.{halts_on, row_at, Holds}
use Rattle.sheet.proofs.Walk.{IsOne, IsTwo, is_leaf, is_one, is_two, holds_second}
use Rattle.rules.specs.declared.Yield.{Yield}
use Rattle.rules.specs.Rules.{Signals, Halts, Outcome, idle, followed, beside, trapped, start, active, resume}
use Rattle.rules.specs.States.{react}
use Rattle.rules.specs.Words.{halts_in, Means, resumed, Runnable}
use Rattle.rules.specs.Words.{Started, Resumed, root, Reacted, Inside}
use Rattle.rules.proofs.Again.{only_right}
use Rattle.rules.proofs.Meanings.{stopped_means}
use Rattle.rules.proofs.Walks.{holds_one, run_within, run_one, run_left, run_right, right_further}
use Rattle.sheet.specs.declared.Row.{Row}

resumed_on : (E : Signals) (H : Halts) (t : Stmt) → active H t ≡ true → resumed E H t ≡ resume E H t
unfolding pick
resumed_on E H t on = rw on

-- one rule at a time, over the parts
leaf_rule : (E : Signals) (H : Halts) (l : Leaf) → active H (leaf l) ≡ true → resume E H (leaf l) ≡ start E (leaf l)
unfolding active resume start
leaf_rule E H Nothing on = absurd (false≢true on)
leaf_rule E H (Halt h) on = refl
leaf_rule E H (Emit s) on = absurd (false≢true on)
leaf_rule E H (Exit k) on = absurd (false≢true on)

right_rule : (E : Signals) (H : Halts) (b : Binary) (x y : Stmt) → (b ≡ Parallel → ⊥) → active H x ≡ false
    → resume E H (two b x y) ≡ resume E H y
unfolding resume pick
right_rule E H Sequence x y other off = rw off
right_rule E H (Present s) x y other off = rw off
right_rule E H Parallel x y other off = absurd (other refl)

right_active : (H : Halts) (b : Binary) (x y : Stmt) → active H (two b x y) ≡ true → active H x ≡ false → active H y ≡ true
unfolding active
right_active H b x y = only_right (active H x) (active H y)

-- where the halt lies that lies in the statement
module _ (rows : List Row) (n : StmtNo) (w : ℕ) (on : Inside rows n w true) where
  -- the part has the halt that the statement has
  pub inside_part : {u : Unary} → Runnable rows n → (row_at rows n).head ≡ One u → Inside rows (further n 1) w true
  unfolding active
  inside_part {u} run head = record { answer = answer }
    where
      k : IsOne rows n run.first run.stmt u
      k = is_one rows n run.first run.stmt run.holds head

      answer : (a : HaltNo) (t : Stmt) → Holds rows (further n 1) a t → true ≡ active (halts_in w) t
      answer a t h =
          let same : t ≡ k.part = holds_one rows (further n 1) a run.first t k.part h k.holds in
          let here : active (halts_in w) (one u k.part) ≡ true = rw k.is at (sym (on.answer run.first run.stmt run.holds)) in
          rw same (sym here)

  -- where the left part has none, the right one has it
  pub inside_right : {b : Binary} → Runnable rows n → (row_at rows n).head ≡ Two b → Inside rows (further n 1) w false
      → Inside rows (row_at rows (further n 1)).end w true
  inside_right {b} run head off = record { answer = answer }
    where
      k : IsTwo rows n run.first run.stmt b
      k = is_two rows n run.first run.stmt run.holds head

      answer : (a : HaltNo) (t : Stmt) → Holds rows (row_at rows (further n 1)).end a t → true ≡ active (halts_in w) t
      answer a t h =
          let second = holds_second rows n run.first k in
          let same : t ≡ k.right = holds_one rows _ a (halts_on run.first (halt_count k.left)) t k.right h second in
          let none : active (halts_in w) k.left ≡ false = sym (off.answer run.first k.left k.holds_left) in
          let own = sym (on.answer run.first run.stmt run.holds) in
          let here : active (halts_in w) (two b k.left k.right) ≡ true = rw k.is at own in
          rw same (sym (right_active (halts_in w) b k.left k.right here none))

-- what the code's test says of the statement at row n, which is row m
pub inside_off : {rows : List Row} {m n : StmtNo} {w : ℕ} {x : Bool} → m ≡ n → Inside rows m w x → not x ≡ true → Inside rows n w false
inside_off {x = x} e k off = rw (e, not-true x off) at k

pub inside_on : {rows : List Row} {m n : StmtNo} {w : ℕ} {x : Bool} → m ≡ n → Inside rows m w x → not x ≡ false → Inside rows n w true
inside_on {x = x} e k on = rw (e, not-false x on) at k

-- What the walk of a part asks for: fewer rows to go, a statement that can be run, and a halt of the state inside.
abbrev pub Resumable : List Row → StmtNo → ℕ → Type 0
Resumable rows m w = Runnable rows m × Inside rows m w true

abbrev pub Asks : List Row → StmtNo → ℕ → ℕ → Type 0
Asks rows m w t = (2 * (length rows - of_stmt m) < t) × Resumable rows m w

-- By what the code has found, m being where the part stands.
module _ {rows : List Row} {n : StmtNo} {w t : ℕ} (run : Runnable rows n) (measure : 2 * (length rows - of_stmt n) - 1 ≡ t) where
  ask : {m : StmtNo} → of_stmt n < of_stmt m → Runnable rows m → Inside rows m w true → Asks rows m w t
  ask past part on = (omega (arith, run_within run), (part, on))

  pub ask_part : {u : Unary} {m : StmtNo} → (row_at rows n).head ≡ One u → Inside rows n w true → m ≡ further n 1 → Asks rows m w t
  ask_part head on e = rw e (ask (omega arith) (run_one run head) (inside_part rows n w on run head))

  module _ {b : Binary} (head : (row_at rows n).head ≡ Two b) where
    pub ask_left : {m : StmtNo} {x : Bool} → m ≡ further n 1 → Inside rows m w x → not x ≡ false → Asks rows m w t
    ask_left e k on = rw e (ask (omega arith) (run_left run head) (inside_on e k on))

    pub ask_right : {m : StmtNo} {x : Bool} → m ≡ (row_at rows (further n 1)).end → Inside rows m w x → not x ≡ false → Asks rows m w t
    ask_right e k on = rw e (ask (right_further run head) (run_right run head) (inside_on e k on))

    -- the left part has none of the halts that the statement has
    pub ask_other : {m : StmtNo} → Inside rows n w true → Inside rows (further n 1) w false → m ≡ (row_at rows (further n 1)).end
        → Asks rows m w t
    ask_other on off e = rw e (ask (right_further run head) (run_right run head) (inside_right rows n w on run head off))

module _ (rows : List Row) (n : StmtNo) (e w : ℕ) where
  abbrev E : Signals
  E = signals_in e

  abbrev H : Halts
  H = halts_in w

  -- no halt inside
  pub resume_off : {r : Yield} → Inside rows n w false → Means r idle → Resumed rows n e w r
  unfolding pick
  resume_off {r} off m = record { means = means }
    where
      means : (a : HaltNo) (t : Stmt) → Holds rows n a t → Means r (resumed E H t)
      means a t h = rw (← off.answer a t h) m

  module _ (on : Inside rows n w true) where
    here : (a : HaltNo) (t : Stmt) → Holds rows n a t → active H t ≡ true
    here a t h = sym (on.answer a t h)

    -- a rule for the statement, with a halt inside
    abbrev Rule : Yield → Type 0
    Rule r = (a : HaltNo) (t : Stmt) → Holds rows n a t → active H t ≡ true → Means r (resume E H t)

    by_rule : {r : Yield} → Rule r → Resumed rows n e w r
    by_rule {r} f = record { means = means }
      where
        means : (a : HaltNo) (t : Stmt) → Holds rows n a t → Means r (resumed E H t)
        means a t h = rw (resumed_on E H t (here a t h)) (f a t h (here a t h))

    pub resume_leaf : {l : Leaf} {r : Yield} → (row_at rows n).head ≡ Zero l → ((X : Signals) → Means r (start X (leaf l)))
        → Resumed rows n e w r
    resume_leaf {l} {r} head f = by_rule rule
      where
        rule : Rule r
        rule a t h x =
            let tree : t ≡ leaf l = is_leaf rows n a t h head in
            rw (tree, leaf_rule E H l (rw tree at x)) (f E)

    pub resume_cut : {s : SignalNo} {r : Yield} → (row_at rows n).head ≡ One (Watching s) → has e (signal_bit s) ≡ true → Means r idle
        → Resumed rows n e w r
    unfolding resume pick
    resume_cut {r = r} head present m = by_rule rule
      where
        rule : Rule r
        rule a t h x = let k = is_one rows n a t h head in rw (k.is, present) m

    -- a rule for the statement, by its one part, which has the halt that the statement has
    by_part : {u : Unary} {p r : Yield} → (row_at rows n).head ≡ One u → Resumed rows (further n 1) e w p
        → ((a : HaltNo) (x : Stmt) → Holds rows (further n 1) a x → Means p (resume E H x) → Means r (resume E H (one u x)))
        → Resumed rows n e w r
    unfolding active
    by_part {u} {p} {r} head part f = by_rule rule
      where
        rule : Rule r
        rule a t h x =
            let k = is_one rows n a t h head in
            let inside : active H k.part ≡ true = rw k.is at x in
            let m = rw (resumed_on E H k.part inside) at (part.means a k.part k.holds) in
            rw k.is (f a k.part k.holds m)

    module _ {p : Yield} (part : Resumed rows (further n 1) e w p) where
      pub resume_again : {q r : Yield} → (row_at rows n).head ≡ One Loop → Started rows (further n 1) e q
          → ((x y : Outcome) → Means p x → Means q y → Means r (followed x y)) → Resumed rows n e w r
      unfolding resume
      resume_again head begun f = by_part head part λ a x h m. f (resume E H x) (start E x) m (begun.means a x h)

      pub resume_held : (row_at rows n).head ≡ One Loop → (p.code ≡ 0 → ⊥) → Resumed rows n e w p
      unfolding resume
      resume_held head on' = by_part head part λ a x h m. stopped_means p (resume E H x) (start E x) m on'

      pub resume_watching : {s : SignalNo} → (row_at rows n).head ≡ One (Watching s) → has e (signal_bit s) ≡ false → Resumed rows n e w p
      unfolding resume pick
      resume_watching head absent = by_part head part λ a x h m. rw absent m

      pub resume_trap : {r : Yield} → (row_at rows n).head ≡ One Trap → ((o : Outcome) → Means p o → Means r (trapped o))
          → Resumed rows n e w r
      unfolding resume
      resume_trap head f = by_part head part λ a x h m. f (resume E H x) m

      pub resume_signal : {s : SignalNo} → (row_at rows n).head ≡ One (Signal s) → Resumed rows n e w p
      unfolding resume
      resume_signal head = by_part head part λ a x h m. m

    -- the right side alone
    pub resume_right : {b : Binary} {q : Yield} → (row_at rows n).head ≡ Two b → (b ≡ Parallel → ⊥) → Inside rows (further n 1) w false
        → Resumed rows (row_at rows (further n 1)).end e w q → Resumed rows n e w q
    resume_right {b} {q} head other off right = by_rule rule
      where
        rule : Rule q
        rule a t h x =
            let k = is_two rows n a t h head in
            let none : active H k.left ≡ false = sym (off.answer a k.left k.holds_left) in
            let some : active H k.right ≡ true = right_active H b k.left k.right (rw k.is at x) none in
            let m = right.means (halts_on a (halt_count k.left)) k.right (holds_second rows n a k) in
            rw (k.is, right_rule E H b k.left k.right other none) (rw (resumed_on E H k.right some) at m)

    -- the left side of a sequence or present
    module _ {p : Yield} (in_left : Inside rows (further n 1) w true) (left : Resumed rows (further n 1) e w p) where
      by_left : {b : Binary} {r : Yield} → (row_at rows n).head ≡ Two b
          → ((a : HaltNo) (x y : Stmt) → active H x ≡ true → Holds rows (row_at rows (further n 1)).end a y → Means p (resume E H x)
          → Means r (resume E H (two b x y))) → Resumed rows n e w r
      by_left {r = r} head f = by_rule rule
        where
          rule : Rule r
          rule a t h x =
              let k = is_two rows n a t h head in
              let on_left : active H k.left ≡ true = sym (in_left.answer a k.left k.holds_left) in
              let m = rw (resumed_on E H k.left on_left) at (left.means a k.left k.holds_left) in
              rw k.is (f (halts_on a (halt_count k.left)) k.left k.right on_left (holds_second rows n a k) m)

      pub resume_goes : {q r : Yield} → (row_at rows n).head ≡ Two Sequence → Started rows (row_at rows (further n 1)).end e q
          → ((x y : Outcome) → Means p x → Means q y → Means r (followed x y)) → Resumed rows n e w r
      unfolding resume pick
      resume_goes head begun f = by_left head λ a x y on_left h m. rw on_left (f (resume E H x) (start E y) m (begun.means a y h))

      pub resume_stays : (row_at rows n).head ≡ Two Sequence → (p.code ≡ 0 → ⊥) → Resumed rows n e w p
      unfolding resume pick
      resume_stays head on' = by_left head λ a x y on_left h m. rw on_left (stopped_means p (resume E H x) (start E y) m on')

      pub resume_chosen : {s : SignalNo} → (row_at rows n).head ≡ Two (Present s) → Resumed rows n e w p
      unfolding resume pick
      resume_chosen head = by_left head λ a x y on_left h m. rw on_left m

    -- the sides of a parallel
    pub resume_parallel : {p q r : Yield} → (row_at rows n).head ≡ Two Parallel → Resumed rows (further n 1) e w p
        → Resumed rows (row_at rows (further n 1)).end e w q → ((x y : Outcome) → Means p x → Means q y → Means r (beside x y))
        → Resumed rows n e w r
    unfolding resume
    resume_parallel {p} {q} {r} head left right f = by_rule rule
      where
        rule : Rule r
        rule a t h x =
            let k = is_two rows n a t h head in
            rw k.is
            (f (resumed E H k.left) (resumed E H k.right) (left.means a k.left k.holds_left)
            (right.means (halts_on a (halt_count k.left)) k.right (holds_second rows n a k)))

-- the root's reaction
module _ (rows : List Row) (e w : ℕ) (r : Yield) where
  pub react_resumes : has w boot ≡ true → Resumed rows root e w r → Reacted rows e w r
  unfolding react pick
  react_resumes on k = record { means = means }
    where
      means : (a : HaltNo) (t : Stmt) → Holds rows root a t → Means r (react (signals_in e) (has w) t)
      means a t h = rw on (k.means a t h)

  pub react_starts : has w boot ≡ false → Started rows root e r → Reacted rows e w r
  unfolding react pick
  react_starts off k = record { means = means }
    where
      means : (a : HaltNo) (t : Stmt) → Holds rows root a t → Means r (react (signals_in e) (has w) t)
      means a t h = rw off (k.means a t h)
