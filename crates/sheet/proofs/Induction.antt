-- Whatever was read, was read head by head: what holds of each head, and is kept by a statement's parts, holds of the statement.
use mathlib.Core.Path.{◌≡◌, refl, ap, ◌∙◌, subst}
use mathlib.Core.Bool.{Bool, true, false}
use mathlib.Core.List.{List}
use Prim.Native.Nat.{ℕ, zero, suc, ◌+◌, ◌<◌, ◌≤◌}
use native.Mathlib.Omega.{arith}
use lib.Dec.{ltb, leb, eqb}
use borrow.Author.Tests.{eqb-true, leb-false, ltb-false}
use Rattle.number.specs.declared.Cursor.{Cursor}
use Rattle.number.specs.declared.Fault.{Fault}
use Rattle.number.specs.declared.SignalNo.{SignalNo}
use Rattle.number.specs.declared.StmtNo.{StmtNo}
use Rattle.number.specs.declared.Refusal.TheVariants.{Count}
use Rattle.number.specs.Counts.{signal_no, of_signal, of_halt, of_stmt}
use Rattle.number.specs.Number.{number_at, pick}
use Rattle.number.specs.Refusals.{fault}
use Rattle.limits.specs.Limits.{max_statements, max_halts, max_signals, max_traps}
use Rattle.sheet.specs.declared.Leaf.{Leaf}
use Rattle.sheet.specs.declared.Leaf.TheVariants.{Nothing, Halt, Emit, Exit}
use Rattle.sheet.specs.declared.Unary.{Unary}
use Rattle.sheet.specs.declared.Unary.TheVariants.{Loop, Watching, Trap, Signal}
use Rattle.sheet.specs.declared.Binary.{Binary}
use Rattle.sheet.specs.declared.Binary.TheVariants.{Sequence, Present, Parallel}
use Rattle.sheet.specs.declared.Head.{Head}
use Rattle.sheet.specs.declared.Head.TheVariants.{Zero, One, Two}
use Rattle.sheet.specs.declared.Marks.{Marks}
use Rattle.sheet.specs.Stmt.{Stmt, leaf, one, two, size}
use Rattle.sheet.specs.Read.{Around, past, signal_of, signal_at, naming, emitting, exiting, halt_at, local_at, trap_at}
use Rattle.sheet.specs.Read.{of_kind, head_of_kind, head_at}
use Rattle.sheet.specs.Read.{Outcome, got, refused, Reader, further, inside, and_then, parts, read_stmt}
use Rattle.sheet.specs.Form.{halts_on, signals_on}
use Rattle.std.specs.Prelude.{Result, Ok, Err}

-- the operand at m names the signal x; m' is past it
pub record Names (s : List ℕ) (e : Around) (m : Marks) (x : SignalNo) (m' : Marks) : Type 0 where
  pub after : Cursor
  pub number : number_at s m.at ≡ Ok (of_signal x, after)
  pub scope : e.scope x ≡ true
  pub marks : m' ≡ past m after.at

-- what a head at m was read from, and the tests that it passed; c is past its kind
pub data HeadIs (s : List ℕ) (e : Around) (m : Marks) (c : Cursor) : Head → Marks → Type 0 where
  nothing : number_at s m.at ≡ Ok (0, c) → HeadIs s e m c (Zero Nothing) (past m c.at)
  halt : number_at s m.at ≡ Ok (1, c) → of_halt m.halts < max_halts
      → HeadIs s e m c (Zero (Halt m.halts)) (record { at = c.at; halts = halts_on m.halts 1; signals = m.signals })
  emit : {x : SignalNo} {m' : Marks} → number_at s m.at ≡ Ok (2, c) → Names s e (past m c.at) x m' → e.inputs < of_signal x
      → HeadIs s e m c (Zero (Emit x)) m'
  sequence : number_at s m.at ≡ Ok (3, c) → HeadIs s e m c (Two Sequence) (past m c.at)
  loop : number_at s m.at ≡ Ok (4, c) → HeadIs s e m c (One Loop) (past m c.at)
  present : {x : SignalNo} {m' : Marks} → number_at s m.at ≡ Ok (5, c) → Names s e (past m c.at) x m'
      → HeadIs s e m c (Two (Present x)) m'
  watching : {x : SignalNo} {m' : Marks} → number_at s m.at ≡ Ok (6, c) → Names s e (past m c.at) x m'
      → HeadIs s e m c (One (Watching x)) m'
  parallel : number_at s m.at ≡ Ok (7, c) → HeadIs s e m c (Two Parallel) (past m c.at)
  trap : number_at s m.at ≡ Ok (8, c) → e.traps < max_traps → HeadIs s e m c (One Trap) (past m c.at)
  exit : {k : ℕ} {after : Cursor} → number_at s m.at ≡ Ok (9, c) → number_at s c.at ≡ Ok (k, after) → 2 ≤ k → k ≤ 1 + e.traps
      → HeadIs s e m c (Zero (Exit k)) (past m after.at)
  local : number_at s m.at ≡ Ok (10, c) → of_signal m.signals < max_signals
      → HeadIs s e m c (One (Signal m.signals)) (record { at = c.at; halts = m.halts; signals = signals_on m.signals 1 })

-- a claim on what a test picks
by_test : {A : Type 0} (P : A → Type 0) (b : Bool) (x y : A) → (b ≡ true → P x) → (b ≡ false → P y) → P (pick b x y)
unfolding pick
by_test P true x y f g = f refl
by_test P false x y f g = g refl

module _ (s : List ℕ) (e : Around) where
  abbrev SignalOk : Marks → Result (SignalNo × Marks) Fault → Type 0
  SignalOk m (Ok (x, m')) = Names s e m x m'
  SignalOk m (Err f) = Unit

  -- a signal that was read is one of the scope
  signal_ok : (m : Marks) (r : Result (ℕ × Cursor) Fault) → number_at s m.at ≡ r → SignalOk m (signal_of e m r)
  unfolding signal_of
  signal_ok m (Err f) q = tt
  signal_ok m (Ok (v, c)) q =
      by_test (SignalOk m) (e.scope (signal_no v)) _ _ (λ t. record { after = c; number = q; scope = t; marks = refl }) (λ t. tt)

  module _ (m : Marks) (c : Cursor) where
    abbrev HeadOk : Result (Head × Marks) Fault → Type 0
    HeadOk (Ok (h, m')) = HeadIs s e m c h m'
    HeadOk (Err f) = Unit

    naming_ok : (f : SignalNo → Head) (r : Result (SignalNo × Marks) Fault)
        → ((x : SignalNo) (m' : Marks) → Names s e (past m c.at) x m' → HeadIs s e m c (f x) m')
        → SignalOk (past m c.at) r → HeadOk (naming f r)
    unfolding naming
    naming_ok f (Ok (x, m')) make k = make x m' k
    naming_ok f (Err x) make k = tt

    emitting_ok : (place : ℕ) (r : Result (SignalNo × Marks) Fault) → number_at s m.at ≡ Ok (2, c) → SignalOk (past m c.at) r → HeadOk (emitting e place r)
    unfolding emitting
    emitting_ok place (Err x) q k = tt
    emitting_ok place (Ok (x, m')) q k =
        by_test HeadOk (leb (of_signal x) e.inputs) _ _ (λ t. tt) (λ t. emit q k (leb-false (of_signal x) e.inputs t))

    exiting_ok : (r : Result (ℕ × Cursor) Fault) → number_at s m.at ≡ Ok (9, c) → number_at s c.at ≡ r → HeadOk (exiting e (past m c.at) r)
    unfolding exiting
    exiting_ok (Err f) q w = tt
    exiting_ok (Ok (k, after)) q w =
        by_test HeadOk (ltb k 2) _ _ (λ t. tt) (λ low. by_test HeadOk (ltb (1 + e.traps) k) _ _ (λ t. tt)
        (λ high. exit q w (ltb-false k 2 low) (ltb-false (1 + e.traps) k high)))

    -- the kind k at m
    kind_ok : (k : ℕ) → number_at s m.at ≡ Ok (k, c) → HeadOk (of_kind s e m.at (past m c.at) k)
    unfolding of_kind halt_at local_at trap_at
    kind_ok k q =
        test 0 _ _ nothing (test 1 _ _ halted
        (test 2 _ _ (λ w. emitting_ok c.at (signal_at s e m1) w named) (test 3 _ _ sequence (test 4 _ _ loop
        (test 5 _ _ (λ w. naming_ok (λ x. Two (Present x)) (signal_at s e m1) (λ x m' r. present w r) named)
        (test 6 _ _ (λ w. naming_ok (λ x. One (Watching x)) (signal_at s e m1) (λ x m' r. watching w r) named) (test 7 _ _ parallel
        (test 8 _ _ trapped (test 9 _ _ (λ w. exiting_ok (number_at s c.at) w refl) (test 10 _ _ declared tt))))))))))
      where
        m1 : Marks
        m1 = past m c.at

        test : (j : ℕ) (x y : Result (Head × Marks) Fault) → (number_at s m.at ≡ Ok (j, c) → HeadOk x) → HeadOk y → HeadOk (pick (eqb k j) x y)
        test j x y f g = by_test HeadOk (eqb k j) x y (λ t. f (q ∙ ap (λ n. Ok (n, c)) (eqb-true k j t))) (λ t. g)

        named : SignalOk m1 (signal_at s e m1)
        named = signal_ok m1 (number_at s c.at) refl

        halted : number_at s m.at ≡ Ok (1, c) → HeadOk (halt_at m.at m1)
        halted w = by_test HeadOk (leb max_halts (of_halt m.halts)) _ _ (λ t. tt) (λ t. halt w (leb-false max_halts (of_halt m.halts) t))

        trapped : number_at s m.at ≡ Ok (8, c) → HeadOk (trap_at m.at e m1)
        trapped w = by_test HeadOk (leb max_traps e.traps) _ _ (λ t. tt) (λ t. trap w (leb-false max_traps e.traps t))

        declared : number_at s m.at ≡ Ok (10, c) → HeadOk (local_at m.at m1)
        declared w =
            by_test HeadOk (leb max_signals (of_signal m.signals)) _ _ (λ t. tt)
            (λ t. local w (leb-false max_signals (of_signal m.signals) t))

-- a head that was read
pub record Headed (s : List ℕ) (e : Around) (m : Marks) (h : Head) (m' : Marks) : Type 0 where
  pub kind_end : Cursor
  pub is : HeadIs s e m kind_end h m'

pub headed : (s : List ℕ) (e : Around) (m : Marks) (h : Head) (m' : Marks) → head_at s e m ≡ Ok (h, m') → Headed s e m h m'
unfolding head_of_kind
headed s e m h m' q = go (number_at s m.at) refl q
  where
    go : (r : Result (ℕ × Cursor) Fault) → number_at s m.at ≡ r → head_of_kind s e m r ≡ Ok (h, m') → Headed s e m h m'
    go (Err f) w z = let absurdity : ◌≡◌ {A = ℕ} 0 1 = cc in absurd (omega arith)
    go (Ok (k, c)) w z = record { kind_end = c; is = subst (HeadOk s e m c) z (kind_ok s e m c k w) }

-- A claim P on readings: `left` levels are left, e holds around the statement, n is its number, m stands before and m' past it.
-- It holds of each statement read, if it holds of leaves, and of a statement with parts if of its parts.
module _ (s : List ℕ) (P : ℕ → Around → StmtNo → Marks → Stmt → Marks → Type 0)
    (of_leaf : (left : ℕ) (e : Around) (n : StmtNo) (m m1 : Marks) (l : Leaf) → of_stmt n < max_statements → Headed s e m (Zero l) m1
    → P (suc left) e n m (leaf l) m1)
    (of_one : (left : ℕ) (e : Around) (n : StmtNo) (m m1 m2 : Marks) (u : Unary) (p : Stmt) → of_stmt n < max_statements
    → Headed s e m (One u) m1 → P left (inside e u) (further n 1) m1 p m2 → P (suc left) e n m (one u p) m2)
    (of_two : (left : ℕ) (e : Around) (n : StmtNo) (m m1 m2 m3 : Marks) (b : Binary) (p q : Stmt) → of_stmt n < max_statements
    → Headed s e m (Two b) m1 → P left e (further n 1) m1 p m2 → P left e (further n (1 + size p)) m2 q m3
    → P (suc left) e n m (two b p q) m3) where
  -- what a reader reads satisfies P
  abbrev Reads : ℕ → Reader → Type 0
  Reads left sub = (e : Around) (n : StmtNo) (m : Marks) (t : Stmt) (m' : Marks) → sub e n m ≡ got t m' → P left e n m t m'

  stopped : {A : Type 0} (f : Fault) (t : Stmt) (m : Marks) → refused f ≡ got t m → A
  stopped f t m q = let absurdity : ◌≡◌ {A = ℕ} 0 1 = cc in absurd (omega arith)

  same : (left : ℕ) (e : Around) (n : StmtNo) (m m1 m' : Marks) (t t' : Stmt) → got t m1 ≡ got t' m' → P left e n m t m1
      → P left e n m t' m'
  same left e n m m1 m' t t' q k =
      let tree : t ≡ t' = cc in let marks : m1 ≡ m' = cc in
      subst (λ (x : Marks). P left e n m t' x) marks (subst (λ (x : Stmt). P left e n m x m1) tree k)

  parts_read : (left : ℕ) (sub : Reader) → Reads left sub → (e : Around) (n : StmtNo) (m : Marks) → of_stmt n < max_statements
      → (h : Result (Head × Marks) Fault) → head_at s e m ≡ h → (t : Stmt) (m' : Marks) → parts sub e n h ≡ got t m' → P (suc left) e n m t m'
  unfolding parts and_then
  parts_read left sub ih e n m small (Err f) w t m' q = stopped f t m' q
  parts_read left sub ih e n m small (Ok (Zero l, m1)) w t m' q =
      same (suc left) e n m m1 m' (leaf l) t q (of_leaf left e n m m1 l small (headed s e m (Zero l) m1 w))
  parts_read left sub ih e n m small (Ok (One u, m1)) w t m' q = go (sub (inside e u) (further n 1) m1) refl q
    where
      go : (o : Outcome) → sub (inside e u) (further n 1) m1 ≡ o → and_then o (λ p m2. got (one u p) m2) ≡ got t m' → P (suc left) e n m t m'
      go (refused f) k z = stopped f t m' z
      go (got p m2) k z =
          let part = ih (inside e u) (further n 1) m1 p m2 k in
          same (suc left) e n m m2 m' (one u p) t z (of_one left e n m m1 m2 u p small (headed s e m (One u) m1 w) part)
  parts_read left sub ih e n m small (Ok (Two b, m1)) w t m' q = go (sub e (further n 1) m1) refl q
    where
      second : (p : Stmt) (m2 : Marks) → P left e (further n 1) m1 p m2 → (o : Outcome) → sub e (further n (1 + size p)) m2 ≡ o
          → and_then o (λ x m3. got (two b p x) m3) ≡ got t m' → P (suc left) e n m t m'
      second p m2 first (refused f) k z = stopped f t m' z
      second p m2 first (got x m3) k z =
          let part = ih e (further n (1 + size p)) m2 x m3 k in
          same (suc left) e n m m3 m' (two b p x) t z (of_two left e n m m1 m2 m3 b p x small (headed s e m (Two b) m1 w) first part)

      go : (o : Outcome) → sub e (further n 1) m1 ≡ o
          → and_then o (λ p m2. and_then (sub e (further n (1 + size p)) m2) λ x m3. got (two b p x) m3) ≡ got t m' → P (suc left) e n m t m'
      go (refused f) k z = stopped f t m' z
      go (got p m2) k z = second p m2 (ih e (further n 1) m1 p m2 k) (sub e (further n (1 + size p)) m2) refl z

  level_read : (left : ℕ) (sub : Reader) → Reads left sub → (e : Around) (n : StmtNo) (m : Marks) (b : Bool)
      → leb max_statements (of_stmt n) ≡ b
      → (t : Stmt) (m' : Marks) → pick b (refused (fault Count m.at)) (parts sub e n (head_at s e m)) ≡ got t m' → P (suc left) e n m t m'
  unfolding pick
  level_read left sub ih e n m true w t m' q = stopped (fault Count m.at) t m' q
  level_read left sub ih e n m false w t m' q =
      parts_read left sub ih e n m (leb-false max_statements (of_stmt n) w) (head_at s e m) refl t m' q

  pub read_induction : (left : ℕ) (e : Around) (n : StmtNo) (m : Marks) (t : Stmt) (m' : Marks) → read_stmt left s e n m ≡ got t m'
      → P left e n m t m'
  unfolding read_stmt
  read_induction zero e n m t m' q = stopped (fault Count m.at) t m' q
  read_induction (suc left) e n m t m' q =
      level_read left (λ e1 n1 m1. read_stmt left s e1 n1 m1) (read_induction left) e n m (leb max_statements (of_stmt n)) refl t m' q
