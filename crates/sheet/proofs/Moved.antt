-- How far the marks move over a statement that was read: by its halts and its locals.
use mathlib.Core.Path.{◌≡◌, refl, ap}
use mathlib.Core.List.{List}
use Prim.Native.Nat.{ℕ, ◌+◌}
use native.Mathlib.Omega.{arith}
use Rattle.number.specs.declared.Cursor.{Cursor}
use Rattle.number.specs.declared.HaltNo.{HaltNo}
use Rattle.number.specs.declared.SignalNo.{SignalNo}
use Rattle.number.specs.declared.StmtNo.{StmtNo}
use Rattle.number.specs.Counts.{signal_no, of_signal, halt_no, of_halt}
use Rattle.sheet.specs.declared.Unary.{Unary}
use Rattle.sheet.specs.declared.Binary.{Binary}
use Rattle.sheet.specs.declared.Head.{Head}
use Rattle.sheet.specs.declared.Head.TheVariants.{Zero, One, Two}
use Rattle.sheet.specs.declared.Marks.{Marks}
use Rattle.sheet.specs.Stmt.{Stmt, one, two, leaf_halts, halt_count, declares, local_count}
use Rattle.sheet.specs.Read.{Around, got, read_stmt}
use Rattle.sheet.specs.Form.{halts_on, signals_on}
use Rattle.sheet.proofs.Induction.{Names, HeadIs, read_induction}
use Rattle.sheet.proofs.Induction.{nothing, halt, emit, sequence, loop, present, watching, parallel, trap, exit, local}

-- the marks m' past t are the marks m before it, moved on by its halts and locals
pub record Moved (m m' : Marks) (t : Stmt) : Type 0 where
  pub halts : m'.halts ≡ halts_on m.halts (halt_count t)
  pub signals : m'.signals ≡ signals_on m.signals (local_count t)

-- how many halts and locals a head has by itself
abbrev pub head_halts : Head → ℕ
head_halts (Zero l) = leaf_halts l
head_halts (One u) = 0
head_halts (Two b) = 0

abbrev pub head_locals : Head → ℕ
head_locals (Zero l) = 0
head_locals (One u) = declares u
head_locals (Two b) = 0

-- the same of a head and of a statement, over plain numbers
pub record MovedBy (m m' : Marks) (x y : ℕ) : Type 0 where
  pub halts : of_halt m'.halts ≡ of_halt m.halts + x
  pub signals : of_signal m'.signals ≡ of_signal m.signals + y

still : {m m' : Marks} → m'.halts ≡ m.halts → m'.signals ≡ m.signals → MovedBy m m' 0 0
still {m} {m'} a b =
    let x : of_halt m'.halts ≡ of_halt m.halts = ap (λ (k : HaltNo). of_halt k) a in
    let y : of_signal m'.signals ≡ of_signal m.signals = ap (λ (k : SignalNo). of_signal k) b in
    record { halts = omega arith; signals = omega arith }

-- past a signal that is named only the offset moves
named : {s : List ℕ} {e : Around} {m m' : Marks} {x : SignalNo} → Names s e m x m' → MovedBy m m' 0 0
named r = still (ap (λ (k : Marks). k.halts) r.marks) (ap (λ (k : Marks). k.signals) r.marks)

pub head_moved : {s : List ℕ} {e : Around} {m m' : Marks} {c : Cursor} {h : Head} → HeadIs s e m c h m'
    → MovedBy m m' (head_halts h) (head_locals h)
head_moved (nothing q) = still refl refl
head_moved (halt q few) = record { halts = refl; signals = omega arith }
head_moved (emit q r own) = let k = named r in record { halts = k.halts; signals = k.signals }
head_moved (sequence q) = still refl refl
head_moved (loop q) = still refl refl
head_moved (present q r) = let k = named r in record { halts = k.halts; signals = k.signals }
head_moved (watching q r) = let k = named r in record { halts = k.halts; signals = k.signals }
head_moved (parallel q) = still refl refl
head_moved (trap q few) = still refl refl
head_moved (exit q w low high) = still refl refl
head_moved (local q few) = record { halts = omega arith; signals = refl }

pub to_moved : {m m' : Marks} {t : Stmt} → MovedBy m m' (halt_count t) (local_count t) → Moved m m' t
to_moved r = record { halts = ap halt_no r.halts; signals = ap signal_no r.signals }

pub by_moved : {m m' : Marks} {t : Stmt} → Moved m m' t → MovedBy m m' (halt_count t) (local_count t)
by_moved r = record { halts = ap (λ (k : HaltNo). of_halt k) r.halts; signals = ap (λ (k : SignalNo). of_signal k) r.signals }

pub one_moved : {m m1 m2 : Marks} {u : Unary} {p : Stmt} → MovedBy m m1 0 (declares u) → Moved m1 m2 p → Moved m m2 (one u p)
unfolding halt_count local_count
one_moved own r =
    let part = by_moved r in
    to_moved (record { halts = omega (arith, own.halts, part.halts); signals = omega (arith, own.signals, part.signals) })

pub two_moved : {m m1 m2 m3 : Marks} {b : Binary} {p q : Stmt} → MovedBy m m1 0 0 → Moved m1 m2 p → Moved m2 m3 q → Moved m m3 (two b p q)
unfolding halt_count local_count
two_moved own r r2 =
    let first = by_moved r in
    let second = by_moved r2 in
    to_moved (record {
      halts = omega (arith, own.halts, first.halts, second.halts);
      signals = omega (arith, own.signals, first.signals, second.signals);
    })

pub moved : (left : ℕ) (s : List ℕ) (e : Around) (n : StmtNo) (m m' : Marks) (t : Stmt) → read_stmt left s e n m ≡ got t m' → Moved m m' t
unfolding halt_count local_count
moved left s e n m m' t q =
    read_induction s (λ left e n m t m'. Moved m m' t)
    (λ left e n m m1 l small h. to_moved (head_moved h.is))
    (λ left e n m m1 m2 u p small h r. one_moved (head_moved h.is) r)
    (λ left e n m m1 m2 m3 b p q small h r r2. two_moved (head_moved h.is) r r2)
    left e n m t m' q
