-- No set of a statement has a code past those of its exits, and R of a statement without halts is empty.
use mathlib.Core.Path.{◌≡◌, refl, sym, ◌∙◌}
use mathlib.Core.Bool.{Bool, false, ◌||◌, and-false}
use mathlib.Core.List.{List}
use Prim.Native.Nat.{ℕ, zero, suc, ◌+◌, ◌<◌, ◌≤◌}
use native.Mathlib.Omega.{arith}
use lib.Dec.{ltb}
use borrow.Author.Tests.{lt-ltb, le-ltb}
use Rattle.number.specs.declared.StmtNo.{StmtNo}
use Rattle.number.specs.declared.HaltNo.{HaltNo}
use Rattle.number.specs.Counts.{of_halt}
use Rattle.limits.specs.Limits.{max_traps, max_codes}
use Rattle.sheet.specs.declared.Leaf.TheVariants.{Nothing, Halt, Emit, Exit}
use Rattle.sheet.specs.declared.Unary.TheVariants.{Loop, Watching, Trap, Signal}
use Rattle.sheet.specs.declared.Binary.TheVariants.{Sequence, Present, Parallel}
use Rattle.sheet.specs.Stmt.{Stmt, leaf, one, two, halt_count}
use Rattle.sheet.specs.Rows.{row_at, Holds}
use Rattle.sheet.proofs.Notions.{Exits}
use Rattle.sheet.proofs.Walk.{first_of, past_of}
use Rattle.sets.specs.Codes.{Codes, empty, same, join, when, maxima, replaced, less0, with0, caught_codes}
use Rattle.sets.specs.Static.{K, R, has_halts}
use Rattle.sets.specs.Words.{Low}
use Rattle.sheet.specs.declared.Row.{Row}

-- every code of A is below n
abbrev pub Bounded : ℕ → Codes → Type 0
Bounded n A = (j : ℕ) → n ≤ j → A j ≡ false

pub bounded_more : {n : ℕ} (m : ℕ) (A : Codes) → n ≤ m → Bounded n A → Bounded m A
bounded_more m A h a j past = a j (omega arith)

-- what is done with sets keeps them below n
module _ (n : ℕ) where
  bounded_empty : Bounded n empty
  bounded_empty j past = refl

  bounded_same : (k : ℕ) → k < n → Bounded n (same k)
  bounded_same k h j past = go k j (omega arith)
    where
      go : (k j : ℕ) → k < j → same k j ≡ false
      go zero zero h = absurd (omega arith)
      go zero (suc j) h = refl
      go (suc k) zero h = refl
      go (suc k) (suc j) h = go k j (omega arith)

  pub bounded_join : (A B : Codes) → Bounded n A → Bounded n B → Bounded n (join A B)
  bounded_join A B a b j past = rw (a j past, b j past)

  pub bounded_when : (b : Bool) (A : Codes) → Bounded n A → Bounded n (when b A)
  bounded_when b A a j past = rw (a j past) (and-false b)

  pub bounded_maxima : (A B : Codes) → Bounded n A → Bounded n B → Bounded n (maxima A B)
  bounded_maxima A B a b j past = rw (a j past, b j past)

  pub bounded_replaced : (A B : Codes) → Bounded n A → Bounded n B → Bounded n (replaced A B)
  bounded_replaced A B a b zero past = rw (a 0 past)
  bounded_replaced A B a b (suc j) past = rw (a (suc j) past, b (suc j) past) (and-false (A 0))

  bounded_less0 : (A : Codes) → Bounded n A → Bounded n (less0 A)
  bounded_less0 A a zero past = refl
  bounded_less0 A a (suc j) past = a (suc j) past

  bounded_with0 : (A : Codes) → 0 < n → Bounded n A → Bounded n (with0 A)
  bounded_with0 A some a zero past = absurd (omega arith)
  bounded_with0 A some a (suc j) past = a (suc j) past

  -- larger codes fall by one at a trap
  pub bounded_caught : (A : Codes) → 2 ≤ n → Bounded (suc n) A → Bounded n (caught_codes A)
  bounded_caught A some a zero past = absurd (omega arith)
  bounded_caught A some a (suc zero) past = absurd (omega arith)
  bounded_caught A some a (suc (suc j)) past = a (suc (suc (suc j))) (omega arith)

  pub bounded_parallel : (Kp Rp Kq Rq : Codes) → Bounded n Rp → Bounded n Rq
      → Bounded n (join (maxima Rp Rq) (join (when (Kq 0 || Rq 0) Rp) (when (Kp 0 || Rp 0) Rq)))
  bounded_parallel Kp Rp Kq Rq p q =
      let alone =
      bounded_join (when (Kq 0 || Rq 0) Rp) (when (Kp 0 || Rp 0) Rq) (bounded_when (Kq 0 || Rq 0) Rp p)
      (bounded_when (Kp 0 || Rp 0) Rq q) in
      bounded_join (maxima Rp Rq) (join (when (Kq 0 || Rq 0) Rp) (when (Kp 0 || Rp 0) Rq)) (bounded_maxima Rp Rq p q) alone

-- where no exit's level is above 9, no code is
pub K_low : (t : Stmt) → Low t → Bounded max_codes (K t)
unfolding K Low
K_low (leaf Nothing) l = bounded_same max_codes 0 (omega arith)
K_low (leaf (Halt h)) l = bounded_same max_codes 1 (omega arith)
K_low (leaf (Emit s)) l = bounded_same max_codes 0 (omega arith)
K_low (two Sequence p q) l = bounded_replaced max_codes (K p) (K q) (K_low p l.0) (K_low q l.1)
K_low (one Loop p) l = bounded_less0 max_codes (K p) (K_low p l)
K_low (two (Present s) p q) l = bounded_join max_codes (K p) (K q) (K_low p l.0) (K_low q l.1)
K_low (one (Watching s) p) l = K_low p l
K_low (two Parallel p q) l = bounded_maxima max_codes (K p) (K q) (K_low p l.0) (K_low q l.1)
K_low (one Trap p) l = bounded_caught max_codes (K p) (omega arith) (bounded_more (suc max_codes) (K p) (omega arith) (K_low p l))
K_low (leaf (Exit k)) l = bounded_same max_codes k l
K_low (one (Signal s) p) l = K_low p l

pub R_low : (t : Stmt) → Low t → Bounded max_codes (R t)
unfolding R Low
R_low (leaf Nothing) l = bounded_empty max_codes
R_low (leaf (Halt h)) l = bounded_same max_codes 1 (omega arith)
R_low (leaf (Emit s)) l = bounded_empty max_codes
R_low (leaf (Exit k)) l = bounded_empty max_codes
R_low (two Sequence p q) l =
    bounded_join max_codes (replaced (R p) (K q)) (R q) (bounded_replaced max_codes (R p) (K q) (R_low p l.0) (K_low q l.1))
    (R_low q l.1)
R_low (one Loop p) l = bounded_replaced max_codes (R p) (less0 (K p)) (R_low p l) (bounded_less0 max_codes (K p) (K_low p l))
R_low (two (Present s) p q) l = bounded_join max_codes (R p) (R q) (R_low p l.0) (R_low q l.1)
R_low (one (Watching s) p) l = bounded_when max_codes (has_halts p) (with0 (R p)) (bounded_with0 max_codes (R p) (omega arith) (R_low p l))
R_low (two Parallel p q) l = bounded_parallel max_codes (K p) (R p) (K q) (R q) (R_low p l.0) (R_low q l.1)
R_low (one Trap p) l = bounded_caught max_codes (R p) (omega arith) (bounded_more (suc max_codes) (R p) (omega arith) (R_low p l))
R_low (one (Signal s) p) l = R_low p l

-- "one net for each code up to 1+d": under d traps no code is above 1+d
pub K_bound : (d : ℕ) (t : Stmt) → Exits d t → Bounded (2 + d) (K t)
unfolding K Exits
K_bound d (leaf Nothing) x = bounded_same (2 + d) 0 (omega arith)
K_bound d (leaf (Halt h)) x = bounded_same (2 + d) 1 (omega arith)
K_bound d (leaf (Emit s)) x = bounded_same (2 + d) 0 (omega arith)
K_bound d (two Sequence p q) x = bounded_replaced (2 + d) (K p) (K q) (K_bound d p x.0) (K_bound d q x.1)
K_bound d (one Loop p) x = bounded_less0 (2 + d) (K p) (K_bound d p x.1)
K_bound d (two (Present s) p q) x = bounded_join (2 + d) (K p) (K q) (K_bound d p x.0) (K_bound d q x.1)
K_bound d (one (Watching s) p) x = K_bound d p x.1
K_bound d (two Parallel p q) x = bounded_maxima (2 + d) (K p) (K q) (K_bound d p x.0) (K_bound d q x.1)
K_bound d (one Trap p) x =
    bounded_caught (2 + d) (K p) (omega arith) (bounded_more (suc (2 + d)) (K p) (omega arith) (K_bound (d + 1) p x.1))
K_bound d (leaf (Exit k)) x = bounded_same (2 + d) k (omega (arith, x.1))
K_bound d (one (Signal s) p) x = K_bound d p x.1

pub R_bound : (d : ℕ) (t : Stmt) → Exits d t → Bounded (2 + d) (R t)
unfolding R Exits
R_bound d (leaf Nothing) x = bounded_empty (2 + d)
R_bound d (leaf (Halt h)) x = bounded_same (2 + d) 1 (omega arith)
R_bound d (leaf (Emit s)) x = bounded_empty (2 + d)
R_bound d (leaf (Exit k)) x = bounded_empty (2 + d)
R_bound d (two Sequence p q) x =
    bounded_join (2 + d) (replaced (R p) (K q)) (R q)
    (bounded_replaced (2 + d) (R p) (K q) (R_bound d p x.0) (K_bound d q x.1)) (R_bound d q x.1)
R_bound d (one Loop p) x =
    bounded_replaced (2 + d) (R p) (less0 (K p)) (R_bound d p x.1) (bounded_less0 (2 + d) (K p) (K_bound d p x.1))
R_bound d (two (Present s) p q) x = bounded_join (2 + d) (R p) (R q) (R_bound d p x.0) (R_bound d q x.1)
R_bound d (one (Watching s) p) x =
    bounded_when (2 + d) (has_halts p) (with0 (R p)) (bounded_with0 (2 + d) (R p) (omega arith) (R_bound d p x.1))
R_bound d (two Parallel p q) x = bounded_parallel (2 + d) (K p) (R p) (K q) (R q) (R_bound d p x.0) (R_bound d q x.1)
R_bound d (one Trap p) x =
    bounded_caught (2 + d) (R p) (omega arith) (bounded_more (suc (2 + d)) (R p) (omega arith) (R_bound (d + 1) p x.1))
R_bound d (one (Signal s) p) x = R_bound d p x.1

-- a sheet's statements are such: at most 8 traps one in another
pub exits_low : (d : ℕ) (t : Stmt) → d ≤ max_traps → Exits d t → Low t
unfolding Exits Low
exits_low d (leaf Nothing) few x = tt
exits_low d (leaf (Halt h)) few x = tt
exits_low d (leaf (Emit s)) few x = tt
exits_low d (leaf (Exit k)) few x = omega (arith, x.1)
exits_low d (one Loop p) few x = exits_low d p few x.1
exits_low d (one (Watching s) p) few x = exits_low d p few x.1
exits_low d (one Trap p) few x = exits_low (d + 1) p (omega (arith, x.0)) x.1
exits_low d (one (Signal s) p) few x = exits_low d p few x.1
exits_low d (two b p q) few x = (exits_low d p few x.0, exits_low d q few x.1)

-- a statement has halts where it has more than none ..
pub halts_counted : (t : Stmt) → has_halts t ≡ ltb 0 (halt_count t)
unfolding has_halts halt_count
halts_counted (leaf Nothing) = refl
halts_counted (leaf (Halt h)) = refl
halts_counted (leaf (Emit s)) = refl
halts_counted (leaf (Exit k)) = refl
halts_counted (one u p) = halts_counted p
halts_counted (two b p q) = rw (halts_counted p, halts_counted q) (either (halt_count p) (halt_count q))
  where
    either : (m n : ℕ) → (ltb 0 m || ltb 0 n) ≡ ltb 0 (m + n)
    either zero n = let only : 0 + n ≡ n = omega arith in rw only
    either (suc m) n = rw (lt-ltb 0 (suc m) (omega arith), lt-ltb 0 (suc m + n) (omega arith))

-- .. and its row says so
pub halts_row : (rows : List Row) (n : StmtNo) (a : HaltNo) (t : Stmt) → Holds rows n a t
    → ltb (of_halt (row_at rows n).first) (of_halt (row_at rows n).past) ≡ has_halts t
halts_row rows n a t h = rw (first_of rows n a t h, past_of rows n a t h) (go (halt_count t) refl)
  where
    go : (m : ℕ) → halt_count t ≡ m → ltb (of_halt a) (of_halt a + halt_count t) ≡ has_halts t
    go zero e = le-ltb (of_halt a) (of_halt a + halt_count t) (omega arith) ∙ sym (rw (halts_counted t, e))
    go (suc m) e =
        lt-ltb (of_halt a) (of_halt a + halt_count t) (omega arith) ∙ sym (rw (halts_counted t, e) (lt-ltb 0 (suc m) (omega arith)))

-- "R: empty for a statement without halts"
pub R_none : (t : Stmt) → halt_count t ≡ 0 → (j : ℕ) → R t j ≡ false
unfolding R halt_count
R_none (leaf Nothing) h j = refl
R_none (leaf (Halt k)) h j = absurd (omega arith)
R_none (leaf (Emit s)) h j = refl
R_none (leaf (Exit k)) h j = refl
R_none (two Sequence p q) h zero = rw (R_none p (omega arith) 0, R_none q (omega arith) 0)
R_none (two Sequence p q) h (suc j) = rw (R_none p (omega arith) 0, R_none p (omega arith) (suc j), R_none q (omega arith) (suc j))
R_none (one Loop p) h zero = rw (R_none p h 0)
R_none (one Loop p) h (suc j) = rw (R_none p h 0, R_none p h (suc j))
R_none (two (Present s) p q) h j = rw (R_none p (omega arith) j, R_none q (omega arith) j)
R_none (one (Watching s) p) h j = rw (halts_counted p, h)
R_none (two Parallel p q) h j =
    rw (R_none p (omega arith) j, R_none q (omega arith) j, and-false (K q 0 || R q 0), and-false (K p 0 || R p 0))
R_none (one Trap p) h zero = rw (R_none p h 0, R_none p h 2)
R_none (one Trap p) h (suc zero) = R_none p h 1
R_none (one Trap p) h (suc (suc j)) = R_none p h (suc (suc (suc j)))
R_none (one (Signal s) p) h j = R_none p h j
