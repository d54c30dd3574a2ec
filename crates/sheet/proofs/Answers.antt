-- What each way out of `read_stmt`, `read_root` and `read_sheet` answers: one law for each, over plain variables.
use mathlib.Core.Path.{◌≡◌, refl, sym, ap, ◌∙◌}
use mathlib.Core.List.{List}
use Prim.Native.Nat.{ℕ, ◌+◌, ◌-◌, ◌<◌, ◌≤◌}
use native.Mathlib.Omega.{arith}
use native.Mathlib.Nat.{add_assoc}
use lib.ListN.{length, set}
use borrow.Author.Tests.{lt-ltb, le-ltb}
use Rattle.number.specs.declared.Fault.{Fault}
use Rattle.number.specs.declared.HaltNo.{HaltNo}
use Rattle.number.specs.declared.SignalNo.{SignalNo}
use Rattle.number.specs.declared.StmtNo.{StmtNo}
use Rattle.number.specs.declared.Refusal.TheVariants.{Count, Extra}
use Rattle.number.specs.Counts.{of_signal, halt_no, of_halt, stmt_no, of_stmt}
use Rattle.number.specs.Number.{pick, cursor}
use Rattle.number.specs.Refusals.{fault}
use Rattle.limits.specs.Limits.{max_statements, max_level, max_signals}
use Rattle.sheet.specs.declared.Leaf.{Leaf}
use Rattle.sheet.specs.declared.Unary.{Unary}
use Rattle.sheet.specs.declared.Binary.{Binary}
use Rattle.sheet.specs.declared.Head.{Head}
use Rattle.sheet.specs.declared.Head.TheVariants.{Zero, One, Two}
use Rattle.sheet.specs.declared.Marks.{Marks}
use Rattle.sheet.specs.declared.Counts.{Counts}
use Rattle.sheet.specs.Stmt.{Stmt, leaf, one, two, head_of, size, halt_count, local_count}
use Rattle.sheet.specs.Read.{Around, head_at, inside, Outcome, got, refused, and_then, further, parts, read_stmt}
use Rattle.sheet.specs.Read.{SheetOutcome, faulty, root_around, root_marks, ended, root_read, after_outputs}
use Rattle.sheet.specs.declared.Row.{Row}
use Rattle.sheet.specs.Rows.{row_of, halts_on, lay}
use Rattle.sheet.specs.Answer.{sheet_answer}
use Rattle.sheet.specs.Contract.{stmt_answer, Laid, DidStmt, Noted, SheetLaid, DidSheet}
use Rattle.sheet.proofs.Moved.{Moved, moved}
use Rattle.sheet.proofs.Reading.{step, no_level, too_many}
use Rattle.std.specs.Prelude.{Result, Ok, Err}

-- an answer says its outcome: a refusal ..
stopped_is : (n : StmtNo) (o : Outcome) {f : Fault} {r : Result (StmtNo × Marks) Fault} → r ≡ stmt_answer n o → r ≡ Err f → o ≡ refused f
unfolding stmt_answer
stopped_is n (got t m) a b = let z : ◌≡◌ {A = ℕ} 0 1 = cc in absurd (omega arith)
stopped_is n (refused g) a b = cc

-- .. or a statement, which the rows then hold
record Gave (n : StmtNo) (a : HaltNo) (o : Outcome) (k : StmtNo) (m : Marks) (K K' : List Row) : Type 0 where
  stmt : Stmt
  outcome : o ≡ got stmt m
  past : k ≡ further n (size stmt)
  rows : K' ≡ lay K n a stmt

next_is : {n : StmtNo} {a : HaltNo} (o : Outcome) {k : StmtNo} {m : Marks} {r : Result (StmtNo × Marks) Fault} {K K' : List Row} → DidStmt n a o r K K'
    → r ≡ Ok (k, m) → Gave n a o k m K K'
unfolding stmt_answer Laid
next_is {n} {a} (got t m1) {k} {m} d q =
    let answer = d.answer in
    let same : (further n (size t), m1) ≡ (k, m) = cc in
    record {
      stmt = t;
      outcome = ap (λ (p : StmtNo × Marks). got t p.1) same;
      past = sym (ap (λ (p : StmtNo × Marks). p.0) same);
      rows = d.rows;
    }
next_is (refused f) d q = let answer = d.answer in let z : ◌≡◌ {A = ℕ} 0 1 = cc in absurd (omega arith)

-- a refusal, whatever was written before it
did_stop : {n : StmtNo} {a : HaltNo} {o : Outcome} {f : Fault} {K K' : List Row} → o ≡ refused f → DidStmt n a o (Err f) K K'
unfolding stmt_answer Laid
did_stop e = rw e (record { answer = refl; rows = tt })

further_on : (n : StmtNo) (j k : ℕ) → further (further n j) k ≡ further n (j + k)
further_on n j k = ap stmt_no (add_assoc (of_stmt n) j k)

same_halts : {a b : HaltNo} → of_halt a ≡ of_halt b → a ≡ b
same_halts e = ap halt_no e

-- how many halts a statement that was read passes
halts_passed : (left : ℕ) (s : List ℕ) (e : Around) (n : StmtNo) (m m' : Marks) (t : Stmt) → read_stmt left s e n m ≡ got t m'
    → of_halt m'.halts ≡ of_halt m.halts + halt_count t
halts_passed left s e n m m' t q = ap (λ (x : HaltNo). of_halt x) (moved left s e n m m' t q).halts

-- the statement n, where `left` levels are left, e holds around it and the marks m stand before it
module _ (left : ℕ) (s : List ℕ) (e : Around) (n : StmtNo) (m : Marks) where
  -- what is answered, and what is done to the rows K
  abbrev Did : Result (StmtNo × Marks) Fault → List Row → List Row → Type 0
  Did r K K' = DidStmt n m.halts (read_stmt left s e n m) r K K'

  -- no level is left
  pub level_stop : {K K' : List Row} → left ≡ 0 → Did (Err (fault Count m.at)) K K'
  level_stop none = did_stop (no_level left s e n m none)

  -- it is past the last statement
  pub number_stop : {K K' : List Row} → max_statements ≤ of_stmt n → Did (Err (fault Count m.at)) K K'
  number_stop many = did_stop (too_many left s e n m many)

  -- its row is put in after those of its parts
  did_note : {end : StmtNo} {m' : Marks} (t : Stmt) {r : StmtNo × Marks} {K K1 K2 : List Row} → read_stmt left s e n m ≡ got t m'
      → end ≡ further n (size t) → set K1 (of_stmt n) (row_of n m.halts t) ≡ lay K n m.halts t
      → Noted n (head_of t) m end m' r K1 K2 → Did (Ok r) K K2
  unfolding stmt_answer Laid
  did_note {end} {m'} t {r} {K} {K1} {K2} q past laid d =
      let halts : m'.halts ≡ halts_on m.halts (halt_count t) = (moved left s e n m m' t q).halts in
      let row : K2 ≡ set K1 (of_stmt n) (row_of n m.halts t) = rw (past, halts) at d.row in
      let answer : r ≡ (further n (size t), m') = rw past at d.answer in
      rw q (record { answer = ap Ok answer; rows = row ∙ laid })

  module _ (some : left ≡ 0 → ⊥) (few : of_stmt n < max_statements) where
    -- the head is refused
    pub head_stop : {f : Fault} {K K' : List Row} → head_at s e m ≡ Err f → Did (Err f) K K'
    unfolding parts
    head_stop h = did_stop (step left s e n m some few ∙ simp h)

    -- there are no parts
    pub leaf_did : {x : Head} {l : Leaf} {m1 : Marks} {r : StmtNo × Marks} {K K' : List Row} → head_at s e m ≡ Ok (x, m1) → x ≡ Zero l
        → Noted n x m (further n 1) m1 r K K' → Did (Ok r) K K'
    unfolding parts size head_of lay
    leaf_did {l = l} h is w = did_note (leaf l) (step left s e n m some few ∙ simp (h, is)) refl refl (rw is at w)

    module _ {x : Head} {u : Unary} {m1 : Marks} (h : head_at s e m ≡ Ok (x, m1)) (is : x ≡ One u) {r : Result (StmtNo × Marks) Fault} {K K1 : List Row}
        (d : DidStmt (further n 1) m1.halts (read_stmt (left - 1) s (inside e u) (further n 1) m1) r K K1) where
      -- the part is refused
      pub one_stop : {f : Fault} {K2 : List Row} → r ≡ Err f → Did (Err f) K K2
      unfolding parts and_then
      one_stop q = did_stop (step left s e n m some few ∙ simp (h, is, stopped_is (further n 1) _ d.answer q))

      -- the part was read: its halts begin where the statement's do
      pub one_did : {k : StmtNo} {m2 : Marks} {r2 : StmtNo × Marks} {K2 : List Row} → r ≡ Ok (k, m2) → Noted n (One u) m k m2 r2 K1 K2 → Did (Ok r2) K K2
      unfolding parts and_then size head_of halt_count lay
      one_did {k} {m2} {r2} {K2} q w = go (next_is (read_stmt (left - 1) s (inside e u) (further n 1) m1) d q)
        where
          go : Gave (further n 1) m1.halts (read_stmt (left - 1) s (inside e u) (further n 1) m1) k m2 K K1 → Did (Ok r2) K K2
          go g =
              let p : Stmt = g.stmt in
              let whole : read_stmt left s e n m ≡ got (one u p) m2 = step left s e n m some few ∙ simp (h, is, g.outcome) in
              let of_part = halts_passed (left - 1) s (inside e u) (further n 1) m1 m2 p g.outcome in
              let of_whole = halts_passed left s e n m m2 (one u p) whole in
              let start : m1.halts ≡ m.halts = same_halts (omega (arith, of_part, of_whole)) in
              did_note (one u p) whole (g.past ∙ further_on n 1 (size p)) (rw (g.rows, start)) w

    module _ {x : Head} {b : Binary} {m1 : Marks} (h : head_at s e m ≡ Ok (x, m1)) (is : x ≡ Two b) {r : Result (StmtNo × Marks) Fault} {K K1 : List Row}
        (d : DidStmt (further n 1) m1.halts (read_stmt (left - 1) s e (further n 1) m1) r K K1) where
      -- the first part is refused
      pub first_stop : {f : Fault} {K2 : List Row} → r ≡ Err f → Did (Err f) K K2
      unfolding parts and_then
      first_stop q = did_stop (step left s e n m some few ∙ simp (h, is, stopped_is (further n 1) _ d.answer q))

      module _ {middle : StmtNo} {m2 : Marks} (q : r ≡ Ok (middle, m2)) {r2 : Result (StmtNo × Marks) Fault} {K2 : List Row}
          (d2 : DidStmt middle m2.halts (read_stmt (left - 1) s e middle m2) r2 K1 K2) where
        -- the second part is refused
        pub second_stop : {f : Fault} {K3 : List Row} → r2 ≡ Err f → Did (Err f) K K3
        unfolding parts and_then
        second_stop {f} {K3} w = go (next_is (read_stmt (left - 1) s e (further n 1) m1) d q)
          where
            go : Gave (further n 1) m1.halts (read_stmt (left - 1) s e (further n 1) m1) middle m2 K K1 → Did (Err f) K K3
            go g =
                let p : Stmt = g.stmt in
                let place : middle ≡ further n (1 + size p) = g.past ∙ further_on n 1 (size p) in
                let second : read_stmt (left - 1) s e (further n (1 + size p)) m2 ≡ refused f =
                rw place at (stopped_is middle (read_stmt (left - 1) s e middle m2) d2.answer w) in
                did_stop (step left s e n m some few ∙ simp (h, is, g.outcome, second))

        -- both were read: the second's halts follow the first's
        pub two_did : {k : StmtNo} {m3 : Marks} {r3 : StmtNo × Marks} {K3 : List Row} → r2 ≡ Ok (k, m3) → Noted n x m k m3 r3 K2 K3 → Did (Ok r3) K K3
        unfolding parts and_then size head_of halt_count lay
        two_did {k} {m3} {r3} {K3} w v =
            go (next_is (read_stmt (left - 1) s e (further n 1) m1) d q) (next_is (read_stmt (left - 1) s e middle m2) d2 w)
          where
            go : Gave (further n 1) m1.halts (read_stmt (left - 1) s e (further n 1) m1) middle m2 K K1
                → Gave middle m2.halts (read_stmt (left - 1) s e middle m2) k m3 K1 K2 → Did (Ok r3) K K3
            go g g2 =
                let p : Stmt = g.stmt in
                let p2 : Stmt = g2.stmt in
                let place : middle ≡ further n (1 + size p) = g.past ∙ further_on n 1 (size p) in
                let second : read_stmt (left - 1) s e (further n (1 + size p)) m2 ≡ got p2 m3 = rw place at g2.outcome in
                let whole : read_stmt left s e n m ≡ got (two b p p2) m3 = step left s e n m some few ∙ simp (h, is, g.outcome, second) in
                let of_first = halts_passed (left - 1) s e (further n 1) m1 m2 p g.outcome in
                let of_second = halts_passed (left - 1) s e middle m2 m3 p2 g2.outcome in
                let of_whole = halts_passed left s e n m m3 (two b p p2) whole in
                let start : m1.halts ≡ m.halts = same_halts (omega (arith, of_first, of_second, of_whole)) in
                let between : m2.halts ≡ halts_on m.halts (halt_count p) = same_halts (omega (arith, of_first, of_second, of_whole)) in
                let end : k ≡ further n (1 + size p + size p2) =
                g2.past ∙ ap (λ x. further x (size p2)) place ∙ further_on n (1 + size p) (size p2) in
                did_note (two b p p2) whole end (rw (g2.rows, g.rows, place, between, start)) (rw is at v)

-- a sheet is refused, whatever was written before
pub sheet_stop : {o : SheetOutcome} {f : Fault} {K K' : List Row} → o ≡ faulty f → DidSheet o (Err f) K K'
unfolding sheet_answer SheetLaid
sheet_stop e = rw e (record { answer = refl; rows = tt })

-- the root of a sheet with i inputs and o outputs, which begins at `at`
module _ (s : List ℕ) (i o at : ℕ) {r : Result (StmtNo × Marks) Fault} {K K1 : List Row}
    (d : DidStmt (stmt_no 0) (halt_no 0) (read_stmt max_level s (root_around i o) (stmt_no 0) (root_marks at i o)) r K K1) where
  abbrev root : Outcome
  root = read_stmt max_level s (root_around i o) (stmt_no 0) (root_marks at i o)

  -- it is refused
  pub root_stop : {f : Fault} {K2 : List Row} → r ≡ Err f → DidSheet (root_read s i o at) (Err f) K K2
  unfolding root_read ended
  root_stop q = sheet_stop (simp (stopped_is (stmt_no 0) root d.answer q))

  -- bytes are left after it
  pub root_extra : {k : StmtNo} {m : Marks} {K2 : List Row} → r ≡ Ok (k, m) → m.at < length s
      → DidSheet (root_read s i o at) (Err (fault Extra m.at)) K K2
  unfolding root_read ended pick
  root_extra {m = m} q more = sheet_stop (simp ((next_is root d q).outcome, lt-ltb m.at (length s) more))

  -- it is the whole sheet: what was counted is what the statement has
  abbrev counted : StmtNo → Marks → Counts
  counted k m = record { inputs = i; outputs = o; statements = of_stmt k; halts = of_halt m.halts; signals = of_signal m.signals }

  pub root_read_lem : {k : StmtNo} {m : Marks} → r ≡ Ok (k, m) → length s ≤ m.at → DidSheet (root_read s i o at) (Ok (counted k m)) K K1
  unfolding root_read ended pick sheet_answer SheetLaid
  root_read_lem {k} {m} q all = go (next_is root d q)
    where
      go : Gave (stmt_no 0) (halt_no 0) root k m K K1 → DidSheet (root_read s i o at) (Ok (counted k m)) K K1
      go g =
          let t : Stmt = g.stmt in
          let passed : Moved (root_marks at i o) m t = moved max_level s (root_around i o) (stmt_no 0) (root_marks at i o) m t g.outcome in
          let statements : of_stmt k ≡ size t = omega (arith, ap (λ (x : StmtNo). of_stmt x) g.past) in
          let halts : of_halt m.halts ≡ halt_count t = omega (arith, ap (λ (x : HaltNo). of_halt x) passed.halts) in
          let signals : of_signal m.signals ≡ 1 + i + o + local_count t = ap (λ (x : SignalNo). of_signal x) passed.signals in
          rw (g.outcome, le-ltb m.at (length s) all) (record { answer = rw (statements, halts, signals); rows = g.rows })

-- the header's two numbers: too many signals ..
pub header_stop : (s : List ℕ) (i o second at : ℕ) → max_signals < 1 + i + o
    → after_outputs s i second (Ok (o, cursor at)) ≡ faulty (fault Count second)
unfolding after_outputs pick
header_stop s i o second at many = simp (lt-ltb max_signals (1 + i + o) many)

-- .. or few enough
pub header_fits : (s : List ℕ) (i o second at : ℕ) → 1 + i + o ≤ max_signals
    → after_outputs s i second (Ok (o, cursor at)) ≡ root_read s i o at
unfolding after_outputs pick
header_fits s i o second at few = simp (le-ltb max_signals (1 + i + o) few)
