-- A sheet that TWICE does not refuse: no loop goes round at an instant in which it has resumed a parallel or signal statement that starting its
-- body may start. The one place where TWICE is used, for demand 3 and for 004's rules.
use mathlib.Core.Path.{◌≡◌, refl, sym, ◌∙◌}
use mathlib.Core.Bool.{true, false, ◌&&◌, false≢true, or-true}
use mathlib.Core.List.{List, [], ◌∷◌, ◌++◌, map}
use Prim.Native.Nat.{ℕ, zero, suc, ◌+◌}
use native.Mathlib.Omega.{arith}
use Rattle.number.specs.declared.StmtNo.{StmtNo}
use Rattle.number.proofs.Bools.{or_left, or_cases, off, and_left, and_right, and_both, or_left_off, or_right_off}
use Rattle.sheet.specs.declared.Unary.TheVariants.{Loop, Watching, Trap, Signal}
use Rattle.sheet.specs.declared.Binary.TheVariants.{Sequence, Present, Parallel}
use Rattle.sheet.specs.Stmt.{Stmt, leaf, one, two, size}
use Rattle.sheet.specs.Read.{further}
use Rattle.sets.specs.Codes.{Codes, empty, join, when, replaced, caught, caught_codes}
use Rattle.sets.specs.Static.{K, R}
use Rattle.sets.specs.Faults.{Climb, through, behind, looped, besides, climbs, first_fault, twice}
use Rattle.rules.proofs.Codes.{caught_in, clear_loop}
use Rattle.std.specs.Prelude.{None}

-- The codes of a resumption of t that resumes a parallel or signal statement which a start of t may start. (Those of a signal statement's part are in
-- its R; they are joined so that no law has to say it.)
unfoldable pub Redo : Stmt → Codes
unfolding K R
Redo (leaf l) = empty
Redo (one Loop p) = Redo p
Redo (one (Watching s) p) = Redo p
Redo (one Trap p) = caught_codes (Redo p)
Redo (one (Signal s) p) = join (R (one (Signal s) p)) (Redo p)
Redo (two Sequence p q) = join (replaced (Redo p) (K q)) (when (K p 0) (Redo q))
Redo (two (Present s) p q) = join (Redo p) (Redo q)
Redo (two Parallel p q) = R (two Parallel p q)

unfoldable pub NoRestart : Stmt → Type 0
unfolding Redo
NoRestart (leaf l) = Unit
NoRestart (one Loop p) = (Redo p 0 ≡ false) × NoRestart p
NoRestart (one (Watching s) p) = NoRestart p
NoRestart (one Trap p) = NoRestart p
NoRestart (one (Signal s) p) = NoRestart p
NoRestart (two b p q) = NoRestart p × NoRestart q

-- all codes of A are such
abbrev All : (ℕ → Type 0) → Codes → Type 0
All P A = (j : ℕ) → A j ≡ true → P j

-- no climb has met the fault, and where a start may start its X all its codes are such
unfoldable Fine : (ℕ → Type 0) → List Climb → Type 0
Fine P [] = Unit
Fine P (c ∷ cs) = (c.fault ≡ false) × (c.starts ≡ true → All P c.codes) × Fine P cs

abbrev Any : ℕ → Type 0
Any j = Unit

fine_clear : (cs : List Climb) → first_fault cs ≡ None → Fine Any cs
unfolding first_fault Fine
fine_clear [] e = tt
fine_clear (c ∷ cs) e = let k = clear_loop c.at c.fault (first_fault cs) e in (k.0, λ s j a. tt, fine_clear cs k.1)

module _ (P : ℕ → Type 0) where
  fine_first : (xs ys : List Climb) → Fine P (xs ++ ys) → Fine P xs
  unfolding Fine
  fine_first [] ys f = tt
  fine_first (c ∷ cs) ys f = (f.0, f.1, fine_first cs ys f.2)

  fine_second : (xs ys : List Climb) → Fine P (xs ++ ys) → Fine P ys
  unfolding Fine
  fine_second [] ys f = f
  fine_second (c ∷ cs) ys f = fine_second cs ys f.2

  fine_through : (f : Codes → Codes) (Q : ℕ → Type 0) → ((A : Codes) → All P (f A) → All Q A) → (cs : List Climb) → Fine P (map (through f) cs) → Fine Q cs
  unfolding Fine
  fine_through f Q back [] g = tt
  fine_through f Q back (c ∷ cs) g = (g.0, λ s. back c.codes (g.1 s), fine_through f Q back cs g.2)

  -- "a right side of a sequence is reached only if its left has 0 in K"
  fine_behind : (p : Stmt) → K p 0 ≡ true → (cs : List Climb) → Fine P (map (behind p) cs) → Fine P cs
  unfolding Fine
  fine_behind p k [] g = tt
  fine_behind p k (c ∷ cs) g = (g.0, λ s. g.1 (and_both (K p 0) c.starts k s), fine_behind p k cs g.2)

  -- whatever the codes, where a step of a climb is no fault
  fine_any : (step : Climb → Climb) → ((c : Climb) → (step c).fault ≡ c.fault) → (cs : List Climb) → Fine P (map step cs) → Fine Any cs
  unfolding Fine
  fine_any step same [] g = tt
  fine_any step same (c ∷ cs) g = (sym (same c) ∙ g.0, λ s j a. tt, fine_any step same cs g.2)

  -- "A loop reached with 0 in C shall be a fault only if starting its body may start X in the same instant"
  abbrev NotZero : ℕ → Type 0
  NotZero j = P j × (j ≡ 0 → ⊥)

  not_zero : (C B : Codes) → C 0 ≡ false → All P (replaced C B) → All NotZero C
  not_zero C B none f zero a = absurd (false≢true (rw none at a))
  not_zero C B none f (suc j) a = (f (suc j) (or_left (C (suc j)) (C 0 && B (suc j)) a), λ e. omega arith)

  fine_looped : (p : Stmt) (cs : List Climb) → Fine P (map (looped p) cs) → Fine NotZero cs
  unfolding Fine
  fine_looped p [] g = tt
  fine_looped p (c ∷ cs) g =
      let none : (c.starts && c.codes 0) ≡ false = or_right_off c.fault (c.starts && c.codes 0) g.0 in (
        or_left_off c.fault (c.starts && c.codes 0) g.0,
        λ s. not_zero c.codes (K p) (rw s at none) (g.1 s),
        fine_looped p cs g.2,
      )

  -- "As left of a sequence, 0 in C is replaced by K(right).": what is asked of the codes of the left
  abbrev Before : Codes → ℕ → Type 0
  Before B zero = All P B
  Before B (suc j) = P (suc j)

  replaced_back : (A B : Codes) → All P (replaced A B) → All (Before B) A
  replaced_back A B f zero a = go
    where
      go : (i : ℕ) → B i ≡ true → P i
      go zero b = f 0 (rw (a, b))
      go (suc i) b = f (suc i) (rw (a, b, or-true))
  replaced_back A B f (suc j) a = f (suc j) (or_left (A (suc j)) (A 0 && B (suc j)) a)

  replaced_on : (A B : Codes) → All (Before B) A → All P (replaced A B)
  replaced_on A B f zero e = f 0 (and_left (A 0) (B 0) e) 0 (and_right (A 0) (B 0) e)
  replaced_on A B f (suc j) e =
      or_cases (A (suc j)) (A 0 && B (suc j)) (f (suc j)) (λ b. f 0 (and_left (A 0) (B (suc j)) b) (suc j) (and_right (A 0) (B (suc j)) b)) e

  -- "A trap maps."
  abbrev Caught : ℕ → Type 0
  Caught j = P (caught j)

  caught_back : (A : Codes) → All P (caught_codes A) → All Caught A
  caught_back A f j a = f (caught j) (caught_in A j a)

  caught_on : (A : Codes) → All Caught A → All P (caught_codes A)
  caught_on A f zero e = or_cases (A 0) (A 2) (f 0) (f 2) e
  caught_on A f (suc zero) e = f 1 e
  caught_on A f (suc (suc j)) e = f (suc (suc (suc j))) e

-- each code of Redo is a code with which some climb comes
redo_fine : (P : ℕ → Type 0) (n : StmtNo) (t : Stmt) → Fine P (climbs n t) → All P (Redo t)
unfolding climbs Redo Fine
redo_fine P n (leaf l) f j e = absurd (false≢true e)
redo_fine P n (one Loop p) f j e = (redo_fine (NotZero P) (further n 1) p (fine_looped P p (climbs (further n 1) p) f) j e).0
redo_fine P n (one (Watching s) p) f j e = redo_fine P (further n 1) p f j e
redo_fine P n (one Trap p) f j e =
    caught_on P (Redo p) (redo_fine (Caught P) (further n 1) p (fine_through P caught_codes (Caught P) (caught_back P) (climbs (further n 1) p) f)) j e
redo_fine P n (one (Signal s) p) f j e =
    or_cases (R (one (Signal s) p) j) (Redo p j) (f.1 refl j) (redo_fine P (further n 1) p f.2 j) e
redo_fine P n (two Sequence p q) f j e =
    let xs : List Climb = climbs (further n 1) p in
    let ys : List Climb = climbs (further n (1 + size p)) q in
    let replacing : Codes → Codes = λ C. replaced C (K q) in
    let lefts : List Climb = map (through replacing) xs in
    let rights : List Climb = map (behind p) ys in
    let left : Fine (Before P (K q)) xs =
    fine_through P replacing (Before P (K q)) (λ A. replaced_back P A (K q)) xs (fine_first P lefts rights f) in
    let right : K p 0 ≡ true → Fine P ys = λ k. fine_behind P p k ys (fine_second P lefts rights f) in
    or_cases (replaced (Redo p) (K q) j) (K p 0 && Redo q j)
    (replaced_on P (Redo p) (K q) (redo_fine (Before P (K q)) (further n 1) p left) j)
    (λ b. redo_fine P (further n (1 + size p)) q (right (and_left (K p 0) (Redo q j) b)) j (and_right (K p 0) (Redo q j) b)) e
redo_fine P n (two (Present s) p q) f j e =
    let xs : List Climb = climbs (further n 1) p in
    let ys : List Climb = climbs (further n (1 + size p)) q in
    or_cases (Redo p j) (Redo q j) (redo_fine P (further n 1) p (fine_first P xs ys f) j) (redo_fine P (further n (1 + size p)) q (fine_second P xs ys f) j) e
redo_fine P n (two Parallel p q) f j e = f.1 refl j e

fine_restart : (P : ℕ → Type 0) (n : StmtNo) (t : Stmt) → Fine P (climbs n t) → NoRestart t
unfolding climbs NoRestart Fine
fine_restart P n (leaf l) f = tt
fine_restart P n (one Loop p) f =
    let g : Fine (NotZero P) (climbs (further n 1) p) = fine_looped P p (climbs (further n 1) p) f in
    (off (Redo p 0) (λ e. (redo_fine (NotZero P) (further n 1) p g 0 e).1 refl), fine_restart (NotZero P) (further n 1) p g)
fine_restart P n (one (Watching s) p) f = fine_restart P (further n 1) p f
fine_restart P n (one Trap p) f = fine_restart Any (further n 1) p (fine_any P (through caught_codes) (λ c. refl) (climbs (further n 1) p) f)
fine_restart P n (one (Signal s) p) f = fine_restart P (further n 1) p f.2
fine_restart P n (two Sequence p q) f =
    let xs : List Climb = climbs (further n 1) p in
    let ys : List Climb = climbs (further n (1 + size p)) q in
    let before : Climb → Climb = through (λ C. replaced C (K q)) in
    let lefts : List Climb = map before xs in
    let rights : List Climb = map (behind p) ys in (
      fine_restart Any (further n 1) p (fine_any P before (λ c. refl) xs (fine_first P lefts rights f)),
      fine_restart Any (further n (1 + size p)) q (fine_any P (behind p) (λ c. refl) ys (fine_second P lefts rights f)),
    )
fine_restart P n (two (Present s) p q) f =
    let xs : List Climb = climbs (further n 1) p in
    let ys : List Climb = climbs (further n (1 + size p)) q in
    (fine_restart P (further n 1) p (fine_first P xs ys f), fine_restart P (further n (1 + size p)) q (fine_second P xs ys f))
fine_restart P n (two Parallel p q) f =
    let xs : List Climb = climbs (further n 1) p in
    let ys : List Climb = climbs (further n (1 + size p)) q in
    let left : List Climb = map (through (besides q)) xs in
    let right : List Climb = map (through (besides p)) ys in (
      fine_restart Any (further n 1) p (fine_any P (through (besides q)) (λ c. refl) xs (fine_first P left right f.2)),
      fine_restart Any (further n (1 + size p)) q (fine_any P (through (besides p)) (λ c. refl) ys (fine_second P left right f.2)),
    )

-- TWICE is not answered
pub no_restart : (n : StmtNo) (t : Stmt) → twice n t ≡ None → NoRestart t
unfolding twice
no_restart n t e = fine_restart Any n t (fine_clear (climbs n t) e)
