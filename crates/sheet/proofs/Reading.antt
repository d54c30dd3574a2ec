-- The laws of `read_stmt` that the reader's proof stands on: how one level goes, where it stops, and what a head that was read says.
use mathlib.Core.Path.{◌≡◌, refl, sym, ap, ◌∙◌, fun_ext}
use mathlib.Core.Bool.{Bool, true, false, ◌||◌, false≢true}
use mathlib.Core.List.{List}
use Prim.Native.Nat.{ℕ, zero, suc, ◌+◌, ◌-◌, ◌<◌, ◌≤◌}
use native.Mathlib.Omega.{arith}
use native.Mathlib.Decide.{dec_lt, ℕ_discrete}
use lib.Dec.{ltb, eqb}
use borrow.Author.Tests.{ltb-false, le-leb, lt-leb, ne_eqb}
use Rattle.number.proofs.Bools.{or_right_off}
use Rattle.bits.specs.declared.Bits.{Bits}
use Rattle.bits.specs.Bits.{has, signal_bit, width, whole}
use Rattle.bits.proofs.Whole.{Proper, has_wide}
use Rattle.limits.specs.Limits.{max_statements}
use Rattle.number.specs.declared.Cursor.{Cursor}
use Rattle.number.specs.declared.Fault.{Fault}
use Rattle.number.specs.declared.SignalNo.{SignalNo}
use Rattle.number.specs.declared.StmtNo.{StmtNo}
use Rattle.number.specs.declared.Refusal.TheVariants.{Kind, Count}
use Rattle.number.specs.Counts.{of_stmt}
use Rattle.number.specs.Refusals.{fault}
use Rattle.number.specs.Number.{pick}
use Rattle.sheet.specs.declared.Unary.{Unary}
use Rattle.sheet.specs.declared.Unary.TheVariants.{Signal}
use Rattle.sheet.specs.declared.Head.{Head}
use Rattle.sheet.specs.declared.Head.TheVariants.{Zero, One, Two}
use Rattle.sheet.specs.declared.Marks.{Marks}
use Rattle.sheet.specs.declared.Env.{Env}
use Rattle.sheet.specs.Read.{Around, of_kind, head_at, inside, refused, parts, read_stmt, root_around}
use Rattle.sheet.specs.Contract.{around, LocalFits}
use Rattle.sheet.proofs.Induction.{HeadIs, headed}
use Rattle.sheet.proofs.Induction.{nothing, halt, emit, sequence, loop, present, watching, parallel, trap, exit, local}
use Rattle.std.specs.Prelude.{Result, Ok, Err}
use Rattle.std.specs.Result.{IsErrAnd}
use Rattle.std.proofs.lemmas.Result.{err_from_is_err_and}

-- what `?` hands on is the fault that was met
pub handed_on : {T : Type 0} {r : Result T Fault} {f : Fault} → IsErrAnd r (λ d. d ≡ f) → r ≡ Err f
handed_on {r = r} h = let p = err_from_is_err_and r h in rw (p.1, p.2)

-- two tests that lead to the same are one
pub pick_either : {A : Type 0} (a b : Bool) (x y : A) → pick a x (pick b x y) ≡ pick (a || b) x y
unfolding pick
pick_either true b x y = refl
pick_either false b x y = refl

-- what the last arm of a `match` knows: k is none of the first n numbers
abbrev pub Passed : ℕ → ℕ → Type 0
Passed k zero = Unit
Passed k (suc n) = Passed k n × (k ≡ n → ⊥)

is_not : (n k : ℕ) → Passed k n → (j : ℕ) → j < n → eqb k j ≡ false
is_not zero k h j below = absurd (omega arith)
is_not (suc n) k h j below = go (ℕ_discrete j n) (is_not n k h.0 j)
  where
    go : Dec (j ≡ n) → (j < n → eqb k j ≡ false) → eqb k j ≡ false
    go (yes e) before = ne_eqb k j (λ q. h.1 (q ∙ e))
    go (no e) before = before (omega arith)

-- any kind but 0 to 10 is KIND
pub over_ten : (s : List ℕ) (e : Around) (place : ℕ) (m : Marks) (k : ℕ) → Passed k 11 → of_kind s e place m k ≡ Err (fault Kind place)
unfolding of_kind pick
over_ten s e place m k h =
    let other : (j : ℕ) → j < 11 → eqb k j ≡ false = is_not 11 k h in
    simp (
      other 0 (omega arith),
      other 1 (omega arith),
      other 2 (omega arith),
      other 3 (omega arith),
      other 4 (omega arith),
      other 5 (omega arith),
      other 6 (omega arith),
      other 7 (omega arith),
      other 8 (omega arith),
      other 9 (omega arith),
      other 10 (omega arith),
    )

-- what the code's set means after `add`: one signal more may be named
pub inside_signal : (e : Env) (x : SignalNo) (b : Bits) → ((j : ℕ) → has (whole b) j ≡ (has (whole e.scope) j || eqb j (signal_bit x)))
    → around (record { inputs = e.inputs; traps = e.traps; scope = b }) ≡ inside (around e) (Signal x)
unfolding inside
inside_signal e x b h =
    ap (λ (f : SignalNo → Bool). record { inputs = e.inputs; traps = e.traps; scope = f }) (fun_ext λ y. h (signal_bit y))

-- and after `below`: those that may be named at the root
pub at_root : (i o : ℕ) (b : Bits) → ((j : ℕ) → has (whole b) j ≡ ltb j (1 + i + o))
    → around (record { inputs = i; traps = 0; scope = b }) ≡ root_around i o
at_root i o b h = ap (λ (f : SignalNo → Bool). record { inputs = i; traps = 0; scope = f }) (fun_ext λ y. h (signal_bit y))

-- a signal that may be named is one that a set holds
pub named_small : {b : Bits} → Proper b.words → (k : ℕ) → has (whole b) k ≡ true → k < width
named_small {b} proper k named = go (dec_lt k width)
  where
    go : Dec (k < width) → k < width
    go (yes h) = h
    go (no h) = absurd (false≢true (sym (has_wide {b = b} proper k (omega arith)) ∙ named))

-- a level that is no fault is at most 1 + d
pub level_small : (k d : ℕ) → (ltb k 2 || ltb (1 + d) k) ≡ false → k ≤ 1 + d
level_small k d e = ltb-false (1 + d) k (or_right_off (ltb k 2) (ltb (1 + d) k) e)

-- a local that was read is not past the last signal: from there on it is refused
abbrev HeadFits : Head → Type 0
HeadFits (Zero l) = Unit
HeadFits (One u) = LocalFits u
HeadFits (Two b) = Unit

head_fits : {s : List ℕ} {e : Around} {m m1 : Marks} {c : Cursor} {h : Head} → HeadIs s e m c h m1 → HeadFits h
head_fits (nothing q) = tt
head_fits (halt q few) = tt
head_fits (emit q r own) = tt
head_fits (sequence q) = tt
head_fits (loop q) = tt
head_fits (present q r) = tt
head_fits (watching q r) = tt
head_fits (parallel q) = tt
head_fits (trap q few) = tt
head_fits (exit q w low high) = tt
head_fits (local q few) = few

pub local_fits : (s : List ℕ) (e : Around) (m : Marks) {u : Unary} {m1 : Marks} → head_at s e m ≡ Ok (One u, m1) → LocalFits u
local_fits s e m {u} {m1} h = head_fits (headed s e m (One u) m1 h).is

-- one level: a level is left, and the number is one that a statement may have
pub step : (left : ℕ) (s : List ℕ) (e : Around) (n : StmtNo) (m : Marks) → (left ≡ 0 → ⊥) → of_stmt n < max_statements
    → read_stmt left s e n m ≡ parts (λ e1 n1 m1. read_stmt (left - 1) s e1 n1 m1) e n (head_at s e m)
unfolding read_stmt pick
step zero s e n m some few = absurd (some refl)
step (suc left) s e n m some few =
    let less : suc left - 1 ≡ left = omega arith in
    rw less (rw (lt-leb max_statements (of_stmt n) few, read_stmt))

-- no level is left
pub no_level : (left : ℕ) (s : List ℕ) (e : Around) (n : StmtNo) (m : Marks) → left ≡ 0
    → read_stmt left s e n m ≡ refused (fault Count m.at)
unfolding read_stmt
no_level left s e n m none = rw none

-- it is past the last statement
pub too_many : (left : ℕ) (s : List ℕ) (e : Around) (n : StmtNo) (m : Marks) → max_statements ≤ of_stmt n
    → read_stmt left s e n m ≡ refused (fault Count m.at)
unfolding read_stmt pick
too_many zero s e n m many = refl
too_many (suc left) s e n m many = rw (le-leb max_statements (of_stmt n) many, read_stmt)
