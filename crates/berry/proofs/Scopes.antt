-- A sheet's local signals: each signal statement declares another, and what is named is in scope.
use mathlib.Core.Path.{◌≡◌, refl, sym, ap, subst}
use mathlib.Core.Bool.{Bool, true, false, not, ◌&&◌, ◌||◌, false≢true}
use Prim.Native.Nat.{ℕ, ◌+◌, ◌<◌, ◌≤◌}
use native.Mathlib.Omega.{arith}
use borrow.Author.Tests.{eqb-true, eq-eqb}
use Rattle.number.specs.declared.SignalNo.{SignalNo}
use Rattle.number.specs.declared.HaltNo.{HaltNo}
use Rattle.number.specs.Counts.{signal_no, of_signal}
use Rattle.number.proofs.Bools.{taut, or_cases, off, both_off}
use Rattle.sheet.specs.declared.Leaf.{Leaf}
use Rattle.sheet.specs.declared.Leaf.TheVariants.{Nothing, Halt, Emit, Exit}
use Rattle.sheet.specs.declared.Unary.{Unary}
use Rattle.sheet.specs.declared.Unary.TheVariants.{Loop, Watching, Trap, Signal}
use Rattle.sheet.specs.declared.Binary.{Binary}
use Rattle.sheet.specs.declared.Binary.TheVariants.{Sequence, Present, Parallel}
use Rattle.sheet.specs.Stmt.{Stmt, leaf, one, two, halt_count, local_count}
use Rattle.sheet.specs.Read.{Around, inside, only}
use Rattle.sheet.specs.Form.{signals_on, LeafPlaced, UnaryPlaced, BinaryPlaced, Placed, halts_on}
use Rattle.sheet.proofs.Notions.{Below, below_on, below_inside}
use Rattle.sets.specs.Codes.{empty, join}
use Rattle.rules.specs.Rules.{Signals}

-- the signals that a statement declares
abbrev pub declared : Unary → Signals
declared Loop = empty
declared (Watching s) = empty
declared Trap = empty
declared (Signal s) = only s

unfoldable pub in_locals : Stmt → Signals
in_locals (leaf l) s = false
in_locals (one u p) s = declared u s || in_locals p s
in_locals (two b p q) s = in_locals p s || in_locals q s

-- With the signals X in scope: what is named is in scope, what is declared is not, and no signal is declared on both sides of a statement.
abbrev pub within : Signals → Unary → Signals
within X Loop = X
within X (Watching s) = X
within X Trap = X
within X (Signal s) = join X (only s)

abbrev pub LeafBound : Signals → Leaf → Type 0
LeafBound X Nothing = Unit
LeafBound X (Halt h) = Unit
LeafBound X (Emit s) = X s ≡ true
LeafBound X (Exit k) = Unit

abbrev pub UnaryBound : Signals → Unary → Type 0
UnaryBound X Loop = Unit
UnaryBound X (Watching s) = X s ≡ true
UnaryBound X Trap = Unit
UnaryBound X (Signal s) = X s ≡ false

abbrev pub BinaryBound : Signals → Binary → Type 0
BinaryBound X Sequence = Unit
BinaryBound X (Present s) = X s ≡ true
BinaryBound X Parallel = Unit

abbrev pub Different : Stmt → Stmt → Type 0
Different p q = (s : SignalNo) → (in_locals p s && in_locals q s) ≡ false

unfoldable pub Bound : Signals → Stmt → Type 0
unfolding in_locals
Bound X (leaf l) = LeafBound X l
Bound X (one u p) = UnaryBound X u × Bound (within X u) p
Bound X (two b p q) = BinaryBound X b × Bound X p × Bound X q × Different p q

-- the signal a alone is in X, or not
pub same_signal : (a s : SignalNo) → only a s ≡ true → s ≡ a
same_signal a s e = ap signal_no (eqb-true (of_signal s) (of_signal a) e)

pub only_self : (x : SignalNo) → only x x ≡ true
only_self x = eq-eqb (of_signal x) (of_signal x) refl

pub only_in : (X : Signals) (a s : SignalNo) → X a ≡ true → (only a s && not (X s)) ≡ false
only_in X a s on = go (only a s) refl
  where
    go : (b : Bool) → only a s ≡ b → (b && not (X s)) ≡ false
    go true e = rw (subst (λ (x : SignalNo). X x ≡ true) (sym (same_signal a s e)) on)
    go false e = refl

pub only_out : (X : Signals) (a s : SignalNo) → X a ≡ false → (only a s && X s) ≡ false
only_out X a s off = go (only a s) refl
  where
    go : (b : Bool) → only a s ≡ b → (b && X s) ≡ false
    go true e = subst (λ (x : SignalNo). X x ≡ false) (sym (same_signal a s e)) off
    go false e = refl

-- what is in scope is not declared
neither : (c d x : Bool) → (c && x) ≡ false → (d && x) ≡ false → ((c || d) && x) ≡ false
neither = taut 3 2 _ _ _ tt

declared_out : (m d x : Bool) → (m && x) ≡ false → (d && (x || m)) ≡ false → ((m || d) && x) ≡ false
declared_out = taut 3 2 _ _ _ tt

pub undeclared : (X : Signals) (t : Stmt) → Bound X t → (s : SignalNo) → (in_locals t s && X s) ≡ false
unfolding Bound in_locals
undeclared X (leaf l) b s = refl
undeclared X (one Loop p) b s = undeclared X p b.1 s
undeclared X (one (Watching x) p) b s = undeclared X p b.1 s
undeclared X (one Trap p) b s = undeclared X p b.1 s
undeclared X (one (Signal x) p) b s =
    declared_out (only x s) (in_locals p s) (X s) (only_out X x s b.0) (undeclared (join X (only x)) p b.1 s)
undeclared X (two x p q) b s = neither (in_locals p s) (in_locals q s) (X s) (undeclared X p b.1 s) (undeclared X q b.2 s)

-- A statement in its place: its locals are numbered from b on.
abbrev Between : SignalNo → ℕ → SignalNo → Type 0
Between b k s = (of_signal b ≤ of_signal s) × (of_signal s < of_signal b + k)

local_first : (b x s : SignalNo) (k : ℕ) → x ≡ b → only x s ≡ true → Between b (1 + k) s
local_first b x s k own here =
    let same : of_signal s ≡ of_signal x = eqb-true (of_signal s) (of_signal x) here in
    let number : of_signal x ≡ of_signal b = ap (λ (y : SignalNo). of_signal y) own in
    (omega arith, omega arith)

local_within : (e : Around) (a : HaltNo) (b : SignalNo) (t : Stmt) → Placed e a b t → (s : SignalNo) → in_locals t s ≡ true → Between b (local_count t) s
unfolding Placed UnaryPlaced in_locals local_count
local_within e a b (leaf l) h s on = absurd (false≢true on)
local_within e a b (one Loop p) h s on = let w = local_within (inside e Loop) a (signals_on b 0) p h.1 s on in (omega (arith, w.0), omega (arith, w.1))
local_within e a b (one (Watching x) p) h s on =
    let w = local_within (inside e (Watching x)) a (signals_on b 0) p h.1 s on in (omega (arith, w.0), omega (arith, w.1))
local_within e a b (one Trap p) h s on = let w = local_within (inside e Trap) a (signals_on b 0) p h.1 s on in (omega (arith, w.0), omega (arith, w.1))
local_within e a b (one (Signal x) p) h s on =
    or_cases (only x s) (in_locals p s) (local_first b x s (local_count p) h.0)
    (λ i. let w = local_within (inside e (Signal x)) a (signals_on b 1) p h.1 s i in (omega (arith, w.0), omega (arith, w.1))) on
local_within e a b (two x p q) h s on =
    or_cases (in_locals p s) (in_locals q s) (λ i. let w = local_within e a b p h.1 s i in (w.0, omega (arith, w.1)))
    (λ i. let w = local_within e (halts_on a (halt_count p)) (signals_on b (local_count p)) q h.2 s i in (omega (arith, w.0), omega (arith, w.1))) on

sides_different : (e : Around) (a : HaltNo) (b : SignalNo) (x : Binary) (p q : Stmt) → Placed e a b (two x p q) → Different p q
unfolding Placed
sides_different e a b x p q h s =
    both_off (in_locals p s) (in_locals q s) λ l r.
    let before = local_within e a b p h.1 s l in
    let after = local_within e (halts_on a (halt_count p)) (signals_on b (local_count p)) q h.2 s r in
    omega (arith, before.1, after.0)

pub placed_bound : (e : Around) (a : HaltNo) (b : SignalNo) (t : Stmt) → Below e b → Placed e a b t → Bound e.scope t
unfolding Placed Bound LeafPlaced UnaryPlaced BinaryPlaced inside
placed_bound e a b (leaf Nothing) below h = tt
placed_bound e a b (leaf (Halt k)) below h = tt
placed_bound e a b (leaf (Emit s)) below h = h.0
placed_bound e a b (leaf (Exit k)) below h = tt
placed_bound e a b (one Loop p) below h = (tt, placed_bound (inside e Loop) a (signals_on b 0) p (below_inside e b Loop h.0 below) h.1)
placed_bound e a b (one (Watching s) p) below h =
    (h.0, placed_bound (inside e (Watching s)) a (signals_on b 0) p (below_inside e b (Watching s) h.0 below) h.1)
placed_bound e a b (one Trap p) below h = (tt, placed_bound (inside e Trap) a (signals_on b 0) p (below_inside e b Trap h.0 below) h.1)
placed_bound e a b (one (Signal s) p) below h =
    (off (e.scope s) new, placed_bound (inside e (Signal s)) a (signals_on b 1) p (below_inside e b (Signal s) h.0 below) h.1)
  where
    new : e.scope s ≡ true → ⊥
    new i = let own : of_signal s ≡ of_signal b = ap (λ (y : SignalNo). of_signal y) h.0 in omega (arith, below s i)
placed_bound e a b (two x p q) below h = (
  named x h.0,
  placed_bound e a b p below h.1,
  placed_bound e (halts_on a (halt_count p)) (signals_on b (local_count p)) q (below_on e b (local_count p) below) h.2,
  sides_different e a b x p q h,
)
  where
    named : (x : Binary) → BinaryPlaced e x → BinaryBound e.scope x
    named Sequence i = tt
    named (Present s) i = i
    named Parallel i = tt
