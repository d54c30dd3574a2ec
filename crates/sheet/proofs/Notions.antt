-- What later proofs use of a statement in its place: its halts' numbers, its signals, its exits' levels.
use mathlib.Core.Path.{◌≡◌, refl, sym, ap, ◌∙◌, subst}
use mathlib.Core.Bool.{Bool, true, false, ◌||◌, ◌&&◌, false≢true}
use Prim.Native.Nat.{ℕ, ◌+◌, ◌<◌, ◌≤◌}
use native.Mathlib.Omega.{arith}
use native.Mathlib.Decide.{dec_lt, ℕ_discrete}
use lib.Dec.{ltb, leb, eqb}
use borrow.Author.Tests.{eqb-true, ltb-true, lt-ltb, le-ltb, le-leb, lt-leb, eq-eqb, ne_eqb}
use Rattle.number.specs.declared.SignalNo.{SignalNo}
use Rattle.number.specs.declared.HaltNo.{HaltNo}
use Rattle.number.specs.Counts.{signal_no, of_signal, halt_no, of_halt}
use Rattle.limits.specs.Limits.{max_traps}
use Rattle.sheet.specs.declared.Leaf.{Leaf}
use Rattle.sheet.specs.declared.Leaf.TheVariants.{Nothing, Halt, Emit, Exit}
use Rattle.sheet.specs.declared.Unary.{Unary}
use Rattle.sheet.specs.declared.Unary.TheVariants.{Loop, Watching, Trap, Signal}
use Rattle.sheet.specs.declared.Binary.{Binary}
use Rattle.sheet.specs.declared.Binary.TheVariants.{Sequence, Present, Parallel}
use Rattle.sheet.specs.declared.Head.{Head}
use Rattle.sheet.specs.declared.Head.TheVariants.{Zero, One, Two}
use Rattle.sheet.specs.Stmt.{Stmt, leaf, one, two, kind_of, halt_count, declares, local_count}
use Rattle.sheet.specs.Read.{Around, inside, only, root_around}
use Rattle.sheet.specs.Form.{halts_on, signals_on, LeafPlaced, UnaryPlaced, BinaryPlaced, Placed, Proper}

-- a kind is small: it is a number of a sheet
pub kind_small : (h : Head) → kind_of h < 16
kind_small (Zero Nothing) = omega arith
kind_small (Zero (Halt h)) = omega arith
kind_small (Zero (Emit s)) = omega arith
kind_small (Zero (Exit k)) = omega arith
kind_small (One Loop) = omega arith
kind_small (One (Watching s)) = omega arith
kind_small (One Trap) = omega arith
kind_small (One (Signal s)) = omega arith
kind_small (Two Sequence) = omega arith
kind_small (Two (Present s)) = omega arith
kind_small (Two Parallel) = omega arith

-- "Halts .. are numbered .. in reading order": here from a on
abbrev pub LeafNumbered : HaltNo → Leaf → Type 0
LeafNumbered a Nothing = Unit
LeafNumbered a (Halt h) = h ≡ a
LeafNumbered a (Emit s) = Unit
LeafNumbered a (Exit k) = Unit

unfoldable pub Numbered : HaltNo → Stmt → Type 0
Numbered a (leaf l) = LeafNumbered a l
Numbered a (one u p) = Numbered a p
Numbered a (two b p q) = Numbered a p × Numbered (halts_on a (halt_count p)) q

-- what is named or declared is one of the first n signals, and what is emitted is neither tick nor one of the i inputs
abbrev pub LeafScoped : ℕ → ℕ → Leaf → Type 0
LeafScoped i n Nothing = Unit
LeafScoped i n (Halt h) = Unit
LeafScoped i n (Emit s) = (i < of_signal s) × (of_signal s < n)
LeafScoped i n (Exit k) = Unit

abbrev pub UnaryScoped : ℕ → Unary → Type 0
UnaryScoped n Loop = Unit
UnaryScoped n (Watching s) = of_signal s < n
UnaryScoped n Trap = Unit
UnaryScoped n (Signal s) = of_signal s < n

abbrev pub BinaryScoped : ℕ → Binary → Type 0
BinaryScoped n Sequence = Unit
BinaryScoped n (Present s) = of_signal s < n
BinaryScoped n Parallel = Unit

unfoldable pub Scoped : ℕ → ℕ → Stmt → Type 0
Scoped i n (leaf l) = LeafScoped i n l
Scoped i n (one u p) = UnaryScoped n u × Scoped i n p
Scoped i n (two b p q) = BinaryScoped n b × Scoped i n p × Scoped i n q

-- "EXIT: level not 2..1+d": under d traps every exit's level is one of these, and a trap has not too many around it
abbrev pub LeafExits : ℕ → Leaf → Type 0
LeafExits d Nothing = Unit
LeafExits d (Halt h) = Unit
LeafExits d (Emit s) = Unit
LeafExits d (Exit k) = (2 ≤ k) × (k ≤ 1 + d)

abbrev pub UnaryExits : ℕ → Unary → Type 0
UnaryExits d Loop = Unit
UnaryExits d (Watching s) = Unit
UnaryExits d Trap = d < max_traps
UnaryExits d (Signal s) = Unit

-- the traps around the part of a statement that has d around itself
abbrev pub traps_in : ℕ → Unary → ℕ
traps_in d Loop = d
traps_in d (Watching s) = d
traps_in d Trap = d + 1
traps_in d (Signal s) = d

unfoldable pub Exits : ℕ → Stmt → Type 0
Exits d (leaf l) = LeafExits d l
Exits d (one u p) = UnaryExits d u × Exits (traps_in d u) p
Exits d (two b p q) = Exits d p × Exits d q

-- A statement in its place has its halts numbered ..
pub placed_numbered : (e : Around) (a : HaltNo) (b : SignalNo) (t : Stmt) → Placed e a b t → Numbered a t
unfolding Placed Numbered LeafPlaced
placed_numbered e a b (leaf Nothing) h = tt
placed_numbered e a b (leaf (Halt k)) h = h
placed_numbered e a b (leaf (Emit s)) h = tt
placed_numbered e a b (leaf (Exit k)) h = tt
placed_numbered e a b (one u p) h = placed_numbered (inside e u) a (signals_on b (declares u)) p h.1
placed_numbered e a b (two x p q) h =
    (placed_numbered e a b p h.1, placed_numbered e (halts_on a (halt_count p)) (signals_on b (local_count p)) q h.2)

-- .. its exits between 2 and 1 + d ..
pub placed_exits : (e : Around) (a : HaltNo) (b : SignalNo) (t : Stmt) → Placed e a b t → Exits e.traps t
unfolding Placed Exits LeafPlaced UnaryPlaced inside
placed_exits e a b (leaf Nothing) h = tt
placed_exits e a b (leaf (Halt k)) h = tt
placed_exits e a b (leaf (Emit s)) h = tt
placed_exits e a b (leaf (Exit k)) h = h
placed_exits e a b (one Loop p) h = (tt, placed_exits (inside e Loop) a (signals_on b 0) p h.1)
placed_exits e a b (one (Watching s) p) h = (tt, placed_exits (inside e (Watching s)) a (signals_on b 0) p h.1)
placed_exits e a b (one Trap p) h = (h.0, placed_exits (inside e Trap) a (signals_on b 0) p h.1)
placed_exits e a b (one (Signal s) p) h = (tt, placed_exits (inside e (Signal s)) a (signals_on b 1) p h.1)
placed_exits e a b (two x p q) h =
    (placed_exits e a b p h.1, placed_exits e (halts_on a (halt_count p)) (signals_on b (local_count p)) q h.2)

-- .. and its signals in scope, where only signals below b may be named around it
abbrev pub Below : Around → SignalNo → Type 0
Below e b = (x : SignalNo) → e.scope x ≡ true → of_signal x < of_signal b

pub below_on : (e : Around) (b : SignalNo) (k : ℕ) → Below e b → Below e (signals_on b k)
below_on e b k below x h = let l : of_signal x < of_signal b = below x h in omega arith

pub below_inside : (e : Around) (b : SignalNo) (u : Unary) → UnaryPlaced e b u → Below e b → Below (inside e u) (signals_on b (declares u))
unfolding UnaryPlaced inside
below_inside e b Loop own below x h = below_on e b 0 below x h
below_inside e b (Watching s) own below x h = below_on e b 0 below x h
below_inside e b Trap own below x h = below_on e b 0 below x h
below_inside e b (Signal s) own below x h = go (e.scope x) refl h
  where
    go : (y : Bool) → e.scope x ≡ y → (y || only s x) ≡ true → of_signal x < of_signal b + 1
    go true w z = below_on e b 1 below x w
    go false w z =
        let new : of_signal x ≡ of_signal s = eqb-true (of_signal x) (of_signal s) z in
        let own_number : of_signal s ≡ of_signal b = ap (λ (k : SignalNo). of_signal k) own in
        omega arith

inside_inputs : (e : Around) (u : Unary) → (inside e u).inputs ≡ e.inputs
unfolding inside
inside_inputs e Loop = refl
inside_inputs e (Watching s) = refl
inside_inputs e Trap = refl
inside_inputs e (Signal s) = refl

module _ (n : ℕ) where
  unary_scoped : (e : Around) (b : SignalNo) (u : Unary) → Below e b → of_signal b + declares u ≤ n → UnaryPlaced e b u → UnaryScoped n u
  unfolding UnaryPlaced
  unary_scoped e b Loop below few own = tt
  unary_scoped e b (Watching s) below few own = omega (arith, below s own)
  unary_scoped e b Trap below few own = tt
  unary_scoped e b (Signal s) below few own = let number : of_signal s ≡ of_signal b = ap (λ (k : SignalNo). of_signal k) own in omega arith

  binary_scoped : (e : Around) (b : SignalNo) (x : Binary) → Below e b → of_signal b ≤ n → BinaryPlaced e x → BinaryScoped n x
  unfolding BinaryPlaced
  binary_scoped e b Sequence below few own = tt
  binary_scoped e b (Present s) below few own = omega (arith, below s own)
  binary_scoped e b Parallel below few own = tt

  pub placed_scoped : (e : Around) (a : HaltNo) (b : SignalNo) (t : Stmt) → Below e b → of_signal b + local_count t ≤ n → Placed e a b t
      → Scoped e.inputs n t
  unfolding Placed Scoped LeafPlaced local_count
  placed_scoped e a b (leaf Nothing) below few h = tt
  placed_scoped e a b (leaf (Halt k)) below few h = tt
  placed_scoped e a b (leaf (Emit s)) below few h = (h.1, omega (arith, below s h.0))
  placed_scoped e a b (leaf (Exit k)) below few h = tt
  placed_scoped e a b (one u p) below few h =
      let part : Scoped (inside e u).inputs n p =
      placed_scoped (inside e u) a (signals_on b (declares u)) p (below_inside e b u h.0 below) (omega arith) h.1 in
      (unary_scoped e b u below (omega arith) h.0, subst (λ (i : ℕ). Scoped i n p) (inside_inputs e u) part)
  placed_scoped e a b (two x p q) below few h = (
    binary_scoped e b x below (omega arith) h.0,
    placed_scoped e a b p below (omega arith) h.1,
    placed_scoped e (halts_on a (halt_count p)) (signals_on b (local_count p)) q (below_on e b (local_count p) below) (omega arith) h.2,
  )

-- A sheet that fits: its halts are numbered from 0 on, its signals are those that it counts, and there is no trap around its root.
module _ {i o : ℕ} {t : Stmt} (h : Proper i o t) where
  pub proper_numbered : Numbered (halt_no 0) t
  proper_numbered = placed_numbered (root_around i o) (halt_no 0) (signal_no (1 + i + o)) t h.placed

  pub proper_scoped : Scoped i (1 + i + o + local_count t) t
  proper_scoped =
      placed_scoped (1 + i + o + local_count t) (root_around i o) (halt_no 0) (signal_no (1 + i + o)) t
      (λ x. ltb-true (of_signal x) (1 + i + o)) (omega arith) h.placed

  pub proper_exits : Exits 0 t
  proper_exits = placed_exits (root_around i o) (halt_no 0) (signal_no (1 + i + o)) t h.placed

-- the set of t's halts
abbrev pub leaf_has : Leaf → HaltNo → Bool
leaf_has Nothing h = false
leaf_has (Halt k) h = eqb (of_halt h) (of_halt k)
leaf_has (Emit s) h = false
leaf_has (Exit k) h = false

unfoldable pub in_halts : Stmt → HaltNo → Bool
in_halts (leaf l) h = leaf_has l h
in_halts (one u p) h = in_halts p h
in_halts (two b p q) h = in_halts p h || in_halts q h

-- h is one of the k numbers from a on
abbrev pub among : HaltNo → ℕ → HaltNo → Bool
among a k h = leb (of_halt a) (of_halt h) && ltb (of_halt h) (of_halt a + k)

-- when it is, and when not
among_inside : (a : HaltNo) (k : ℕ) (h : HaltNo) → of_halt a ≤ of_halt h → of_halt h < of_halt a + k → among a k h ≡ true
among_inside a k h l r = simp (le-leb (of_halt a) (of_halt h) l, lt-ltb (of_halt h) (of_halt a + k) r)

among_below : (a : HaltNo) (k : ℕ) (h : HaltNo) → of_halt h < of_halt a → among a k h ≡ false
among_below a k h l = simp (lt-leb (of_halt a) (of_halt h) l)

among_past : (a : HaltNo) (k : ℕ) (h : HaltNo) → of_halt a + k ≤ of_halt h → among a k h ≡ false
among_past a k h l = simp (le-leb (of_halt a) (of_halt h) (omega arith), le-ltb (of_halt h) (of_halt a + k) l)

among_split : (a : HaltNo) (j k : ℕ) (h : HaltNo) → (among a j h || among (halts_on a j) k h) ≡ among a (j + k) h
among_split a j k h = go (dec_lt (of_halt h) (of_halt a)) (dec_lt (of_halt h) (of_halt a + j)) (dec_lt (of_halt h) (of_halt a + (j + k)))
  where
    go : Dec (of_halt h < of_halt a) → Dec (of_halt h < of_halt a + j) → Dec (of_halt h < of_halt a + (j + k))
        → (among a j h || among (halts_on a j) k h) ≡ among a (j + k) h
    go (yes x) y z = rw (among_below a j h x, among_below (halts_on a j) k h (omega arith), among_below a (j + k) h x)
    go (no x) (yes y) z = rw (among_inside a j h (omega arith) y, among_inside a (j + k) h (omega arith) (omega arith))
    go (no x) (no y) (yes z) =
        let right = among_inside (halts_on a j) k h (omega arith) (omega arith) in
        rw (among_past a j h (omega arith), right, among_inside a (j + k) h (omega arith) z)
    go (no x) (no y) (no z) =
        rw (among_past a j h (omega arith), among_past (halts_on a j) k h (omega arith), among_past a (j + k) h (omega arith))

among_none : (a h : HaltNo) → false ≡ among a 0 h
among_none a h = go (dec_lt (of_halt h) (of_halt a))
  where
    go : Dec (of_halt h < of_halt a) → false ≡ among a 0 h
    go (yes x) = sym (among_below a 0 h x)
    go (no x) = sym (among_past a 0 h (omega arith))

among_one : (a h : HaltNo) → eqb (of_halt h) (of_halt a) ≡ among a 1 h
among_one a h = go (ℕ_discrete (of_halt h) (of_halt a)) (dec_lt (of_halt h) (of_halt a))
  where
    go : Dec (of_halt h ≡ of_halt a) → Dec (of_halt h < of_halt a) → eqb (of_halt h) (of_halt a) ≡ among a 1 h
    go (yes x) y = eq-eqb (of_halt h) (of_halt a) x ∙ sym (among_inside a 1 h (omega arith) (omega arith))
    go (no x) (yes y) = ne_eqb (of_halt h) (of_halt a) x ∙ sym (among_below a 1 h y)
    go (no x) (no y) = ne_eqb (of_halt h) (of_halt a) x ∙ sym (among_past a 1 h (omega arith))

-- A numbered statement's halts are those from its first number on, as many as it has: so a row's two numbers say which halts lie inside.
pub halts_inside : (a : HaltNo) (t : Stmt) → Numbered a t → (h : HaltNo) → in_halts t h ≡ among a (halt_count t) h
unfolding Numbered in_halts halt_count
halts_inside a (leaf Nothing) k h = among_none a h
halts_inside a (leaf (Halt x)) k h = ap (λ (y : HaltNo). eqb (of_halt h) (of_halt y)) k ∙ among_one a h
halts_inside a (leaf (Emit s)) k h = among_none a h
halts_inside a (leaf (Exit l)) k h = among_none a h
halts_inside a (one u p) k h = halts_inside a p k h
halts_inside a (two b p q) k h =
    rw (halts_inside a p k.0 h, halts_inside (halts_on a (halt_count p)) q k.1 h) (among_split a (halt_count p) (halt_count q) h)

module _ (a : HaltNo) (t : Stmt) (numbered : Numbered a t) (h : HaltNo) where
  -- the same as a fact about numbers, and back
  pub halt_within : in_halts t h ≡ true → (of_halt a ≤ of_halt h) × (of_halt h < of_halt a + halt_count t)
  halt_within e = go (dec_lt (of_halt h) (of_halt a)) (dec_lt (of_halt h) (of_halt a + halt_count t)) (sym (halts_inside a t numbered h) ∙ e)
    where
      go : Dec (of_halt h < of_halt a) → Dec (of_halt h < of_halt a + halt_count t) → among a (halt_count t) h ≡ true
          → (of_halt a ≤ of_halt h) × (of_halt h < of_halt a + halt_count t)
      go (yes x) y z = absurd (false≢true (sym (among_below a (halt_count t) h x) ∙ z))
      go (no x) (yes y) z = (omega arith, y)
      go (no x) (no y) z = absurd (false≢true (sym (among_past a (halt_count t) h (omega arith)) ∙ z))

  pub within_halt : of_halt a ≤ of_halt h → of_halt h < of_halt a + halt_count t → in_halts t h ≡ true
  within_halt l r = halts_inside a t numbered h ∙ among_inside a (halt_count t) h l r
