-- Laws on Bool. Equations between Boolean functions of n variables under m equations, by their truth tables: `taut 3 1 _ _ _ tt` proves any true one of
-- three variables and one premise.
use mathlib.Core.Path.{◌≡◌, refl, sym}
use mathlib.Core.Bool.{Bool, true, false, not, ◌&&◌, ◌||◌, beq, true≢false, false≢true}
use Prim.Native.Nat.{ℕ, zero, suc}
use lib.Dec.{T}

abbrev Fun : ℕ → Type 0
Fun zero = Bool
Fun (suc n) = Bool → Fun n

-- m equations between functions of n variables, and what is left of them when the first variable has the value b
abbrev Premises : ℕ → ℕ → Type 0
Premises n zero = Unit
Premises n (suc m) = Fun n × Fun n × Premises n m

abbrev at : (n m : ℕ) → Premises (suc n) m → Bool → Premises n m
at n zero ps b = tt
at n (suc m) ps b = (ps.0 b, ps.1 b, at n m ps.2 b)

-- the claim, and the same as a computed test
abbrev Follows : (m : ℕ) → Premises 0 m → Bool → Bool → Type 0
Follows zero ps f g = f ≡ g
Follows (suc m) ps f g = ps.0 ≡ ps.1 → Follows m ps.2 f g

abbrev Always : (n m : ℕ) → Premises n m → Fun n → Fun n → Type 0
Always zero m ps f g = Follows m ps f g
Always (suc n) m ps f g = (b : Bool) → Always n m (at n m ps b) (f b) (g b)

abbrev follows : (m : ℕ) → Premises 0 m → Bool → Bool → Bool
follows zero ps f g = beq f g
follows (suc m) ps f g = not (beq ps.0 ps.1) || follows m ps.2 f g

abbrev always : (n m : ℕ) → Premises n m → Fun n → Fun n → Bool
always zero m ps f g = follows m ps f g
always (suc n) m ps f g = always n m (at n m ps true) (f true) (g true) && always n m (at n m ps false) (f false) (g false)

-- the test decides the claim
both_left : (a b : Bool) → T (a && b) → T a
both_left true b t = tt
both_left false b t = t

both_right : (a b : Bool) → T (a && b) → T b
both_right true b t = t
both_right false b t = absurd t

split : (P : Bool → Type 0) → P true → P false → (b : Bool) → P b
split P x y true = x
split P x y false = y

given : (h k b : Bool) → T (not (beq h k) || b) → h ≡ k → T b
given true true b t e = t
given true false b t e = absurd (true≢false e)
given false true b t e = absurd (false≢true e)
given false false b t e = t

equal : (a b : Bool) → T (beq a b) → a ≡ b
equal true true t = refl
equal true false t = absurd t
equal false true t = absurd t
equal false false t = refl

sound : (m : ℕ) (ps : Premises 0 m) (f g : Bool) → T (follows m ps f g) → Follows m ps f g
sound zero ps f g t = equal f g t
sound (suc m) ps f g t = λ e. sound m ps.2 f g (given ps.0 ps.1 (follows m ps.2 f g) t e)

pub taut : (n m : ℕ) (ps : Premises n m) (f g : Fun n) → T (always n m ps f g) → Always n m ps f g
taut zero m ps f g t = sound m ps f g t
taut (suc n) m ps f g t =
    let on : Bool = always n m (at n m ps true) (f true) (g true) in
    let off : Bool = always n m (at n m ps false) (f false) (g false) in
    split (λ b. Always n m (at n m ps b) (f b) (g b))
    (taut n m (at n m ps true) (f true) (g true) (both_left on off t))
    (taut n m (at n m ps false) (f false) (g false) (both_right on off t))

-- what is on of two that are on together, and of two of which one is
pub and_left : (a b : Bool) → (a && b) ≡ true → a ≡ true
and_left = taut 2 1 _ _ _ tt

pub and_right : (a b : Bool) → (a && b) ≡ true → b ≡ true
and_right = taut 2 1 _ _ _ tt

pub and_both : (a b : Bool) → a ≡ true → b ≡ true → (a && b) ≡ true
and_both = taut 2 2 _ _ _ tt

pub or_left : (a b : Bool) → a ≡ true → (a || b) ≡ true
or_left = taut 2 1 _ _ _ tt

pub or_right : (a b : Bool) → b ≡ true → (a || b) ≡ true
or_right = taut 2 1 _ _ _ tt

pub or_none : (a b : Bool) → a ≡ false → b ≡ false → (a || b) ≡ false
or_none = taut 2 2 _ _ _ tt

pub or_left_off : (a b : Bool) → (a || b) ≡ false → a ≡ false
or_left_off = taut 2 1 _ _ _ tt

pub or_right_off : (a b : Bool) → (a || b) ≡ false → b ≡ false
or_right_off = taut 2 1 _ _ _ tt

pub or_cases : {A : Type 0} (a b : Bool) → (a ≡ true → A) → (b ≡ true → A) → (a || b) ≡ true → A
or_cases true b left right e = left refl
or_cases false b left right e = right e

-- a test with `!` that was passed, and one that was not
pub not_on : (b : Bool) → not b ≡ true → b ≡ false
not_on = taut 1 1 _ _ _ tt

pub not_off : (b : Bool) → not b ≡ false → b ≡ true
not_off = taut 1 1 _ _ _ tt

-- what is not on is off
pub off : (a : Bool) → (a ≡ true → ⊥) → a ≡ false
off true h = absurd (h refl)
off false h = refl

pub both_off : (a b : Bool) → (a ≡ true → b ≡ true → ⊥) → (a && b) ≡ false
both_off true b h = off b (h refl)
both_off false b h = refl

-- two that are on together are equal
pub same : (a b : Bool) → (a ≡ true → b ≡ true) → (b ≡ true → a ≡ true) → a ≡ b
same true b f g = sym (f refl)
same false b f g = sym (off b (λ e. false≢true (g e)))
