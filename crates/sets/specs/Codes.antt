-- Sets, by their tests, and what the paper does with sets of codes.
use Rattle.std.specs.Prelude.{Bool, true, false, ◌&&◌, ◌||◌, ℕ, zero, suc}

-- the empty set, the join of two, and a set that is there only where b holds
abbrev pub empty : {A : Type 0} → A → Bool
empty x = false

abbrev pub join : {A : Type 0} → (A → Bool) → (A → Bool) → A → Bool
join a b x = a x || b x

abbrev pub when : {A : Type 0} → Bool → (A → Bool) → A → Bool
when b a x = b && a x

-- codes: 0 ended, 1 halted, 2 and more the level of an exit
abbrev pub Codes : Type 0
Codes = ℕ → Bool

-- the code k alone
abbrev pub same : ℕ → Codes
same zero zero = true
same zero (suc j) = false
same (suc k) zero = false
same (suc k) (suc j) = same k j

-- "Trap: code 0 or 2 becomes 0, 1 stays, larger codes fall by one."
abbrev pub caught : ℕ → ℕ
caught zero = zero
caught (suc zero) = suc zero
caught (suc (suc zero)) = zero
caught (suc (suc (suc k))) = suc (suc k)

-- what a trap makes of a set of codes
abbrev pub caught_codes : Codes → Codes
caught_codes A zero = A 0 || A 2
caught_codes A (suc zero) = A 1
caught_codes A (suc (suc j)) = A (suc (suc (suc j)))

-- "the larger code"
abbrev pub larger : ℕ → ℕ → ℕ
larger zero b = b
larger (suc a) zero = suc a
larger (suc a) (suc b) = suc (larger a b)

-- some code of the set is at most j
abbrev pub upto : Codes → ℕ → Bool
upto A zero = A zero
upto A (suc j) = A zero || upto (λ x. A (suc x)) j

-- the larger codes "of all pairs": j of the one with at most j of the other
abbrev pub maxima : Codes → Codes → Codes
maxima A B j = (A j && upto B j) || (B j && upto A j)

-- A "with 0 replaced by" B
abbrev pub replaced : Codes → Codes → Codes
replaced A B zero = A zero && B zero
replaced A B (suc j) = A (suc j) || (A zero && B (suc j))

-- A "less 0", and A "and 0"
abbrev pub less0 : Codes → Codes
less0 A zero = false
less0 A (suc j) = A (suc j)

abbrev pub with0 : Codes → Codes
with0 A zero = true
with0 A (suc j) = A (suc j)
