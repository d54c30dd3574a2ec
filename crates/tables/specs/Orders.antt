-- "An order names, for each new pin, the old pin it carries": it is the list of these. "Give each of the 24 pin orders, in dictionary order,
-- a row of sixteen places saying where each truth-table bit goes."
use Rattle.std.specs.Prelude.{ℕ, zero, suc, ◌*◌, true, false, eqb, get_or}
use mathlib.Core.List.{List, [], ◌∷◌, map, flat_map}
use Rattle.tables.specs.Answering.{pins, settings, bit, weigh}

abbrev pub factorial : ℕ → ℕ
factorial zero = 1
factorial (suc n) = suc n * factorial n

-- how many orders the pins have
abbrev pub orders : ℕ
orders = factorial pins

-- n numbers from i on
abbrev pub from : ℕ → ℕ → List ℕ
from i zero = []
from i (suc n) = i ∷ from (suc i) n

-- the numbers without p
abbrev pub without : ℕ → List ℕ → List ℕ
without p [] = []
without p (x ∷ xs) = elim (eqb x p) [ true ↦ xs | false ↦ x ∷ without p xs ]

-- the orders of n pins, in dictionary order: each pin stands first in its turn, with all orders of the others behind it
abbrev pub orders_of : ℕ → List ℕ → List (List ℕ)
orders_of zero ps = [] ∷ []
orders_of (suc n) ps = flat_map (λ p. map (λ others. p ∷ others) (orders_of n (without p ps))) ps

unfoldable pub all_orders : List (List ℕ)
all_orders = orders_of pins (from 0 pins)

unfoldable pub order_at : ℕ → List ℕ
order_at o = get_or all_orders o []

-- Where bit b of the truth table goes: b is a setting of the old pins, its bit p the value of pin p, and each new pin has the value of the
-- old pin that it carries.
unfoldable pub place : List ℕ → ℕ → ℕ
place order b = weigh (map (bit b) order)

-- the row of an order
unfoldable pub row : List ℕ → List ℕ
row order = map (place order) (from 0 settings)

-- The number of the order that undoes each. Nothing here has to be believed: that it does is proved.
abbrev pub inverses : List ℕ
inverses =
    0 ∷ 1 ∷ 2 ∷ 4 ∷ 3 ∷ 5 ∷ 6 ∷ 7 ∷ 12 ∷ 18 ∷ 13 ∷ 19 ∷ 8 ∷ 10 ∷ 14 ∷ 20 ∷ 16 ∷ 22 ∷ 9 ∷ 11 ∷ 15 ∷ 21 ∷ 17 ∷ 23 ∷ []

unfoldable pub inverse_of : ℕ → ℕ
inverse_of o = get_or inverses o 0
