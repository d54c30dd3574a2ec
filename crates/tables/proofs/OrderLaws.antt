-- The laws of the orders, each computed over all of them at once.
use mathlib.Core.Path.{◌≡◌, refl, sym, ap, ◌∙◌}
use mathlib.Core.Bool.{true, false}
use mathlib.Core.List.{List, [], ◌∷◌, map, flat_map}
use Prim.Native.Nat.{ℕ, suc, ◌+◌, ◌*◌, ◌-◌, ◌^◌, ◌<◌}
use lib.Dec.{eqb, ltb}
use lib.ListN.{length, get_or}
use borrow.Author.Tests.{ltb-true}
use Rattle.tables.specs.Answering.{pins, settings, bit, weigh}
use Rattle.tables.specs.Orders.{orders, from, all_orders, order_at, place, row, inverse_of}
use Rattle.tables.proofs.Tabulated.{alike}
use Rattle.tables.proofs.Placing.{distinct, full}

-- what antt computes of each order and each number below n
alike_at : {A : Type 0} (f g : ℕ → ℕ → A) (n o k : ℕ)
    → map (λ o. map (f o) (from 0 n)) (from 0 orders) ≡ map (λ o. map (g o) (from 0 n)) (from 0 orders)
    → o < orders → k < n → f o k ≡ g o k
alike_at f g n o k e ho hk =
    let rows = alike (λ o. map (f o) (from 0 n)) (λ o. map (g o) (from 0 n)) orders o e ho in
    alike (f o) (g o) n k rows hk

-- there are as many orders as the factorial of the pins
pub order_count : length all_orders ≡ orders
unfolding all_orders flat_map
order_count = refl

-- an order has an old pin for each new one ..
pub order_length : (o : ℕ) → o < orders → length (order_at o) ≡ pins
unfolding order_at all_orders flat_map
order_length o h = alike (λ o. length (order_at o)) (λ o. pins) orders o refl h

-- .. which is a pin
pub pin_small : (o q : ℕ) → o < orders → q < pins → get_or (order_at o) q 0 < pins
unfolding order_at all_orders flat_map
pin_small o q ho hq = ltb-true _ _ (alike_at (λ o q. ltb (get_or (order_at o) q 0) pins) (λ o q. true) pins o q refl ho hq)

-- a place is one of the truth table's
pub place_small : (o b : ℕ) → o < orders → b < settings → place (order_at o) b < settings
unfolding bit weigh place order_at all_orders flat_map
place_small o b ho hb = ltb-true _ _ (alike_at (λ o b. ltb (place (order_at o) b) settings) (λ o b. true) settings o b refl ho hb)

-- no two bits go to one place
pub row_distinct : (o : ℕ) → o < orders → distinct (row (order_at o)) ≡ true
unfolding bit weigh place row order_at all_orders flat_map
row_distinct o h = alike (λ o. distinct (row (order_at o))) (λ o. true) orders o refl h

-- and all places are taken
pub row_full : (o : ℕ) → o < orders → full (row (order_at o)) ≡ 2 ^ settings - 1
unfolding bit weigh place row order_at all_orders flat_map
row_full o h = alike (λ o. full (row (order_at o))) (λ o. 2 ^ settings - 1) orders o refl h

-- Inverses.

pub inverse_small : (o : ℕ) → o < orders → inverse_of o < orders
unfolding inverse_of
inverse_small o h = ltb-true _ _ (alike (λ o. ltb (inverse_of o) orders) (λ o. true) orders o refl h)

-- carried through an order and its inverse, each pin is the pin that it was
pub pin_back : (o q : ℕ) → o < orders → q < pins → get_or (order_at o) (get_or (order_at (inverse_of o)) q 0) 0 ≡ q
unfolding inverse_of order_at all_orders flat_map
pin_back o q ho hq = alike_at (λ o q. get_or (order_at o) (get_or (order_at (inverse_of o)) q 0) 0) (λ o q. q) pins o q refl ho hq

-- and each bit stands where it stood
pub place_back : (o b : ℕ) → o < orders → b < settings → place (order_at (inverse_of o)) (place (order_at o) b) ≡ b
unfolding inverse_of bit weigh place order_at all_orders flat_map
place_back o b ho hb = alike_at (λ o b. place (order_at (inverse_of o)) (place (order_at o) b)) (λ o b. b) settings o b refl ho hb

-- A row tells its order.

-- the row as one number
spelled : List ℕ → ℕ
spelled [] = 0
spelled (x ∷ xs) = x + settings * spelled xs

-- how many of them stand before k
position : ℕ → List ℕ → ℕ
position k [] = 0
position k (x ∷ xs) = elim (eqb x k) [ true ↦ 0 | false ↦ suc (position k xs) ]

whose : List ℕ → ℕ
whose r = position (spelled r) (map (λ o. spelled (row (order_at o))) (from 0 orders))

told : (o : ℕ) → o < orders → whose (row (order_at o)) ≡ o
unfolding whose position spelled bit weigh place row order_at all_orders flat_map
told o h = alike (λ o. whose (row (order_at o))) (λ o. o) orders o refl h

-- two orders that answer the same row are one
pub one_order : (o r : ℕ) → o < orders → r < orders → row (order_at o) ≡ row (order_at r) → o ≡ r
one_order o r ho hr e = sym (told o ho) ∙ ap whose e ∙ told r hr
