-- The table is the orders themselves, which antt computes in `returns`.
use mathlib.Core.Path.{refl}
use mathlib.Core.List.{flat_map}
use Rattle.tables.specs.Orders.{all_orders, order_at}
use Rattle.tables.proofs.rows.carried.Goals as goal

pub returns : goal.returns
unfolding order_at all_orders flat_map
returns c = refl
