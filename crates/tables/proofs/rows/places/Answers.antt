-- All 384 entries at once: the table that the rule lays is the table of the code, which antt computes where the two meet, in
-- `returns`. `entry` carries the rule to one entry.
use mathlib.Core.List.{[], flat_map}
use Rattle.tables.specs.Answering.{settings, bit, weigh}
use Rattle.tables.specs.Orders.{all_orders, order_at, place}
use Rattle.tables.proofs.Tabulated.{entry}
use Rattle.tables.proofs.rows.places.Goals as goal

pub returns : goal.returns
unfolding bit weigh place order_at all_orders flat_map
returns c = λ b h. entry place all_orders settings c.args.order b [] [] c.requires h
