-- "Reorder pins and truth table together."
use Rattle.std.specs.Prelude.{ℕ, ◌+◌, ◌*◌, ◌/◌, ◌%◌, ◌^◌, ◌<◌, ◌≡◌, Bool, List, [], ◌∷◌, map, leb, get_or}
use Rattle.number.specs.declared.CellNo.{CellNo}
use Rattle.number.specs.Counts.{cell_no}
use Rattle.number.specs.Number.{pick}
use Rattle.number.specs.Refusals.{refusal_no}
use Rattle.number.specs.declared.Refusal.TheVariants.{Order}
use Rattle.tables.specs.declared.Table.{Table}
use Rattle.tables.specs.declared.Reordered.{Reordered}
use Rattle.tables.specs.Answering.{answers}
use Rattle.tables.specs.Orders.{orders, order_at, row, inverse_of}

abbrev pub table : CellNo → List CellNo → ℕ → Table
table cell pins truth = record { cell = cell; pins = pins; truth = truth }

-- each new pin has the cell of the old pin that it carries
unfoldable pub moved_pins : List ℕ → List CellNo → List CellNo
moved_pins order cells = map (λ p. get_or cells p (cell_no 0)) order

-- the bits of t, the lowest first, each at the place that the list has for it
unfoldable pub placed : List ℕ → ℕ → ℕ
placed [] t = 0
placed (p ∷ ps) t = t % 2 * 2 ^ p + placed ps (t / 2)

unfoldable pub moved_truth : List ℕ → ℕ → ℕ
moved_truth order truth = placed (row order) truth

unfoldable pub reordered : ℕ → Table → Table
reordered o t = table t.cell (moved_pins (order_at o) t.pins) (moved_truth (order_at o) t.truth)

-- "Refusals: 20 ORDER (24 or more); the table is returned unchanged."
unfoldable pub outcome : ℕ → Table → Reordered
outcome o t =
    pick (leb orders o) (record { number = refusal_no Order; place = 0; table = t })
    (record { number = 0; place = 0; table = reordered o t })

-- What a reorder promises of table t and any number o: its answer; and, following from it for every table, "A reordered table answers as before on the
-- same nets, and a reorder followed by its inverse gives the table back."
pub record Reorders (o : ℕ) (t : Table) (r : Reordered) : Type 0 where
  pub answer : r ≡ outcome o t
  pub same : (v : CellNo → Bool) → answers r.table v ≡ answers t v
  pub back : o < orders → reordered (inverse_of o) r.table ≡ t
