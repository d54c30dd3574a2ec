-- `reorder` meets its contract: both loops go by the order's rows.
use mathlib.Core.Path.{◌∙◌}
use native.Mathlib.Omega.{arith}
use borrow.Author.Rules.{rules}
use Rattle.tables.specs.Answering.{Formed}
use Rattle.tables.specs.Reordering.{reordered}
use Rattle.tables.proofs.Reorders.{refused, accepted}
use Rattle.tables.proofs.Table.reorder.Goals as goal

pub returns-then-order : goal.returns-then-order
returns-then-order c = refused (omega arith) c.from.ensures

pub returns : goal.returns
unfolding reordered
returns c =
    let pins = c.moved_pins-pins.ensures in
    let formed : Formed c.args.self = record { as_many = pins.1; truth_fits = search rules } in
    accepted (omega arith) formed (c.new.ensures ∙ rw (pins.0, c.moved_truth-truth.ensures))
