-- `cut_right` meets its contract: a pin of its own, a way that strays, a pin that is not met, and at last the words.
use Prim.Native.Nat.{◌^◌, ◌<◌}
use mathlib.Core.Path.{◌≡◌}
use mathlib.Core.Bool.{false}
use native.Mathlib.Omega.{arith}
use lib.ListN.{get_or}
use Rattle.number.proofs.Bools.{off}
use Rattle.tables.specs.Answering.{settings}
use Rattle.cells.specs.Words.{cells_of}
use Rattle.cuts.specs.Cut.{is_pin}
use Rattle.cuts.proofs.Setting.{ready}
use Rattle.covers.proofs.Carrying.{decides_no}
use Rattle.covers.proofs.Cuts.{own_pin, met_pins, passes, fails}
use Rattle.covers.proofs.Tables.{gate_cell, no_source, no_constant}
use Rattle.covers.proofs.cut_right.Goals as goal

pub set_pins-counts-requires : goal.set_pins-counts-requires
set_pins-counts-requires c =
    let pre = c.requires in
    let lent = c.args.cutter.now.lent in
    (pre.0, λ p h. omega (arith, pre.2 p h, lent.wide), λ p h. omega (arith, pre.2 p h, lent.valued))

pub returns-then-cutter-n-clause-right : goal.returns-then-cutter-n-clause-right
returns-then-cutter-n-clause-right c =
    let pre = c.requires in
    let cutter = c.args.cutter.now in
    let cells = cells_of cutter.cells.now in
    let t = c.args.t in
    let set = c.set_pins-counts.ensures in
    let own = (ready cells set.long set.pinned).only t.cell (rw (set.kept.base, c.number-n.ensures) at c.if-cutter-n.true) in
    decides_no (own_pin t cutter.order (gate_cell cells t.cell pre.1) (no_constant cells t.cell pre.1) set.long own)

pub cut_out-requires : goal.cut_out-requires
cut_out-requires c =
    let gate = c.requires.1 in
    let cells = cells_of c.args.cutter.now.cells.now in
    let t = c.args.t in
    let set = c.set_pins-counts.ensures in
    let new = rw (set.kept.base, c.number-n.ensures) at c.if-cutter-n.false in
    rw (set.kept.cells, set.kept.base)
    (no_source cells t.cell gate, gate_cell cells t.cell gate, new, ready cells set.long set.pinned)

pub returns-then-not-pins_met-clause-right : goal.returns-then-not-pins_met-clause-right
returns-then-not-pins_met-clause-right c =
    let cells = cells_of c.args.cutter.now.cells.now in
    let t = c.args.t in
    let set = c.set_pins-counts.ensures in
    let out = c.cut_out.ensures in
    let through = rw (set.kept.cells, set.kept.base) at (out.cut.through c.if-not-cut_out.false) in
    let new = rw (set.kept.base, c.number-n.ensures) at c.if-cutter-n.false in
    let no_own : is_pin t.pins t.cell ≡ false = off _ (λ pin. omega (arith, (ready cells set.long set.pinned).marked t.cell pin, new)) in
    let missed = rw (out.kept.cells, out.kept.base, set.kept.cells, set.kept.base) at (c.pins_met.ensures.fails c.if-not-pins_met.true) in
    decides_no (λ right. missed (met_pins t through no_own right))

pub returns-clause-right : goal.returns-clause-right
returns-clause-right c =
    let cutter = c.args.cutter.now in
    let cells = cells_of cutter.cells.now in
    let t = c.args.t in
    let set = c.set_pins-counts.ensures in
    let out = c.cut_out.ensures in
    let through = rw (set.kept.cells, set.kept.base) at (out.cut.through c.if-not-cut_out.false) in
    let new = rw (set.kept.base, c.number-n.ensures) at c.if-cutter-n.false in
    let no_own : is_pin t.pins t.cell ≡ false = off _ (λ pin. omega (arith, (ready cells set.long set.pinned).marked t.cell pin, new)) in
    let known = rw (out.kept.cells, out.kept.base, set.kept.cells, set.kept.base) at (c.pins_met.ensures.holds c.if-not-pins_met.false) in
    let truth_fits : t.truth < 2 ^ settings = omega (arith, c.well_formed) in
    let word_fits : get_or c.cut_out.new.self.values.now c.number-n.result 0 < 2 ^ settings = omega arith in
    rw c.number-n.ensures
    (record {
      holds = passes t through no_own set.pinned.counted known;
      fails = fails t through no_own set.pinned.counted known cutter.order (rw c.number-n.ensures at word_fits) truth_fits;
    })

pub returns-clause-next : goal.returns-clause-next
returns-clause-next c =
    let set = c.set_pins-counts.ensures in
    let through = rw (set.kept.cells, set.kept.base) at (c.cut_out.ensures.cut.through c.if-not-cut_out.false) in
    λ e. through.limit
