-- `table_right` meets its contract: what makes a table wrong by itself, and then what it cuts out.
use mathlib.Core.Path.{sym, ap, ◌∙◌, subst}
use native.Mathlib.Omega.{arith}
use Rattle.cells.specs.Words.{cells_of}
use Rattle.cells.proofs.Words.{cell_at_word}
use Rattle.cuts.specs.Cut.{is_gate}
use Rattle.covers.specs.Checking.{Says, PinsCarried}
use Rattle.covers.proofs.Tables.{gate_cell, judged_no, no_gate, second, no_pins, judged_cut}
use Rattle.covers.proofs.table_right.Goals as goal

pub returns-then-not-is_gate-clause-judged : goal.returns-then-not-is_gate-clause-judged
returns-then-not-is_gate-clause-judged c =
    let t = c.args.t in
    let cell_is = cell_at_word c.args.cutter.now.cells.now t.cell ∙ sym c.cell_at.ensures in
    judged_no (no_gate t (ap is_gate cell_is ∙ sym c.is_gate.ensures ∙ c.if-not-is_gate.true))

pub bounds-tabled-number : goal.bounds-tabled-number
bounds-tabled-number c =
    let t = c.args.t in
    let cell_is = cell_at_word c.args.cutter.now.cells.now t.cell ∙ sym c.cell_at.ensures in
    let gate = ap is_gate cell_is ∙ sym c.is_gate.ensures ∙ c.if-not-is_gate.false in
    let is = gate_cell (cells_of c.args.cutter.now.cells.now) t.cell gate in
    omega (arith, c.number.ensures, is, c.requires.0)

pub returns-then-tabled-number-gt1-clause-judged : goal.returns-then-tabled-number-gt1-clause-judged
returns-then-tabled-number-gt1-clause-judged c =
    judged_no (second c.args.t (omega (arith, rw c.number.ensures at c.if-tabled-number-gt1.true)))

pub returns-then-not-pins_carried-clause-judged : goal.returns-then-not-pins_carried-clause-judged
returns-then-not-pins_carried-clause-judged c =
    let t = c.args.t in
    let Carry = Says c.args.tabled.now (PinsCarried (cells_of c.args.cutter.now.cells.now) t.pins) in
    judged_no (no_pins t (subst Carry c.if-not-pins_carried.true c.pins_carried.ensures))

pub cut_right-requires : goal.cut_right-requires
cut_right-requires c =
    let t = c.args.t in
    let cell_is = cell_at_word c.args.cutter.now.cells.now t.cell ∙ sym c.cell_at.ensures in
    let pre = c.requires in
    let gate = ap is_gate cell_is ∙ sym c.is_gate.ensures ∙ c.if-not-is_gate.false in
    let listed = pre.2 in
    let carry = (c.pins_carried.ensures listed.0 listed.1 listed.2).holds c.if-not-pins_carried.false in
    (pre.1, gate, λ p h. (carry p h).cell)

pub returns-clause-judged : goal.returns-clause-judged
returns-clause-judged c =
    let t = c.args.t in
    let cell_is = cell_at_word c.args.cutter.now.cells.now t.cell ∙ sym c.cell_at.ensures in
    let gate = ap is_gate cell_is ∙ sym c.is_gate.ensures ∙ c.if-not-is_gate.false in
    let once = rw c.number.ensures at c.if-tabled-number-gt1.false in
    let Carry = Says c.args.tabled.now (PinsCarried (cells_of c.args.cutter.now.cells.now) t.pins) in
    let carry = subst Carry c.if-not-pins_carried.false c.pins_carried.ensures in
    let cut = c.cut_right.ensures in
    judged_cut t c.requires.0 gate once carry cut.right cut.next
