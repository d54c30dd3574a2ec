-- The head, the root from its lists on, and the foot make the netlist; the count says whether there is room.
use mathlib.Core.Path.{refl, sym, ◌∙◌}
use borrow.Author.Rules.{rules}
use native.Mathlib.Omega.{arith}
use Rattle.builder.proofs.Ends.{sheet_ready, sheet_signals, netlist_does, over, not_over}
use Rattle.builder.proofs.build_netlist.Goals as goal

pub overflow_add-inputs : goal.overflow_add-inputs
overflow_add-inputs c =
    omega (arith, (sheet_signals c.requires.is).0, (sheet_signals c.requires.is).1)

pub statement-requires : goal.statement-requires
statement-requires c = rw c.new-2.ensures (sheet_ready c.requires refl)

pub signal_cells-requires : goal.signal_cells-requires
signal_cells-requires c = ((sheet_signals c.requires.is).1, c.statement.auto.lists)

pub returns-then-many_cells : goal.returns-then-many_cells
returns-then-many_cells c =
    let a = c.args in
    let root = rw (c.new.ensures, c.high.ensures, c.low.ensures, c.new-2.ensures) at c.statement.ensures in
    netlist_does a.inputs a.signals c.head_cells.ensures refl root (search rules) c.signal_cells.ensures
    (rw c.at.ensures (over c.statement.new.column.count (sym c.many_cells.ensures ∙ c.if-many_cells.true)))

pub returns : goal.returns
returns c =
    let a = c.args in
    let root = rw (c.new.ensures, c.high.ensures, c.low.ensures, c.new-2.ensures) at c.statement.ensures in
    netlist_does a.inputs a.signals c.head_cells.ensures refl root (search rules) c.signal_cells.ensures
    (not_over c.statement.new.column.count (sym c.many_cells.ensures ∙ c.if-many_cells.false))
