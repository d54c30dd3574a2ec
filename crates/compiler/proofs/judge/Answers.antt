-- The column is filled, asked for INSTANT and TWICE, and then the netlist is built.
use native.Mathlib.Omega.{arith}
use Rattle.compiler.proofs.Judging.{stands, some_sheet, judges_instant, judges_twice, judges_room}
use Rattle.compiler.proofs.judge.Goals as goal

pub fill-requires : goal.fill-requires
fill-requires c = let pre = c.requires in rw c.new-root.ensures (stands pre.0.is, pre.1)

pub first_instant-requires : goal.first_instant-requires
first_instant-requires c =
    let pre = c.requires in
    rw c.new-root.ensures (stands pre.0.is, omega (arith, pre.1, c.fill.auto))

pub first_twice-requires : goal.first_twice-requires
first_twice-requires c =
    let pre = c.requires in
    rw c.new-root.ensures (stands pre.0.is, omega (arith, pre.1, c.fill.auto))

pub build_netlist-requires : goal.build_netlist-requires
build_netlist-requires c =
    let pre = c.requires in
    some_sheet pre.0.is pre.2 (rw c.new-root.ensures at c.fill.ensures)

pub returns-in-Some : goal.returns-in-Some
returns-in-Some c =
    let root = c.new-root.ensures in
    let fills = rw root at c.fill.ensures in
    let instants = rw root at c.first_instant.ensures in
    record { judges = λ w is. rw (c.at.ensures, c.number.ensures) (judges_instant is c.requires.2 fills instants c.in-Some.is) }

pub returns-in-Some-first_twice : goal.returns-in-Some-first_twice
returns-in-Some-first_twice c =
    let root = c.new-root.ensures in
    let fills = rw root at c.fill.ensures in
    let instants = rw root at c.first_instant.ensures in
    let twices = rw root at c.first_twice.ensures in
    record {
      judges = λ w is. rw (c.at-in-Some-first_twice.ensures, c.number-in-Some-first_twice.ensures)
          (judges_twice is c.requires.2 fills instants c.in_default.is twices c.in-Some-first_twice.is);
    }

pub returns : goal.returns
returns c =
    let root = c.new-root.ensures in
    let fills = rw root at c.fill.ensures in
    let instants = rw root at c.first_instant.ensures in
    let twices = rw root at c.first_twice.ensures in
    record {
      judges = λ w is.
          judges_room is c.requires.2 fills instants c.in_default.is twices c.in_default-first_twice.is
          c.build_netlist.ensures;
    }
