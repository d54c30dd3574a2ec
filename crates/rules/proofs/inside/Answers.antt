-- The statement's halts are those from its row's first to before its row's past, so one of them is set where one of these bits is.
use native.Mathlib.Omega.{arith}
use Rattle.bits.specs.Bits.{whole}
use Rattle.rules.proofs.Walks.{run_within, inside_few, inside_some}
use Rattle.rules.proofs.inside.Goals as goal

pub row_at-row-requires : goal.row_at-row-requires
row_at-row-requires c = run_within c.requires

pub overflow_sub-halt_bit : goal.overflow_sub-halt_bit
overflow_sub-halt_bit c =
    let from = rw c.row_at-row.ensures at c.halt_bit-from.ensures in
    let past = rw c.row_at-row.ensures at c.halt_bit.ensures in
    omega (arith, from, past, (inside_few c.requires).0)

pub none_in-requires : goal.none_in-requires
none_in-requires c =
    let from = rw c.row_at-row.ensures at c.halt_bit-from.ensures in
    let past = rw c.row_at-row.ensures at c.halt_bit.ensures in
    let few = inside_few c.requires in
    omega (arith, from, past, few.0, few.1)

pub returns : goal.returns
returns c =
    let from = rw c.row_at-row.ensures at c.halt_bit-from.ensures in
    let past = rw c.row_at-row.ensures at c.halt_bit.ensures in
    inside_some c.requires (whole c.args.state) c.none_in.result (rw (from, past) at c.none_in.ensures)
