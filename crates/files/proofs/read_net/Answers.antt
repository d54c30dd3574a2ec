-- The number decides: none, then its fault; one below m is a cell; any other is CELL.
use Rattle.files.specs.Read.{net_of}
use Rattle.files.proofs.Judging.{handed_on}
use Rattle.number.proofs.Laws.{value_small}
use Rattle.number.specs.Number.{pick}
use Prim.Native.Nat.{◌%◌}
use native.Mathlib.Omega.{arith}
use mathlib.Core.Path.{◌≡◌, sym}
use borrow.Author.Tests.{lt-ltb, le-ltb}
use Rattle.files.proofs.read_net.Goals as goal

pub returns-in_err-v : goal.returns-in_err-v
unfolding net_of
returns-in_err-v c = rw (handed_on c.from_residual.ensures.1, ← c.in_err-v.ensures)

pub returns-then-v-m : goal.returns-then-v-m
unfolding net_of pick
returns-then-v-m c =
    let v = c.in_ok-v.v in
    let whole : v % 65536 ≡ v = omega (arith, value_small _ _ (sym c.in_ok-v.ensures)) in
    simp (sym c.in_ok-v.ensures, lt-ltb _ _ c.if-v-m.true, c.new.ensures, whole)

pub returns : goal.returns
unfolding net_of pick
returns c = simp (sym c.in_ok-v.ensures, le-ltb _ _ c.if-v-m.false, c.at.ensures)
