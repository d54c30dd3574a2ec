-- The number decides: none, then its fault; the one before the cell's is the input's; any other is CELL.
use Rattle.files.proofs.Reading.{input_right, input_wrong}
use Rattle.files.proofs.Judging.{handed_on}
use Rattle.files.specs.Read.{input_of}
use Rattle.number.proofs.Laws.{value_small}
use Prim.Native.Nat.{◌%◌}
use native.Mathlib.Omega.{arith}
use mathlib.Core.Path.{◌≡◌, sym}
use Rattle.files.proofs.read_input.Goals as goal

pub returns-in_err-v : goal.returns-in_err-v
unfolding input_of
returns-in_err-v c = rw (handed_on c.from_residual.ensures.1, ← c.in_err-v.ensures)

pub overflow_add-v : goal.overflow_add-v
overflow_add-v c = omega (arith, value_small _ _ (sym c.in_ok-v.ensures))

pub returns-then-v-number : goal.returns-then-v-number
returns-then-v-number c =
    let v = c.in_ok-v.v in
    let whole : v % 65536 ≡ v = omega (arith, value_small _ _ (sym c.in_ok-v.ensures)) in
    let right = input_right c.args.x c.args.at v c.in_ok-v.next (rw c.number.ensures at c.if-v-number.true) in
    simp (sym c.in_ok-v.ensures, c.new.ensures, whole, right)

pub returns : goal.returns
returns c =
    let wrong = input_wrong c.args.x c.args.at c.in_ok-v.v c.in_ok-v.next (rw c.number.ensures at c.if-v-number.false) in
    simp (c.at.ensures, sym c.in_ok-v.ensures, wrong)
