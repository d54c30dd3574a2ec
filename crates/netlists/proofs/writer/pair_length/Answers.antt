-- The sum of both.
use mathlib.Core.Path.{refl}
use Rattle.number.proofs.Laws.{length_at_most}
use native.Mathlib.Omega.{arith}
use Rattle.netlists.proofs.writer.pair_length.Goals as goal

pub overflow_add-result : goal.overflow_add-result
overflow_add-result c =
    let first = length_at_most c.number.result in
    let second = length_at_most c.number-2.result in
    omega (arith, c.number_length.ensures, c.number_length-2.ensures)

pub returns : goal.returns
returns c =
    rw (c.number_length.ensures, c.number_length-2.ensures, c.number.ensures, c.number-2.ensures) refl
