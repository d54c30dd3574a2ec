-- A word has nothing from 64 on, and below that the shift is what `none_from` asks for.
use Prim.Native.Nat.{◌^◌, ◌<◌}
use mathlib.Core.Path.{refl, ◌∙◌}
use native.Mathlib.Nat.{div-eq_of_lt, lt_of_lt_of_le}
use lib.Pow.{pow_mono}
use borrow.Author.Rules.{rules}
use borrow.Author.Tests.{le-leb}
use Rattle.bits.specs.Bits.{none_from}
use Rattle.bits.proofs.none_from.Goals as goal

pub returns-then-k-ge64 : goal.returns-then-k-ge64
unfolding none_from
returns-then-k-ge64 c =
    let past = c.if-k-ge64.true in
    let small : c.args.w < 2 ^ 64 = search rules in
    le-leb _ _ past ∙ rw (div-eq_of_lt (lt_of_lt_of_le small (pow_mono past)))

pub returns-else-k-ge64 : goal.returns-else-k-ge64
unfolding none_from
returns-else-k-ge64 c = refl
