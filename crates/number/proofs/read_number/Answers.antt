-- `read_number` meets its contract: its tests are those of `number_at`, in the same order, so each return takes that many tests apart.
use borrow.Author.Tests.{le-leb, lt-leb, lt-ltb, le-ltb, eq-eqb, ne_eqb}
use native.Mathlib.Omega.{arith}
use Rattle.std.specs.Prelude.{Err}
use mathlib.Core.Path.{ap, ◌∙◌}
use Rattle.number.specs.Number.{number_at, pick}
use Rattle.number.proofs.read_number.Goals as goal

pub returns-then-s-at : goal.returns-then-s-at
unfolding number_at pick
returns-then-s-at c = ap Err c.at.ensures ∙ simp (le-leb _ _ c.if-s-at.true)

pub returns-then-low-lt128 : goal.returns-then-low-lt128
unfolding number_at pick
returns-then-low-lt128 c = simp (lt-leb _ _ c.if-s-at.false, lt-ltb _ _ c.if-low-lt128.true)

pub returns-then-s-second : goal.returns-then-s-second
unfolding number_at pick
returns-then-s-second c = ap Err c.at-then-s-second.ensures ∙ simp (lt-leb _ _ c.if-s-at.false, le-ltb _ _ c.if-low-lt128.false, le-leb _ _ c.if-s-second.true)

pub returns-then-high-eq0 : goal.returns-then-high-eq0
unfolding number_at pick
returns-then-high-eq0 c =
    let first = lt-leb _ _ c.if-s-at.false in
    let large = le-ltb _ _ c.if-low-lt128.false in
    let second = lt-leb _ _ c.if-s-second.false in
    ap Err c.at-then-high-eq0.ensures ∙ simp (first, large, second, eq-eqb _ _ c.if-high-eq0.true)

pub returns-then-high-gt127 : goal.returns-then-high-gt127
unfolding number_at pick
returns-then-high-gt127 c =
    let first = lt-leb _ _ c.if-s-at.false in
    let large = le-ltb _ _ c.if-low-lt128.false in
    let second = lt-leb _ _ c.if-s-second.false in
    ap Err c.at-then-high-gt127.ensures ∙ simp (first, large, second, ne_eqb _ _ c.if-high-eq0.false, lt-ltb _ _ c.if-high-gt127.true)

-- the low byte is below 256
pub overflow_cast-result-3 : goal.overflow_cast-result-3
overflow_cast-result-3 c =
    let known = c.shared_slice_known-1.given in
    omega (arith, known c.args.at)

pub returns : goal.returns
unfolding number_at pick
returns c =
    let first = lt-leb _ _ c.if-s-at.false in
    let large = le-ltb _ _ c.if-low-lt128.false in
    let second = lt-leb _ _ c.if-s-second.false in
    simp (first, large, second, ne_eqb _ _ c.if-high-eq0.false, le-ltb _ _ c.if-high-gt127.false)
