-- The number at the marks decides: none, then its fault; one that is in scope, then that signal; any other is SCOPE.
use native.Mathlib.Omega.{arith}
use mathlib.Core.Path.{sym, ap, ◌∙◌}
use Rattle.std.specs.Prelude.{Err}
use Rattle.bits.proofs.Whole.{Proper, fits}
use Rattle.number.specs.Number.{pick}
use Rattle.sheet.specs.Read.{signal_of}
use Rattle.sheet.proofs.Reading.{named_small}
use borrow.Author.Rules.{rules}
use Rattle.sheet.proofs.read_signal.Goals as goal

pub returns-in_default : goal.returns-in_default
unfolding signal_of
returns-in_default c =
    let number = sym c.read_number-read.ensures ∙ c.unwrap_err.ensures in
    simp number

-- it is in the scope, so that it is not cut
pub overflow_cast-v : goal.overflow_cast-v
overflow_cast-v c =
    let held = c.well_formed.1.0.1.1.1.1.0 in
    let proper : Proper c.args.e.scope.words =
    record { long = search (rules, held); small = λ p. fits (search (rules, held)) } in
    omega (arith, named_small proper c.in-Ok.v (sym c.member.ensures ∙ c.if-member.true))

pub returns-then-member : goal.returns-then-member
unfolding signal_of pick
returns-then-member c =
    let number = sym c.read_number-read.ensures ∙ c.in-Ok.is in
    let named = sym c.member.ensures ∙ c.if-member.true in
    simp (number, named, c.new.ensures, c.past.ensures)

pub returns : goal.returns
unfolding signal_of pick
returns c =
    let number = sym c.read_number-read.ensures ∙ c.in-Ok.is in
    let unnamed = sym c.member.ensures ∙ c.if-member.false in
    ap Err c.at.ensures ∙ simp (number, unnamed)
