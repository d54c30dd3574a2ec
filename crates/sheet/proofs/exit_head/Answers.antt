-- The number at the marks decides: none, then its fault; one below 2 or over 1 + d, then EXIT; else the level.
use native.Mathlib.Omega.{arith}
use mathlib.Core.Path.{sym, ap, ◌∙◌}
use Rattle.std.specs.Prelude.{Err}
use Rattle.number.specs.Number.{pick}
use Rattle.sheet.specs.Read.{exiting}
use Rattle.sheet.proofs.Reading.{pick_either, level_small}
use Rattle.sheet.proofs.exit_head.Goals as goal

pub returns-in_default : goal.returns-in_default
unfolding exiting
returns-in_default c =
    let number = sym c.read_number-read.ensures ∙ c.unwrap_err.ensures in
    simp number

pub returns-then-no_level : goal.returns-then-no_level
unfolding exiting pick
returns-then-no_level c =
    let number = sym c.read_number-read.ensures ∙ c.in-Ok.is in
    ap Err c.at.ensures ∙ simp (number, pick_either, sym c.no_level.ensures ∙ c.if-no_level.true)

-- it is at most 1 + d, so that it is not cut
pub overflow_cast-result : goal.overflow_cast-result
overflow_cast-result c =
    let level = level_small c.in-Ok.k c.args.e.traps (sym c.no_level.ensures ∙ c.if-no_level.false) in
    omega (arith, level, c.requires)

pub returns : goal.returns
unfolding exiting pick
returns c =
    let number = sym c.read_number-read.ensures ∙ c.in-Ok.is in
    simp (number, pick_either, sym c.no_level.ensures ∙ c.if-no_level.false, c.past.ensures)
