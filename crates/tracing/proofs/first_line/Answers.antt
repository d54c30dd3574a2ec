-- One law for each answer.
use native.Mathlib.Omega.{arith}
use borrow.Author.Rules.{rules}
use Rattle.tracing.proofs.Stepping.{first_long, first_bad, first_opened}
use Rattle.tracing.proofs.first_line.Goals as goal

pub returns-then-line-gt-SHEET_DIGITS : goal.returns-then-line-gt-SHEET_DIGITS
returns-then-line-gt-SHEET_DIGITS c = first_long _ (omega arith) c.bad_line.ensures

pub returns-in_default : goal.returns-in_default
returns-in_default c =
    first_bad _ c.if-line-gt-SHEET_DIGITS.false (search rules) c.hex_bytes.ensures.unhexed c.in_default.is c.bad_line-in_default.ensures

pub returns : goal.returns
returns c =
    first_opened _ c.if-line-gt-SHEET_DIGITS.false (search rules) c.hex_bytes.ensures.unhexed c.in-Some.is c.open_sheet.ensures
