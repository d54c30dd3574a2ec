-- The number at the marks is the kind; where there is none its fault answers.
use mathlib.Core.Path.{sym, ◌∙◌}
use Rattle.sheet.specs.Read.{head_of_kind}
use Rattle.sheet.proofs.read_head.Goals as goal

pub returns-in_default : goal.returns-in_default
unfolding head_of_kind
returns-in_default c =
    let number = sym c.read_number-read.ensures ∙ c.unwrap_err.ensures in
    simp number

pub returns : goal.returns
unfolding head_of_kind
returns c =
    let number = sym c.read_number-read.ensures ∙ c.in-Ok.is in
    c.head_of_kind.ensures ∙ simp (number, c.past.ensures)
