-- A word is the set of its number.
use mathlib.Core.Path.{sym, ◌∙◌}
use Rattle.texts.specs.Digits.{a_set, no_set}
use Rattle.texts.proofs.digits.set_value.Goals as goal

pub returns : goal.returns
returns c =
    let is = sym c.hex_value.ensures ∙ c.in_ok-n.was in
    rw is (a_set c.of_word.ensures)

pub returns-in_err-n : goal.returns-in_err-n
returns-in_err-n c =
    let is = sym c.hex_value.ensures ∙ c.in_err-n.was in
    rw (is, c.from_residual.ensures) no_set
