-- The loop's invariant: the digits passed are in the value, so that value and the digits left give what the whole text gives.
use mathlib.Core.Path.{◌≡◌}
use lib.ListN.{drop}
use Rattle.texts.specs.Digits.{value_from}
use Rattle.texts.proofs.digits.value_of.Given as goal

abbrev pub invariant-loop-b : goal.invariant-loop-b
invariant-loop-b l = value_from l.base l.value (drop l.b-index l.text) ≡ value_from l.base 0 l.text
