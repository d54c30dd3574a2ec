-- The words of a question, and the parts of a text.
use Rattle.std.specs.Prelude.{ℕ, suc, cond, List, [], ◌∷◌, eqb}
use Rattle.texts.specs.Written.{blank}

-- where the first part ends: at the first such sign, or at the end of the text
unfoldable pub part_end : ℕ → List ℕ → ℕ
part_end sign [] = 0
part_end sign (b ∷ bs) = cond (eqb b sign) 0 (suc (part_end sign bs))

abbrev pub word_end : List ℕ → ℕ
word_end text = part_end blank text
