-- The buffer has room for all of it.
use mathlib.Core.Path.{refl}
use borrow.Author.Rules.{rules}
use Rattle.answers.proofs.Lengths.{all_told}
use Rattle.answers.proofs.questions.answer_line.Goals as goal

pub returns : goal.returns
returns c = all_told c.requires (search rules) refl refl (search rules) refl c.say.ensures
