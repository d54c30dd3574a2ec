-- What is said to a question, and the laws of the texts of tables.
use Prim.Native.Nat.{ℕ}
use mathlib.Core.Path.{◌≡◌, refl}
use mathlib.Core.List.{List, [], ◌∷◌, ◌++◌, append_assoc}
use Rattle.texts.specs.Written.{decimal, bad_text}
use Rattle.texts.specs.declared.Page.{Page}
use Rattle.texts.specs.Puts.{Writes}
use Rattle.texts.proofs.Putting.{Joins}
use Rattle.answers.specs.Questions.{Question, none}
use Rattle.answers.specs.Texts.{parts}
use Rattle.answers.specs.Answering.{Answers, no_question}
use Rattle.answers.specs.Code.{Says}

pub said : {q : Question} {text : List ℕ} {p p' : Page} → Answers q text → Writes text p p' → Says q p p'
said a w = record { text = _; answers = a; written = w }

-- a line that is no question
pub said_bad : {p p' : Page} → Writes bad_text p p' → Says none p p'
said_bad w = said no_question w

-- a text of parts has a piece for each
pub parts_join : Joins parts
unfolding parts
parts_join = record { none = refl; more = more }
  where
    more : (a b : List ℕ) → parts (a ++ b) ≡ parts a ++ parts b
    more [] b = refl
    more (x ∷ a) b = rw (more a b, append_assoc (decimal x) (58 ∷ parts a) (parts b))
