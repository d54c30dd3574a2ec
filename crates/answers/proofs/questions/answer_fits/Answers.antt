-- A state, or none.
use Rattle.texts.proofs.Sets.{was_set, was_no_set}
use Rattle.answers.proofs.Saying.{said, said_bad}
use Rattle.answers.specs.Questions.{of}
use Rattle.answers.specs.Answering.{does_fit}
use Rattle.answers.proofs.questions.answer_fits.Goals as goal

pub returns-in_default : goal.returns-in_default
unfolding of
returns-in_default c = rw (was_no_set (rw c.in_default.is at c.set_value.ensures)) (said_bad c.bad_line.ensures)

pub returns : goal.returns
unfolding of
returns c = rw (was_set (rw c.in-Some.is at c.set_value.ensures)) (said (does_fit c.fits.ensures) c.answer.ensures)
