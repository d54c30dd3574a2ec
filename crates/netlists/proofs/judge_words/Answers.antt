-- The words that are left decide, from each cell on.
use Rattle.netlists.proofs.Words.{stops, goes_on, ends}
use Rattle.files.proofs.Judging.{handed_on}
use mathlib.Core.Path.{sym, ◌∙◌}
use Rattle.netlists.proofs.judge_words.Goals as goal

pub returns-in_err-judge_word : goal.returns-in_err-judge_word
returns-in_err-judge_word c =
    let word = rw c.new.ensures at (sym c.in_err-judge_word.ensures) in
    handed_on c.from_residual.ensures.1 ∙ stops _ _ _ c.loop-n.invariant c.loop-n-test.true word

pub loop-n-preserved : goal.loop-n-preserved
loop-n-preserved c =
    let word = rw c.new.ensures at (sym c.in_ok-judge_word.ensures) in
    rw (c.tally-registers.ensures, c.cell_in.ensures) (goes_on _ _ _ c.loop-n.invariant c.loop-n-test.true word)

pub returns : goal.returns
returns c = ends _ _ _ c.loop-n.invariant c.loop-n-test.false
