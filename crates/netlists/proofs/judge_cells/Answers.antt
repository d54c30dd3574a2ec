-- The signals, the count, then the words.
use Rattle.files.proofs.Judging.{count_right}
use Rattle.files.proofs.Whole.{few_signals}
use Rattle.netlists.proofs.Words.{cells_signals, cells_count, cells_wrong, cells_netlist}
use native.Mathlib.Omega.{arith}
use mathlib.Core.Path.{refl, sym, ap, ◌∙◌}
use Rattle.std.specs.Prelude.{Err}
use Rattle.netlists.proofs.judge_cells.Goals as goal

pub returns-then-header_full : goal.returns-then-header_full
returns-then-header_full c = ap Err c.at.ensures ∙ sym (cells_signals _ _ _ (sym c.if-header_full.ensures))

pub judge_count-requires : goal.judge_count-requires
judge_count-requires c = few_signals _ _ (sym c.if-header_full.ensures)

pub returns-in-Err : goal.returns-in-Err
returns-in-Err c = ap Err c.at-in-Err.ensures ∙ sym (cells_count _ _ _ (sym c.if-header_full.ensures) (sym c.in-Err.ensures))

pub overflow_cast-h : goal.overflow_cast-h
overflow_cast-h c = omega (arith, (count_right _ _ _ (sym c.in_default.ensures)).few)

pub judge_words-requires : goal.judge_words-requires
judge_words-requires c = ((count_right _ _ _ (sym c.in_default.ensures)).few, refl)

pub returns-in-Err-judge_words : goal.returns-in-Err-judge_words
returns-in-Err-judge_words c =
    let few = sym c.if-header_full.ensures in
    ap Err c.at-in-Err-judge_words.ensures
    ∙ sym (cells_wrong _ _ _ few (sym c.in_default.ensures) (sym c.in-Err-judge_words.ensures))

pub returns : goal.returns
returns c =
    let few = sym c.if-header_full.ensures in
    sym (cells_netlist _ _ _ few (sym c.in_default.ensures) (sym c.in_default-judge_words.ensures))
