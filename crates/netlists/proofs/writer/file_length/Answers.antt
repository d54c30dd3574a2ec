-- What is left to add up completes the length.
use Rattle.number.proofs.Laws.{length_at_most}
use Rattle.cells.proofs.Words.{word_cell}
use Rattle.netlists.proofs.Laying.{measure_begins, measure_more, measure_within, measure_ends, few_words}
use lib.ListN.{length as len}
use native.Mathlib.Omega.{arith}
use Rattle.netlists.proofs.writer.file_length.Goals as goal

pub overflow_add-length : goal.overflow_add-length
overflow_add-length c =
    let a = c.args in
    omega (arith, c.number_length.ensures, c.number_length-2.ensures, length_at_most a.i, length_at_most a.o)

pub overflow_add-length-2 : goal.overflow_add-length-2
overflow_add-length-2 c =
    let a = c.args in
    omega (
      arith,
      c.number_length.ensures,
      c.number_length-2.ensures,
      c.number_length-3.ensures,
      length_at_most a.i,
      length_at_most a.o,
      length_at_most (len a.words.now),
    )

pub loop-w-init : goal.loop-w-init
loop-w-init c = measure_begins _ _ _ c.number_length.ensures c.number_length-2.ensures c.number_length-3.ensures

pub overflow_add-length-in-loop-w : goal.overflow_add-length-in-loop-w
overflow_add-length-in-loop-w c =
    let few = few_words _ _ _ c.requires in
    let cell = word_cell c.args.words.now c.loop-w.w-index c.cell_in.ensures in
    omega (arith, measure_within _ _ _ c.loop-w.invariant few c.loop-w-test.true cell c.operand_length.ensures)

pub overflow_add-length-in-loop-w-2 : goal.overflow_add-length-in-loop-w-2
overflow_add-length-in-loop-w-2 c =
    let few = few_words _ _ _ c.requires in
    let cell = word_cell c.args.words.now c.loop-w.w-index c.cell_in.ensures in
    omega (arith, measure_within _ _ _ c.loop-w.invariant few c.loop-w-test.true cell c.operand_length.ensures)

pub loop-w-preserved : goal.loop-w-preserved
loop-w-preserved c =
    measure_more _ _ _ c.loop-w.invariant c.loop-w-test.true (word_cell c.args.words.now c.loop-w.w-index c.cell_in.ensures) c.operand_length.ensures

pub returns : goal.returns
returns c = measure_ends _ _ _ c.loop-w.invariant c.loop-w-test.false
