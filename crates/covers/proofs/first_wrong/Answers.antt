-- `first_wrong` meets its contract: table by table, each with marks two higher than those of the one before.
use mathlib.Core.Path.{◌≡◌, ap, ◌∙◌}
use native.Mathlib.Omega.{arith}
use borrow.Author.Count.{below_more}
use Rattle.cells.specs.Words.{cells_of}
use Rattle.covers.specs.Covers.{RightTable, table_count}
use Rattle.covers.proofs.Reading.{passed_more}
use Rattle.covers.proofs.first_wrong.Goals as goal

pub loop-k-preserved : goal.loop-k-preserved
loop-k-preserved c =
    let inv = c.loop-k.invariant in
    let passed = c.if-not-table_right.false in
    let judged = rw inv.cells at c.table_right.ensures.judged in
    let table_is = c.table_at-t.ensures in
    let is = judged.is passed in
    let next = judged.next passed in
    record {
      cells = c.table_right.ensures.kept.cells ∙ inv.cells;
      fresh = λ x. omega (arith, next x);
      listed =
          rw (c.number.ensures, table_is)
          (passed_more inv.listed (omega arith) (omega (arith, ap (λ t. t.cell.0) table_is, is, c.requires.0)));
      before = below_more (λ j. RightTable (cells_of c.args.cutter.now.cells.now) c.args.cover.now j) _ inv.before
          ((judged.right _ _ inv.listed table_is).holds passed);
    }

pub returns : goal.returns
returns c =
    let inv = c.loop-k.invariant in
    let all : c.loop-k.k ≡ table_count c.args.cover.now = omega arith in
    record { each = rw all at inv.before; passed = rw all at inv.listed }
