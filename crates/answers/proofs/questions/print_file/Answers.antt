-- Too short a buffer, or the file in it.
use mathlib.Core.Path.{sym}
use lib.Seq.{length-take-le}
use Rattle.netlist_entries.proofs.FileEntries.{filed}
use Rattle.answers.proofs.Filing.{too_short, file_within, file_there, has_file}
use borrow.Author.Rules.{rules}
use Rattle.answers.proofs.questions.print_file.Goals as goal

pub slice_bounds-with_file-end : goal.slice_bounds-with_file-end
slice_bounds-with_file-end c =
    let n = file_within (rw c.in-Ok.is at c.write_file.ensures) in search rules

pub slice_bounds-with_file-end-in-Ok : goal.slice_bounds-with_file-end-in-Ok
slice_bounds-with_file-end-in-Ok c =
    sym (length-take-le _ _ (file_within (rw c.in-Ok.is at c.write_file.ensures)))

pub returns-in-Err : goal.returns-in-Err
returns-in-Err c =
    let did = rw c.in-Err.is at c.write_file.ensures in
    record {
      answer = c.refusal.result;
      left = _;
      filed = filed c.write_file.ensures (rw c.in-Err.is c.refusal.ensures);
      written = rw (too_short c.refusal.result did) c.without_file.ensures;
    }

pub returns-in-Ok : goal.returns-in-Ok
returns-in-Ok c =
    let did = rw c.in-Ok.is at c.write_file.ensures in
    record {
      answer = c.acceptance-a.result;
      left = _;
      filed = filed c.write_file.ensures (rw c.in-Ok.is c.acceptance-a.ensures);
      written = rw (has_file did c.acceptance-a.result) (rw (file_there did) at c.with_file.ensures);
    }
