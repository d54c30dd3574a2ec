-- The search stands in the bytes that the last read brought; what it passes is put behind the line so far.
use mathlib.Core.Path.{sym, ◌∙◌}
use native.Mathlib.Omega.{arith}
use lib.ListN.{length-take, length-drop}
use lib.Seq.{length-take-le}
use Rattle.texts.proofs.Reading.{looked, few_found, part_before, part_short}
use Rattle.texts.proofs.lines.next_line.Goals as goal

pub slice_bounds-keep-end : goal.slice_bounds-keep-end
slice_bounds-keep-end c = sym (length-take-le _ _ (part_before c.newline_in-newline.ensures c.unwrap_or-len.ensures))

pub overflow_add-from : goal.overflow_add-from
overflow_add-from c =
    let few = simp (length-take, length-drop) at (part_before c.newline_in-newline.ensures c.unwrap_or-len.ensures) in
    omega arith

pub found-requires : goal.found-requires
found-requires c some =
    let few = simp (length-take, length-drop) at (part_short c.newline_in-newline.ensures c.unwrap_or-len.ensures (sym c.is_some.ensures ∙ some)) in
    omega arith

pub returns : goal.returns
returns c =
    let args = c.args in
    let found = rw c.is_some.ensures at c.found.ensures in
    record {
      prefix_len = rw c.found.ensures (few_found _ _ _ _ _ _ _);
      next_line = looked args.s args.bytes.now c.min-end.ensures c.min-from.ensures c.newline_in-newline.ensures c.unwrap_or-len.ensures c.keep-held.ensures found;
    }
