-- What there is room for is copied; the place is counted on.
use native.Mathlib.Omega.{arith}
use Rattle.texts.proofs.Putting.{copied}
use Rattle.texts.proofs.lines.keep.Goals as goal

pub returns : goal.returns
returns c =
    record {
      past = c.saturating_add.ensures;
      laid = copied c.args.bytes.now c.args.line.now c.args.held c.min-from.ensures c.min-n.ensures (omega arith) c.copy_from_slice.ensures.after;
    }
