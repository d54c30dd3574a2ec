-- `sets_of` meets its contract: what is left of an entry is small, and the entry of a statement is left whole.
use native.Mathlib.Omega.{arith}
use Rattle.sets.proofs.Columns.{entry_means}
use Rattle.sets.proofs.sets_of.Goals as goal

pub returns : goal.returns
returns c =
    record {
      k_small = omega arith;
      r_small = omega arith;
      means = λ t low at. rw (c.from.ensures, c.from-2.ensures, c.number.ensures) (entry_means low at);
    }
