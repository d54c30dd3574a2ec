-- What one step keeps and what the next keeps, both keep.
use Prim.Native.Nat.{ℕ}
use mathlib.Core.Path.{refl, ◌∙◌}
use mathlib.Core.List.{List}
use Rattle.std.specs.Borrow.{MutBor}
use Rattle.cuts.specs.declared.Cutter.{Cutter}
use Rattle.cuts.specs.Kept.{SameColumn, Keeps}

pub same : {s : MutBor (List ℕ)} → SameColumn s s
same = record { lent = refl; long = refl }

same_then : {s s' s'' : MutBor (List ℕ)} → SameColumn s s' → SameColumn s' s'' → SameColumn s s''
same_then one two = record { lent = two.lent ∙ one.lent; long = two.long ∙ one.long }

pub at_first : {k : Cutter} → Keeps k k
at_first = record { cells = refl; base = refl; marks = same; values = same; stack = same }

pub and_then : {k k' k'' : Cutter} → Keeps k k' → Keeps k' k'' → Keeps k k''
and_then one two =
    record {
      cells = two.cells ∙ one.cells;
      base = two.base ∙ one.base;
      marks = same_then one.marks two.marks;
      values = same_then one.values two.values;
      stack = same_then one.stack two.stack;
    }
