use Prim.Native.Nat.{◌*◌, ◌≤◌}
use mathlib.Core.Path.{◌≡◌}
use lib.ListN.{length, drop}
use Rattle.std.specs.Slice.Iter.{chunks_exact_rest, chunks_exact_size}
use Rattle.covers.specs.Covers.{size}
use Rattle.covers.specs.Checking.{Tabled}
use Rattle.covers.proofs.list_tables.Given as goal

abbrev pub invariant-loop-numbers : goal.invariant-loop-numbers
invariant-loop-numbers l =
    Tabled l.cover (length l.yielded) 0 l.tabled
    × (chunks_exact_size l.numbers-iterator ≡ size)
    × (chunks_exact_rest l.numbers-iterator ≡ drop (length l.yielded * size) l.cover)
    × (length l.yielded * size ≤ length l.cover)
