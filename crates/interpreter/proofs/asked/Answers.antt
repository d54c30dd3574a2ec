-- The set of one signal covers it; a signal past the sets' bits has nothing to be covered.
use Rattle.interpreter.proofs.Asking.{covers_only, covers_past}
use Rattle.interpreter.proofs.asked.Goals as goal

pub returns-then-k-ge-WIDTH : goal.returns-then-k-ge-WIDTH
returns-then-k-ge-WIDTH c =
    covers_past c.args.x (rw c.signal_bit-k.ensures at c.if-k-ge-WIDTH.true)

pub returns : goal.returns
returns c =
    covers_only c.args.x _ (rw c.signal_bit-k.ensures at c.add.ensures)
