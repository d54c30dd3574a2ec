-- The loop's invariant: the text of the lines answered is there, and the others are those of the bytes still at hand. With each line less
-- is at hand.
use Rattle.texts.proofs.Taking.{remaining}
use Rattle.tracing.proofs.AllLines.{Rounds}
use Rattle.tracing.proofs.feeding.feed.Given as goal

abbrev pub invariant-loop-n : goal.invariant-loop-n
invariant-loop-n l = Rounds l.many l.initial.now l.bytes l.initial.line l.initial.rows l.initial.statics l.initial.page l.now l.line l.rows l.statics l.page

abbrev pub decreases-loop-n : goal.decreases-loop-n
decreases-loop-n l = remaining l.now.source l.bytes
