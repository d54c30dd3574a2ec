-- `event_ok` meets its contract: its two tests are those of `event_ok`.
use Rattle.run.proofs.event_ok.Goals as goal

pub returns-then-not-member : goal.returns-then-not-member
returns-then-not-member c = rw (← c.member.ensures, c.if-not-member.true) c.none_from.ensures

pub returns-else-not-member : goal.returns-else-not-member
returns-else-not-member c = rw (← c.member.ensures, c.if-not-member.false)
