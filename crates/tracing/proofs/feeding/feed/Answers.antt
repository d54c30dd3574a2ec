use native.Mathlib.Omega.{arith}
use borrow.Author.Rules.{rules}
use Rattle.texts.proofs.Taking.{fewer}
use Rattle.tracing.proofs.AllLines.{no_round, columns_still, round, rounds_end, counted_text}
use Rattle.tracing.proofs.feeding.feed.Goals as goal

pub loop-n-init : goal.loop-n-init
loop-n-init c = no_round _ _ _ _ _ _ _ (search rules) c.requires.1

pub turn-now-requires : goal.turn-now-requires
turn-now-requires c = (columns_still c.loop-n.invariant c.requires.0.columns, c.loop-n.invariant.sound)

pub loop-n-smaller : goal.loop-n-smaller
loop-n-smaller c = fewer c.next_line-next.ensures.next_line c.in-Line.is

pub loop-n-preserved : goal.loop-n-preserved
loop-n-preserved c =
    round c.loop-n.invariant c.next_line-next.ensures.next_line (omega (arith, c.well_formed)) c.in-Line.is c.requires.0.line_long
    (omega (arith, c.well_formed)) (omega (arith, c.next_line-next.auto)) (omega (arith, c.turn-now.auto)) (omega (arith, c.turn-now.auto)) c.turn-now.ensures

pub returns-in_default : goal.returns-in_default
returns-in_default c =
    let rounds = c.loop-n.invariant in
    let looked = c.next_line-next.ensures.next_line in
    record {
      prefix_len = (counted_text rounds looked (omega (arith, c.well_formed)), rounds.sound);
      same_buffer = rounds.same_buffer;
      same_room = rounds.long_out;
      feeds = rounds_end rounds looked (omega (arith, c.well_formed)) c.in_default.not-Line;
    }
