-- What the read brought is what is answered.
use Rattle.tracing.proofs.AllLines.{read_answered}
use Rattle.tracing.proofs.feeding.answer_read.Goals as goal

pub feed-fed-requires : goal.feed-fed-requires
feed-fed-requires g c = (c.requires.0, c.requires.1)

pub returns : goal.returns
returns g c =
    record {
      sound = c.feed-fed.ensures.prefix_len.1;
      same_room = c.feed-fed.ensures.same_room;
      read_answered = read_answered {from = c.args.from} {p = c.args.page.now} c.refill-source.ensures.refilled c.feed-fed.ensures.feeds;
    }
