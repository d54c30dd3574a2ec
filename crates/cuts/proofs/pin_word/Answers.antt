-- `pin_word` meets its contract: all bits of all pins' words are computed at once.
use Rattle.cuts.proofs.Words.{pin_words}
use Rattle.cuts.proofs.pin_word.Goals as goal

pub returns : goal.returns
returns c = pin_words c.args.p c.requires
