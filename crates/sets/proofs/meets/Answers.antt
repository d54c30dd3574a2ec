-- `meets` meets its contract: some bit is in both words.
use Rattle.sets.proofs.Words.{meet_word}
use Rattle.sets.proofs.meets.Goals as goal

pub returns : goal.returns
returns c = λ n h. meet_word c.args.a c.args.b n h
