-- `pins_at` meets its contract: the closure reads one number, and stays as it is.
use borrow.Author.Rules.{rules}
use Rattle.covers.proofs.Reading.{pins_made}
use Rattle.covers.proofs.pins_at.Goals as goal

pub returns : goal.returns
returns c = pins_made _ _ c.args.cover.now c.args.at c.from_fn.result c.from_fn.ensures.items (λ p x q k. search rules)
