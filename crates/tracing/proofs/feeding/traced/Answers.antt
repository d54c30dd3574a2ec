-- All bytes are at hand, before the first line.
use mathlib.Core.List.{[]}
use mathlib.Core.Path.{refl}
use borrow.Author.Rules.{rules}
use Rattle.texts.proofs.Taking.{nothing_kept}
use Rattle.tracing.specs.Steps.{first}
use Rattle.tracing.specs.Stands.{for_first}
use Rattle.tracing.proofs.AllLines.{sound_first, all_answered}
use Rattle.tracing.proofs.feeding.traced.Goals as goal

pub feed-requires : goal.feed-requires
feed-requires c = (record { line_long = search rules; columns = record { rows_long = search rules; statics_long = search rules } }, sound_first)

pub returns : goal.returns
returns c =
    all_answered c.all_read.ensures refl refl (search rules) refl
    (c.feed.ensures.feeds first [] for_first (rw c.all_read.ensures (nothing_kept _)))
