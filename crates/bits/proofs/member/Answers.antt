-- `member` meets its contract: bit k of a word is what `has` asks for, and a word of 64 bits has no number from 64 on.
use mathlib.Core.Path.{refl, sym, ◌∙◌}
use borrow.Author.Rules.{rules}
use borrow.Author.Tests.{le-ltb}
use Rattle.bits.specs.Bits.{has}
use Rattle.bits.proofs.Laws.{has_past}
use Rattle.bits.proofs.member.Goals as goal

pub returns-then-k-lt64 : goal.returns-then-k-lt64
unfolding has
returns-then-k-lt64 c = refl

pub returns-else-k-lt64 : goal.returns-else-k-lt64
returns-else-k-lt64 c = le-ltb _ _ c.if-k-lt64.false ∙ sym (has_past 64 c.args.w c.args.k (search rules) c.if-k-lt64.false)
