-- 004, section 4.2: the derivative that a haltset stands for. "a subterm is labeled H+ if and only if it contains at least one occurrence of halt whose
-- number is in H": that is `active H`. 004 calls the function R; here R is the paper's static set.
use Rattle.number.specs.Number.{pick}
use Rattle.sheet.specs.declared.Unary.TheVariants.{Loop, Watching, Trap, Signal}
use Rattle.sheet.specs.declared.Leaf.TheVariants.{Nothing}
use Rattle.sheet.specs.declared.Binary.TheVariants.{Sequence, Present, Parallel}
use Rattle.sheet.specs.Stmt.{Stmt, leaf, one, two}
use Rattle.rules.specs.Rules.{Halts, active}
use Rattle.berry.specs.Behaviour.{present_else}

-- R of a statement that is labelled +, in 004's order: "halt statements are left unchanged", "trap and local signal declaration constructs are handled by
-- trivial structural induction", "The only non-trivial cases are: ..". "these definitions make sense only when the separation condition is satisfied": of the
-- parts of a sequence or a present one alone is labelled +. No other leaf is labelled +.
unfoldable pub recovering : Halts → Stmt → Stmt
unfolding active pick
recovering H (leaf l) = leaf l
recovering H (one Trap p) = one Trap (recovering H p)
recovering H (one (Signal s) p) = one (Signal s) (recovering H p)
recovering H (two Sequence p q) = pick (active H p) (two Sequence (recovering H p) q) (recovering H q)
recovering H (one Loop p) = two Sequence (recovering H p) (one Loop p)
recovering H (two (Present s) p q) = pick (active H p) (recovering H p) (recovering H q)
recovering H (one (Watching s) p) = present_else s (one (Watching s) (recovering H p))
recovering H (two Parallel p q) = two Parallel (pick (active H p) (recovering H p) (leaf Nothing)) (pick (active H q) (recovering H q) (leaf Nothing))

-- R(stat^H): "Subterms labeled by - .. are left unchanged."
unfoldable pub recovered : Halts → Stmt → Stmt
unfolding active recovering pick
recovered H t = pick (active H t) (recovering H t) t
