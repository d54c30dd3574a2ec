-- "Static sets": "K(t) holds the codes a start may give, R(t) those a resumption may give."
use Rattle.std.specs.Prelude.{Bool, true, false, ◌||◌}
use Rattle.sheet.specs.declared.Leaf.TheVariants.{Nothing, Halt, Emit, Exit}
use Rattle.sheet.specs.declared.Unary.TheVariants.{Loop, Watching, Trap, Signal}
use Rattle.sheet.specs.declared.Binary.TheVariants.{Sequence, Present, Parallel}
use Rattle.sheet.specs.Stmt.{Stmt, leaf, one, two}
use Rattle.sets.specs.Codes.{Codes, same, empty, join, when, maxima, replaced, less0, with0, caught_codes}

-- "K follows the start rules with both branches of present, all pairs of a parallel, and a loop without 0."
unfoldable pub K : Stmt → Codes
K (leaf Nothing) = same 0
K (leaf (Halt h)) = same 1
K (leaf (Emit s)) = same 0
K (two Sequence p q) = replaced (K p) (K q)
K (one Loop p) = less0 (K p)
K (two (Present s) p q) = join (K p) (K q)
K (one (Watching s) p) = K p
K (two Parallel p q) = maxima (K p) (K q)
K (one Trap p) = caught_codes (K p)
K (leaf (Exit k)) = same k
K (one (Signal s) p) = K p

unfoldable pub has_halts : Stmt → Bool
has_halts (leaf Nothing) = false
has_halts (leaf (Halt h)) = true
has_halts (leaf (Emit s)) = false
has_halts (leaf (Exit k)) = false
has_halts (one u p) = has_halts p
has_halts (two b p q) = has_halts p || has_halts q

-- "R: empty for a statement without halts; halt {1}; sequence R(p), with 0 replaced by K(q), and R(q); loop R(p), with 0 replaced by K(p)
-- less 0; present both; watching R(p) and 0; parallel the maxima of R(p) with R(q), also R(p) if q has 0 in K or R, and R(q) likewise;
-- trap by its map; signal R(p)." Where the parts have no halts their R is empty, and then so is what is made of them; watching alone adds
-- to it, so it asks.
unfoldable pub R : Stmt → Codes
unfolding K has_halts
R (leaf Nothing) = empty
R (leaf (Halt h)) = same 1
R (leaf (Emit s)) = empty
R (leaf (Exit k)) = empty
R (two Sequence p q) = join (replaced (R p) (K q)) (R q)
R (one Loop p) = replaced (R p) (less0 (K p))
R (two (Present s) p q) = join (R p) (R q)
R (one (Watching s) p) = when (has_halts p) (with0 (R p))
R (two Parallel p q) = join (maxima (R p) (R q)) (join (when (K q 0 || R q 0) (R p)) (when (K p 0 || R p 0) (R q)))
R (one Trap p) = caught_codes (R p)
R (one (Signal s) p) = R p
