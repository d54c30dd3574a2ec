-- INSTANT and TWICE, each with the statement's number that is its place.
use Rattle.std.specs.Prelude.{Bool, true, false, ◌&&◌, ◌||◌, List, [], ◌∷◌, ◌++◌, map, ◌+◌, Option, Some, None}
use Rattle.number.specs.declared.StmtNo.{StmtNo}
use Rattle.number.specs.Number.{pick}
use Rattle.sheet.specs.declared.Unary.TheVariants.{Loop, Watching, Trap, Signal}
use Rattle.sheet.specs.declared.Binary.TheVariants.{Sequence, Present, Parallel}
use Rattle.sheet.specs.Stmt.{Stmt, leaf, one, two, size}
use Rattle.sheet.specs.Read.{further}
use Rattle.sets.specs.Codes.{Codes, join, when, maxima, replaced, caught_codes}
use Rattle.sets.specs.Static.{K, R}

-- the first that is found
unfoldable pub or_else : Option StmtNo → Option StmtNo → Option StmtNo
or_else (Some n) f = Some n
or_else None f = f

-- "INSTANT: some loop has 0 in K(p)", the "first such loop's number"; t has the number n
unfoldable pub instant : StmtNo → Stmt → Option StmtNo
unfolding K size or_else pick
instant n (leaf l) = None
instant n (one Loop p) = pick (K p 0) (Some n) (instant (further n 1) p)
instant n (one (Watching s) p) = instant (further n 1) p
instant n (one Trap p) = instant (further n 1) p
instant n (one (Signal s) p) = instant (further n 1) p
instant n (two b p q) = or_else (instant (further n 1) p) (instant (further n (1 + size p)) q)

-- "TWICE: take each parallel or signal statement X, with C = R(X), and climb.": X; of the statement that the climb has come to, the codes C and
-- whether "starting [it] may start X in the same instant"; and whether a loop below was the fault
pub record Climb : Type 0 where
  pub at : StmtNo
  pub codes : Codes
  pub starts : Bool
  pub fault : Bool

-- the climb from X begins
abbrev pub from : StmtNo → Codes → Climb
from n C = record { at = n; codes = C; starts = true; fault = false }

-- it passes a statement that makes f C of C
abbrev pub through : (Codes → Codes) → Climb → Climb
through f c = record { at = c.at; codes = f c.codes; starts = c.starts; fault = c.fault }

-- "going down to X, a right side of a sequence is reached only if its left has 0 in K": coming up from behind p, without 0 there is a wall
abbrev pub behind : Stmt → Climb → Climb
behind p c = record { at = c.at; codes = c.codes; starts = K p 0 && c.starts; fault = c.fault }

-- "A loop reached with 0 in C shall be a fault only if starting its body may start X in the same instant .. Otherwise 0 in C is replaced by K of
-- the body and the climb goes on."
abbrev pub looped : Stmt → Climb → Climb
looped p c = record { at = c.at; codes = replaced c.codes (K p); starts = c.starts; fault = c.fault || (c.starts && c.codes 0) }

-- "A parallel takes maxima of C with the sibling's R, and with 0 if the sibling has 0 in K or R."
abbrev pub besides : Stmt → Codes → Codes
besides q C = join (maxima C (R q)) (when (K q 0 || R q 0) C)

-- the climbs of the statement with the number n, in the order of their X: "As left of a sequence, 0 in C is replaced by K(right). .. A
-- trap maps. .. Others pass C on."
unfoldable pub climbs : StmtNo → Stmt → List Climb
unfolding K R size
climbs n (leaf l) = []
climbs n (one Loop p) = map (looped p) (climbs (further n 1) p)
climbs n (one (Watching s) p) = climbs (further n 1) p
climbs n (one Trap p) = map (through caught_codes) (climbs (further n 1) p)
climbs n (one (Signal s) p) = from n (R (one (Signal s) p)) ∷ climbs (further n 1) p
climbs n (two Sequence p q) =
    map (through (λ C. replaced C (K q))) (climbs (further n 1) p) ++ map (behind p) (climbs (further n (1 + size p)) q)
climbs n (two (Present s) p q) = climbs (further n 1) p ++ climbs (further n (1 + size p)) q
climbs n (two Parallel p q) =
    from n (R (two Parallel p q))
    ∷ (map (through (besides q)) (climbs (further n 1) p) ++ map (through (besides p)) (climbs (further n (1 + size p)) q))

-- the "first such X"
unfoldable pub first_fault : List Climb → Option StmtNo
unfolding pick
first_fault [] = None
first_fault (c ∷ cs) = pick c.fault (Some c.at) (first_fault cs)

unfoldable pub twice : StmtNo → Stmt → Option StmtNo
unfolding first_fault climbs
twice n t = first_fault (climbs n t)
