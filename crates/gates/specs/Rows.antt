-- Rows of code nets: "one net for each code up to 1+d, d enclosing traps; unnamed nets are 0". A row has a net for each code that the most
-- traps one in another allow; those above 1+d are 0.
use Rattle.std.specs.Prelude.{Bool, true, false, List, [], ◌∷◌, ◌++◌, map, ℕ, suc, ◌+◌, ◌-◌, length, get_or, drop, replicate}
use Rattle.number.specs.declared.CellNo.{CellNo}
use Rattle.limits.specs.Limits.{max_codes}
use Rattle.cells.specs.declared.Cell.{Cell}
use Rattle.cells.specs.Cells.{low}
use Rattle.gates.specs.Folding.{New, old, or_at, butnot_at}

-- the net of code j
abbrev pub code : List CellNo → ℕ → CellNo
code ks j = get_or ks j low

-- "code k is g": the row that names no other net
abbrev pub only : ℕ → CellNo → List CellNo
only k g = replicate k low ++ (g ∷ replicate (max_codes - suc k) low)

-- the row with y for its code 0
abbrev pub with_code0 : CellNo → List CellNo → List CellNo
with_code0 y ks = y ∷ drop 1 ks

-- some new cells, and the row of nets that they give
pub record NewRow : Type 0 where
  pub cells : List Cell
  pub nets : List CellNo

-- "codes or'ed upward from 0": the rows of p and of q
unfoldable pub or_row : ℕ → List CellNo → List CellNo → NewRow
or_row n [] qs = record { cells = []; nets = qs }
or_row n (p ∷ ps) [] = record { cells = []; nets = p ∷ ps }
or_row n (p ∷ ps) (q ∷ qs) =
    let o : New = or_at n p q in
    let r : NewRow = or_row (n + length o.cells) ps qs in
    record { cells = o.cells ++ r.cells; nets = o.net ∷ r.nets }

-- "trap: code 0 = or(p's 0, p's 2); 1 stays; j is p's j+1": o is that or
abbrev pub trap_row : CellNo → List CellNo → List CellNo
trap_row o ps = o ∷ (code ps 1 ∷ (drop 3 ps ++ (low ∷ [])))

-- p's j with q's j
unfoldable pub pairs : List CellNo → List CellNo → List (CellNo × CellNo)
pairs [] qs = map (λ q. (low, q)) qs
pairs (p ∷ ps) [] = (p, low) ∷ pairs ps []
pairs (p ∷ ps) (q ∷ qs) = (p, q) ∷ pairs ps qs

-- "code j = butnot(m,x) if j is in K or R of the parallel, else 0"
abbrev pub only_if : Bool → New → New
only_if true w = w
only_if false w = old low

-- one code of a parallel: its new cells, its net, and x after it
pub record NewCode : Type 0 where
  pub cells : List Cell
  pub net : CellNo
  pub above : CellNo

-- "m = or(p's j, q's j); code j = butnot(m,x) if j is in K or R of the parallel, else 0; if j > 0, x = or(x,m)": `keep` says whether j is in K or R
abbrev pub level_at : ℕ → Bool → CellNo → CellNo → CellNo → NewCode
level_at n keep p q x =
    let m : New = or_at n p q in
    let n₂ : ℕ = n + length m.cells in
    let b : New = only_if keep (butnot_at n₂ m.net x) in
    let n₃ : ℕ = n₂ + length b.cells in
    let y : New = or_at n₃ x m.net in
    record { cells = m.cells ++ (b.cells ++ y.cells); net = b.net; above = y.net }

-- the same for j = 0, which is the last and leaves x as it is
abbrev pub last_at : ℕ → Bool → CellNo → CellNo → CellNo → New
last_at n keep p q x =
    let m : New = or_at n p q in
    let b : New = only_if keep (butnot_at (n + length m.cells) m.net x) in
    record { cells = m.cells ++ b.cells; net = b.net }

-- codes of a parallel: their new cells, their nets, and x as it stands after each
pub record NewCodes : Type 0 where
  pub cells : List Cell
  pub nets : List CellNo
  pub above : List CellNo

-- "x = 0; for j from 1+d down to 0": the codes from some code above 0 on, whose cells come before those of the codes below it
unfoldable pub highest : ℕ → (ℕ → Bool) → List (CellNo × CellNo) → NewCodes
highest n keep [] = record { cells = []; nets = []; above = [] }
highest n keep (c ∷ cs) =
    let r : NewCodes = highest n (λ j. keep (suc j)) cs in
    let v : NewCode = level_at (n + length r.cells) (keep 0) c.0 c.1 (code r.above 0) in
    record { cells = r.cells ++ v.cells; nets = v.net ∷ r.nets; above = v.above ∷ r.above }

-- all codes of a parallel; `above` begins at code 1
unfoldable pub parallel_row : ℕ → (ℕ → Bool) → List (CellNo × CellNo) → NewCodes
parallel_row n keep [] = record { cells = []; nets = []; above = [] }
parallel_row n keep (c ∷ cs) =
    let r : NewCodes = highest n (λ j. keep (suc j)) cs in
    let v : New = last_at (n + length r.cells) (keep 0) c.0 c.1 (code r.above 0) in
    record { cells = r.cells ++ v.cells; nets = v.net ∷ r.nets; above = r.above }

-- "Q's last operand is x as it stands after j = 2"
abbrev pub kill_of : NewCodes → CellNo
kill_of h = code h.above 1
