-- Every operand is a cell. m is a number that the nets handed in are below and that the new cells do not reach past: then the operands of
-- the new cells are below m, and so are the nets that come back. With m the next number after all cells, that is what a netlist asks for.
use Prim.Native.Nat.{ℕ, zero, suc, ◌+◌, ◌-◌, ◌≤◌, ◌<◌}
use mathlib.Core.Path.{◌≡◌, ap, ◌∙◌}
use mathlib.Core.Bool.{Bool, true, false}
use mathlib.Core.List.{List, [], ◌∷◌, ◌++◌}
use native.Mathlib.Omega.{arith}
use lib.ListN.{length, get_or, replicate, length-append}
use Rattle.number.specs.Counts.{of_cell}
use Rattle.number.specs.declared.CellNo.{CellNo}
use Rattle.limits.specs.Limits.{max_codes}
use Rattle.cells.specs.declared.Gate as gate
use Rattle.cells.specs.declared.Cell.{Cell}
use Rattle.cells.specs.declared.Gate.TheVariants.{Or, Butnot}
use Rattle.cells.specs.Cells.{low}
use Rattle.cells.proofs.Within.{AllWithin, none_within, append_within}
use Rattle.gates.specs.Folding.{New, gate_at, or_at, butnot_at}
use Rattle.gates.specs.Rows.{code, only, with_code0, trap_row, NewRow, or_row, pairs, only_if, NewCode, level_at, last_at, NewCodes, highest, parallel_row}
use Rattle.gates.proofs.Laws.{by_folding, first_low_is, second_low_is}
use Rattle.gates.proofs.ParallelRow.{pairs_at}
use Rattle.gates.proofs.OrRow.{trap_at, with_code0_at}

-- every net of a row is below m
abbrev pub NetsBelow : ℕ → List CellNo → Type 0
NetsBelow m ks = (j : ℕ) → of_cell (code ks j) < m

pub record NewWithin (s m : ℕ) (w : New) : Type 0 where
  pub operands : AllWithin s m w.cells
  pub net : of_cell w.net < m

pub record RowWithin (s m : ℕ) (w : NewRow) : Type 0 where
  pub operands : AllWithin s m w.cells
  pub nets : NetsBelow m w.nets

record LevelWithin (s m : ℕ) (w : NewCode) : Type 0 where
  operands : AllWithin s m w.cells
  net : of_cell w.net < m
  above : of_cell w.above < m

pub record HighestWithin (s m : ℕ) (w : NewCodes) : Type 0 where
  pub operands : AllWithin s m w.cells
  pub nets : NetsBelow m w.nets
  pub above : NetsBelow m w.above

module _ (s m : ℕ) where
  pub gate_within : (g : gate.Gate) (n : ℕ) (x y : CellNo) → of_cell x < m → of_cell y < m → n + length (gate_at g n x y).cells ≤ m
      → NewWithin s m (gate_at g n x y)
  unfolding AllWithin
  gate_within g n x y hx hy =
      let some : 0 < m = omega arith in
      by_folding (λ (w : New). n + length w.cells ≤ m → NewWithin s m w) g n x y
      (λ e h. record { operands = tt; net = first_low_is (λ (z : CellNo). of_cell z < m) g y some hy })
      (λ e h. record { operands = tt; net = second_low_is (λ (z : CellNo). of_cell z < m) g x some hx })
      (λ h. record { operands = ((hx, hy), tt); net = omega arith })

  pub only_within : (k : ℕ) (g : CellNo) → of_cell g < m → NetsBelow m (only k g)
  only_within k g h = go k (max_codes - suc k)
    where
      lows : (i j : ℕ) → of_cell (code (replicate i low) j) < m
      lows zero j = omega arith
      lows (suc i) zero = omega arith
      lows (suc i) (suc j) = lows i j

      go : (i r : ℕ) → NetsBelow m (replicate i low ++ (g ∷ replicate r low))
      go zero r zero = h
      go zero r (suc j) = lows r j
      go (suc i) r zero = omega arith
      go (suc i) r (suc j) = go i r j

  pub with_code0_within : (y : CellNo) (ks : List CellNo) → of_cell y < m → NetsBelow m ks → NetsBelow m (with_code0 y ks)
  with_code0_within y ks hy h zero = hy
  with_code0_within y ks hy h (suc j) = rw (with_code0_at y ks j) (h (suc j))

  pub trap_within : (o : CellNo) (ks : List CellNo) → of_cell o < m → NetsBelow m ks → NetsBelow m (trap_row o ks)
  trap_within o ks ho h zero = ho
  trap_within o ks ho h (suc zero) = h 1
  trap_within o ks ho h (suc (suc j)) = rw (trap_at o ks j) (h (suc (suc (suc j))))

  pub or_row_within : (ps qs : List CellNo) (n : ℕ) → NetsBelow m ps → NetsBelow m qs → n + length (or_row n ps qs).cells ≤ m
      → RowWithin s m (or_row n ps qs)
  unfolding or_row
  or_row_within [] qs n hp hq h = record { operands = none_within s m; nets = hq }
  or_row_within (p ∷ ps) [] n hp hq h = record { operands = none_within s m; nets = hp }
  or_row_within (p ∷ ps) (q ∷ qs) n hp hq h =
      let o : New = or_at n p q in
      let r : NewRow = or_row (n + length o.cells) ps qs in
      let long : length (o.cells ++ r.cells) ≡ length o.cells + length r.cells = length-append o.cells r.cells in
      let this : NewWithin s m o = gate_within Or n p q (hp 0) (hq 0) (omega arith) in
      let rest : RowWithin s m r = or_row_within ps qs (n + length o.cells) (λ j. hp (suc j)) (λ j. hq (suc j)) (omega arith) in
      record {
        operands = append_within s m o.cells r.cells this.operands rest.operands;
        nets = λ j. elim j as (λ (k : ℕ). of_cell (code (o.net ∷ r.nets) k) < m) [ zero ↦ this.net | suc i ↦ rest.nets i ];
      }

  only_if_within : (keep : Bool) (w : New) → (length w.cells ≤ length (only_if keep w).cells → NewWithin s m w) → 0 < m
      → NewWithin s m (only_if keep w)
  only_if_within true w f h = f (omega arith)
  only_if_within false w f h = record { operands = none_within s m; net = h }

  -- m of a code and its butnot, which code 0 and the others have alike
  abbrev held : ℕ → Bool → CellNo → CellNo → CellNo → New
  held n keep p q x = only_if keep (butnot_at (n + length (or_at n p q).cells) (or_at n p q).net x)

  last_within : (n : ℕ) (keep : Bool) (p q x : CellNo) → of_cell p < m → of_cell q < m → of_cell x < m
      → n + length (last_at n keep p q x).cells ≤ m → NewWithin s m (or_at n p q) × NewWithin s m (held n keep p q x)
  last_within n keep p q x hp hq hx h =
      let o : New = or_at n p q in
      let b : New = held n keep p q x in
      let n₂ : ℕ = n + length o.cells in
      let long : length (o.cells ++ b.cells) ≡ length o.cells + length b.cells = length-append o.cells b.cells in
      let this : NewWithin s m o = gate_within Or n p q hp hq (omega arith) in
      (this, only_if_within keep (butnot_at n₂ o.net x) (λ l. gate_within Butnot n₂ o.net x this.net hx (omega arith)) (omega arith))

  level_within : (n : ℕ) (keep : Bool) (p q x : CellNo) → of_cell p < m → of_cell q < m → of_cell x < m
      → n + length (level_at n keep p q x).cells ≤ m → LevelWithin s m (level_at n keep p q x)
  level_within n keep p q x hp hq hx h =
      let o : New = or_at n p q in
      let b : New = held n keep p q x in
      let n₃ : ℕ = n + length o.cells + length b.cells in
      let y : New = or_at n₃ x o.net in
      let long : length (o.cells ++ (b.cells ++ y.cells)) ≡ length o.cells + (length b.cells + length y.cells) =
      length-append o.cells (b.cells ++ y.cells) ∙ ap (λ (k : ℕ). length o.cells + k) (length-append b.cells y.cells) in
      let short : length (o.cells ++ b.cells) ≡ length o.cells + length b.cells = length-append o.cells b.cells in
      let both : NewWithin s m o × NewWithin s m b = last_within n keep p q x hp hq hx (omega arith) in
      let next : NewWithin s m y = gate_within Or n₃ x o.net hx both.0.net (omega arith) in
      record {
        operands =
            append_within s m o.cells (b.cells ++ y.cells) both.0.operands
            (append_within s m b.cells y.cells both.1.operands next.operands);
        net = both.1.net;
        above = next.net;
      }

  abbrev PairsBelow : List (CellNo × CellNo) → Type 0
  PairsBelow cs = (j : ℕ) → (of_cell (get_or cs j (low, low)).0 < m) × (of_cell (get_or cs j (low, low)).1 < m)

  highest_within : (cs : List (CellNo × CellNo)) (n : ℕ) (keep : ℕ → Bool) → PairsBelow cs → 0 < m → n + length (highest n keep cs).cells ≤ m
      → HighestWithin s m (highest n keep cs)
  unfolding highest
  highest_within [] n keep hc some h = record { operands = none_within s m; nets = λ j. some; above = λ j. some }
  highest_within (c ∷ cs) n keep hc some h =
      let r : NewCodes = highest n (λ j. keep (suc j)) cs in
      let n₁ : ℕ = n + length r.cells in
      let v : NewCode = level_at n₁ (keep 0) c.0 c.1 (code r.above 0) in
      let long : length (r.cells ++ v.cells) ≡ length r.cells + length v.cells = length-append r.cells v.cells in
      let rest : HighestWithin s m r = highest_within cs n (λ j. keep (suc j)) (λ j. hc (suc j)) some (omega arith) in
      let this : LevelWithin s m v = level_within n₁ (keep 0) c.0 c.1 (code r.above 0) (hc 0).0 (hc 0).1 (rest.above 0) (omega arith) in
      record {
        operands = append_within s m r.cells v.cells rest.operands this.operands;
        nets = λ j. elim j as (λ (k : ℕ). of_cell (code (v.net ∷ r.nets) k) < m) [ zero ↦ this.net | suc i ↦ rest.nets i ];
        above = λ j. elim j as (λ (k : ℕ). of_cell (code (v.above ∷ r.above) k) < m) [ zero ↦ this.above | suc i ↦ rest.above i ];
      }

  row_of_pairs : (cs : List (CellNo × CellNo)) (n : ℕ) (keep : ℕ → Bool) → PairsBelow cs → 0 < m → n + length (parallel_row n keep cs).cells ≤ m
      → HighestWithin s m (parallel_row n keep cs)
  unfolding parallel_row
  row_of_pairs [] n keep hc some h = record { operands = none_within s m; nets = λ j. some; above = λ j. some }
  row_of_pairs (c ∷ cs) n keep hc some h =
      let r : NewCodes = highest n (λ j. keep (suc j)) cs in
      let n₁ : ℕ = n + length r.cells in
      let x : CellNo = code r.above 0 in
      let o : New = or_at n₁ c.0 c.1 in
      let b : New = held n₁ (keep 0) c.0 c.1 x in
      let last : List Cell = o.cells ++ b.cells in
      let long : length (r.cells ++ last) ≡ length r.cells + length last = length-append r.cells last in
      let rest : HighestWithin s m r = highest_within cs n (λ j. keep (suc j)) (λ j. hc (suc j)) some (omega arith) in
      let both : NewWithin s m o × NewWithin s m b =
      last_within n₁ (keep 0) c.0 c.1 x (hc 0).0 (hc 0).1 (rest.above 0) (omega arith) in
      record {
        operands = append_within s m r.cells last rest.operands (append_within s m o.cells b.cells both.0.operands both.1.operands);
        nets = λ j. elim j as (λ (k : ℕ). of_cell (code (b.net ∷ r.nets) k) < m) [ zero ↦ both.1.net | suc i ↦ rest.nets i ];
        above = rest.above;
      }

  pub parallel_row_within : (ps qs : List CellNo) (n : ℕ) (keep : ℕ → Bool) → NetsBelow m ps → NetsBelow m qs
      → n + length (parallel_row n keep (pairs ps qs)).cells ≤ m → HighestWithin s m (parallel_row n keep (pairs ps qs))
  parallel_row_within ps qs n keep hp hq h = row_of_pairs (pairs ps qs) n keep (λ j. rw (pairs_at ps qs j) (hp j, hq j)) (omega (arith, hp 0)) h
