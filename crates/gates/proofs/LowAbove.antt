-- "one net for each code up to 1+d, d enclosing traps": in rows those above 1+d are low, and make no cells. Stated over any d.
use Prim.Native.Nat.{ℕ, zero, suc, ◌+◌, ◌-◌, ◌≤◌, ◌<◌}
use mathlib.Core.Path.{◌≡◌, refl, sym, ap, ◌∙◌}
use mathlib.Core.Bool.{Bool, true, false}
use mathlib.Core.List.{List, [], ◌∷◌, ◌++◌}
use native.Mathlib.Omega.{arith}
use native.Mathlib.Nat.{not-suc-le-zero, le_of_suc-le-suc}
use lib.ListN.{length, get_or, take, replicate}
use borrow.Author.Tests.{eqb-true}
use Rattle.number.specs.Counts.{cell_no, of_cell}
use Rattle.number.specs.Number.{pick}
use Rattle.number.specs.declared.CellNo.{CellNo}
use Rattle.limits.specs.Limits.{max_codes}
use Rattle.cells.specs.declared.Cell.{Cell}
use Rattle.cells.specs.Cells.{low, is_low}
use Rattle.gates.specs.Folding.{old, gate_at, or_at, butnot_at}
use Rattle.gates.specs.Rows.{code, only, with_code0, trap_row, or_row, pairs, NewCode, level_at, NewCodes, highest, parallel_row, kill_of}
use Rattle.gates.proofs.OrRow.{with_code0_at, trap_at}
use Rattle.gates.proofs.ParallelRow.{pairs_at}

abbrev pub LowAbove : ℕ → List CellNo → Type 0
LowAbove d ks = (j : ℕ) → 1 + d < j → code ks j ≡ low

pub only_low : (d k : ℕ) (g : CellNo) → k ≤ 1 + d → LowAbove d (only k g)
only_low d k g h j l = go k (max_codes - suc k) j (omega arith)
  where
    lows : (i j : ℕ) → code (replicate i low) j ≡ low
    lows zero j = refl
    lows (suc i) zero = refl
    lows (suc i) (suc j) = lows i j

    go : (k r j : ℕ) → k < j → code (replicate k low ++ (g ∷ replicate r low)) j ≡ low
    go k r zero l = absurd (not-suc-le-zero l)
    go zero r (suc j) l = lows r j
    go (suc k) r (suc j) l = go k r j (le_of_suc-le-suc l)

pub with_code0_low : (d : ℕ) (y : CellNo) (ks : List CellNo) → LowAbove d ks → LowAbove d (with_code0 y ks)
with_code0_low d y ks h zero l = absurd (not-suc-le-zero l)
with_code0_low d y ks h (suc j) l = with_code0_at y ks j ∙ h (suc j) l

-- a trap has one enclosing trap less than its part
pub trap_low : (d : ℕ) (o : CellNo) (ks : List CellNo) → LowAbove (suc d) ks → LowAbove d (trap_row o ks)
trap_low d o ks h zero l = absurd (not-suc-le-zero l)
trap_low d o ks h (suc zero) l = absurd (omega arith)
trap_low d o ks h (suc (suc j)) l = trap_at o ks j ∙ h (suc (suc (suc j))) (omega arith)

-- "or with 0 is the other operand"
or_low_left : (n : ℕ) (y : CellNo) → or_at n low y ≡ old y
unfolding gate_at pick
or_low_left n y = refl

or_low_right : (n : ℕ) (x : CellNo) → or_at n x low ≡ old x
unfolding gate_at pick
or_low_right n x = go (is_low x) refl
  where
    go : (b : Bool) → is_low x ≡ b → pick b (old low) (old x) ≡ old x
    go true e = ap (λ (k : ℕ). old (cell_no k)) (sym (eqb-true (of_cell x) 0 e))
    go false e = refl

-- "butnot 0 y is 0"
butnot_low : (n : ℕ) (y : CellNo) → butnot_at n low y ≡ old low
unfolding gate_at pick
butnot_low n y = refl

pub or_row_low : (d n : ℕ) (ps qs : List CellNo) → LowAbove d ps → LowAbove d qs → LowAbove d (or_row n ps qs).nets
unfolding or_row
or_row_low d n ps qs hp hq j l = go ps qs n j (hp j l) (hq j l)
  where
    go : (ps qs : List CellNo) (n j : ℕ) → code ps j ≡ low → code qs j ≡ low → code (or_row n ps qs).nets j ≡ low
    go [] qs n j a b = b
    go (p ∷ ps) [] n j a b = a
    go (p ∷ ps) (q ∷ qs) n zero a b = rw (a, or_low_left n q) b
    go (p ∷ ps) (q ∷ qs) n (suc j) a b = go ps qs (n + length (or_at n p q).cells) j a b

-- a code that neither part has makes no cell and leaves x as it is
level_low : (n : ℕ) (keep : Bool) (x : CellNo) → level_at n keep low low x ≡ record { cells = []; net = low; above = x }
level_low n true x = simp (or_low_left, butnot_low, or_low_right)
level_low n false x = simp (or_low_left, or_low_right)

-- the same cells, nets and x
pub record Same (a b : NewCodes) : Type 0 where
  pub cells : a.cells ≡ b.cells
  pub nets : (j : ℕ) → code a.nets j ≡ code b.nets j
  pub above : (j : ℕ) → code a.above j ≡ code b.above j

-- both parts have no code from k on
abbrev NoneFrom : ℕ → List (CellNo × CellNo) → Type 0
NoneFrom k cs = (j : ℕ) → k ≤ j → get_or cs j (low, low) ≡ (low, low)

cut : (k : ℕ) (cs : List (CellNo × CellNo)) (n : ℕ) (keep : ℕ → Bool) → NoneFrom k cs → Same (highest n keep cs) (highest n keep (take k cs))
unfolding highest
cut zero [] n keep h = record { cells = refl; nets = λ j. refl; above = λ j. refl }
cut (suc k) [] n keep h = record { cells = refl; nets = λ j. refl; above = λ j. refl }
cut zero (c ∷ cs) n keep h =
    let r : NewCodes = highest n (λ j. keep (suc j)) cs in
    let v : NewCode = level_at (n + length r.cells) (keep 0) c.0 c.1 (code r.above 0) in
    let rest = cut zero cs n (λ j. keep (suc j)) (λ j l. h (suc j) (omega arith)) in
    let here : c ≡ (low, low) = h 0 (omega arith) in
    let e : v ≡ record { cells = []; net = low; above = low } = rw (here, rest.above 0) (level_low (n + length r.cells) (keep 0) low) in
    record {
      cells = ap (λ (u : List Cell). u ++ v.cells) rest.cells ∙ ap (λ (w : NewCode). w.cells) e;
      nets = λ j. elim j as (λ (i : ℕ). code (highest n keep (c ∷ cs)).nets i ≡ low) [ zero ↦ ap (λ (w : NewCode). w.net) e | suc i ↦ rest.nets i ];
      above = λ j. elim j as (λ (i : ℕ). code (highest n keep (c ∷ cs)).above i ≡ low) [ zero ↦ ap (λ (w : NewCode). w.above) e | suc i ↦ rest.above i ];
    }
cut (suc k) (c ∷ cs) n keep h =
    let rest = cut k cs n (λ j. keep (suc j)) (λ j l. h (suc j) (omega arith)) in
    record {
      cells = rw (rest.cells, rest.above 0);
      nets = λ j. elim j as (λ (i : ℕ). code (highest n keep (c ∷ cs)).nets i ≡ code (highest n keep (take (suc k) (c ∷ cs))).nets i) [ zero ↦ rw (rest.cells, rest.above 0) | suc i ↦ rest.nets i ];
      above = λ j. elim j as (λ (i : ℕ). code (highest n keep (c ∷ cs)).above i ≡ code (highest n keep (take (suc k) (c ∷ cs))).above i) [ zero ↦ rw (rest.cells, rest.above 0) | suc i ↦ rest.above i ];
    }

cut_row : (k : ℕ) (cs : List (CellNo × CellNo)) (n : ℕ) (keep : ℕ → Bool) → NoneFrom (suc k) cs
    → Same (parallel_row n keep cs) (parallel_row n keep (take (suc k) cs))
unfolding parallel_row
cut_row k [] n keep h = record { cells = refl; nets = λ j. refl; above = λ j. refl }
cut_row k (c ∷ cs) n keep h =
    let rest = cut k cs n (λ j. keep (suc j)) (λ j l. h (suc j) (omega arith)) in
    record {
      cells = rw (rest.cells, rest.above 0);
      nets = λ j. elim j as (λ (i : ℕ). code (parallel_row n keep (c ∷ cs)).nets i ≡ code (parallel_row n keep (take (suc k) (c ∷ cs))).nets i) [ zero ↦ rw (rest.cells, rest.above 0) | suc i ↦ rest.nets i ];
      above = rest.above;
    }

none_from : (d : ℕ) (ps qs : List CellNo) → LowAbove d ps → LowAbove d qs → NoneFrom (suc (suc d)) (pairs ps qs)
none_from d ps qs hp hq j l = pairs_at ps qs j ∙ rw (hp j (omega arith), hq j (omega arith))

-- "for j from 1+d down to 0": from the highest code down come the same cells and nets, since the codes above 1+d make none
pub from_highest : (d n : ℕ) (keep : ℕ → Bool) (ps qs : List CellNo) → LowAbove d ps → LowAbove d qs
    → Same (parallel_row n keep (pairs ps qs)) (parallel_row n keep (take (suc (suc d)) (pairs ps qs)))
from_highest d n keep ps qs hp hq = cut_row (suc d) (pairs ps qs) n keep (none_from d ps qs hp hq)

pub parallel_low : (d n : ℕ) (keep : ℕ → Bool) (ps qs : List CellNo) → LowAbove d ps → LowAbove d qs
    → LowAbove d (parallel_row n keep (pairs ps qs)).nets
unfolding highest parallel_row
parallel_low d n keep ps qs hp hq j l = (from_highest d n keep ps qs hp hq).nets j ∙ row (pairs ps qs) j l
  where
    above : (k : ℕ) (cs : List (CellNo × CellNo)) (keep : ℕ → Bool) (j : ℕ) → k ≤ j → code (highest n keep (take k cs)).nets j ≡ low
    above zero cs keep j l = refl
    above (suc k) [] keep j l = refl
    above (suc k) (c ∷ cs) keep zero l = absurd (not-suc-le-zero l)
    above (suc k) (c ∷ cs) keep (suc j) l = above k cs (λ i. keep (suc i)) j (le_of_suc-le-suc l)

    row : (cs : List (CellNo × CellNo)) (j : ℕ) → 1 + d < j → code (parallel_row n keep (take (suc (suc d)) cs)).nets j ≡ low
    row [] j l = refl
    row (c ∷ cs) zero l = absurd (not-suc-le-zero l)
    row (c ∷ cs) (suc j) l = above (suc d) cs (λ i. keep (suc i)) j (omega arith)

-- "x as it stands after j = 2, or 0 when d = 0": with no enclosing trap it is 0
pub kill_low : (n : ℕ) (keep : ℕ → Bool) (ps qs : List CellNo) → LowAbove 0 ps → LowAbove 0 qs → kill_of (parallel_row n keep (pairs ps qs)) ≡ low
unfolding highest parallel_row
kill_low n keep ps qs hp hq = (from_highest 0 n keep ps qs hp hq).above 1 ∙ row (pairs ps qs)
  where
    row : (cs : List (CellNo × CellNo)) → kill_of (parallel_row n keep (take 2 cs)) ≡ low
    row [] = refl
    row (c ∷ []) = refl
    row (c ∷ (b ∷ cs)) = refl
