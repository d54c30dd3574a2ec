-- The loop that or's two rows, and the rows that are made without cells, that of a trap code by code.
use Prim.Native.Nat.{ℕ, suc, zero, ◌+◌, ◌-◌, ◌≤◌, ◌<◌}
use mathlib.Core.Path.{◌≡◌, refl, sym, ap, ◌∙◌}
use mathlib.Core.List.{List, [], ◌∷◌, ◌++◌, append_assoc, append-nil}
use native.Mathlib.Omega.{arith}
use native.Mathlib.Numerals.{add-one}
use native.Mathlib.Nat.{zero-add, suc-add, not-suc-le-zero, le_of_suc-le-suc}
use lib.ListN.{length, set, take, drop, get_or, replicate, length-set, drop_of_length-le}
use lib.Seq.{drop-cons, take-suc-set, take_all}
use Rattle.number.specs.declared.CellNo.{CellNo}
use Rattle.limits.specs.Limits.{max_codes}
use Rattle.cells.specs.declared.Cell.{Cell}
use Rattle.cells.specs.Cells.{low}
use Rattle.gates.specs.declared.Column.{Column}
use Rattle.gates.specs.Folding.{New, or_at}
use Rattle.gates.specs.Rows.{code, only, with_code0, trap_row, NewRow, or_row}
use Rattle.gates.specs.Store.{WroteCells, Makes, MakesRow}
use Rattle.gates.proofs.Laws.{wrote_none, wrote_more}

-- The loop's invariant: with the nets before j made, what is made and what is left to make are the whole.
pub record Rowing (c₀ : Column) (a b : List CellNo) (c : Column) (nets : List CellNo) (j : ℕ) : Type 0 where
  pub made : List Cell
  pub wrote : WroteCells c₀ c made
  pub cells : made ++ (or_row c.count (drop j a) (drop j b)).cells ≡ (or_row c₀.count a b).cells
  pub out : take j nets ++ (or_row c.count (drop j a) (drop j b)).nets ≡ (or_row c₀.count a b).nets
  pub la : length a ≡ max_codes
  pub lb : length b ≡ max_codes
  pub ln : length nets ≡ max_codes
  pub upto : j ≤ max_codes
  pub few : c.count ≤ c₀.count + j

pub rowing_start : (c : Column) (a b : List CellNo) → length a ≡ max_codes → length b ≡ max_codes → Rowing c a b c b 0
rowing_start c a b ha hb =
    record { made = []; wrote = wrote_none c; cells = refl; out = refl; la = ha; lb = hb; ln = hb; upto = omega arith; few = omega arith }

-- what or'ing the codes of p and q gives, before the rest
abbrev after : New → NewRow → NewRow
after o r = record { cells = o.cells ++ r.cells; nets = o.net ∷ r.nets }

row_cons : (n : ℕ) (p q : CellNo) (ps qs : List CellNo)
    → or_row n (p ∷ ps) (q ∷ qs) ≡ after (or_at n p q) (or_row (n + length (or_at n p q).cells) ps qs)
unfolding or_row
row_cons n p q ps qs = refl

row_none : (n : ℕ) → or_row n [] [] ≡ record { cells = []; nets = [] }
unfolding or_row
row_none n = refl

module _ {c₀ : Column} {a b : List CellNo} {c : Column} {nets : List CellNo} {j : ℕ} where
  pub rowing_step : {c' : Column} {r : CellNo} (d : CellNo) → Rowing c₀ a b c nets j → j < max_codes
      → Makes 1 (or_at c.count (get_or a j d) (get_or b j d)) c c' r → Rowing c₀ a b c' (set nets j r) (j + 1)
  rowing_step {c'} {r} d v h m =
      let n : ℕ = c.count in
      let n' : ℕ = c'.count in
      let p : CellNo = get_or a j d in
      let q : CellNo = get_or b j d in
      let o : New = or_at n p q in
      let ea : drop j a ≡ p ∷ drop (suc j) a = drop-cons a j d (omega (arith, v.la)) in
      let eb : drop j b ≡ q ∷ drop (suc j) b = drop-cons b j d (omega (arith, v.lb)) in
      let e : n + length o.cells ≡ n' = sym m.wrote.counted in
      let er : or_row n (drop j a) (drop j b) ≡ after o (or_row n' (drop (suc j) a) (drop (suc j) b)) =
      rw (ea, eb, row_cons n p q (drop (suc j) a) (drop (suc j) b), e) in
      rw (add-one j) (record {
        made = v.made ++ o.cells;
        wrote = wrote_more v.wrote m.wrote;
        cells = append_assoc v.made _ _ ∙ (rw er at v.cells);
        out = rw (take-suc-set nets j r (omega (arith, v.ln)), append_assoc (take j nets), m.is) (rw er at v.out);
        la = v.la;
        lb = v.lb;
        ln = length-set nets j r ∙ v.ln;
        upto = h;
        few = omega (arith, m.few, v.few);
      })

  pub rowing_end : Rowing c₀ a b c nets j → max_codes ≤ j → MakesRow max_codes (or_row c₀.count a b) c₀ c nets
  rowing_end v h =
      let left : or_row c.count (drop j a) (drop j b) ≡ record { cells = []; nets = [] } =
      rw (drop_of_length-le a {i = j} (omega (arith, v.la)), drop_of_length-le b {i = j} (omega (arith, v.lb)), row_none c.count) in
      let cells : v.made ≡ (or_row c₀.count a b).cells = rw (left, append-nil v.made) at v.cells in
      let out : nets ≡ (or_row c₀.count a b).nets = rw (left, append-nil (take j nets), take_all j nets (omega (arith, v.ln))) at v.out in
      record { wrote = rw cells at v.wrote; is = out; few = omega (arith, v.few, v.upto) }

-- the row with one net is low at every code, with one store
pub only_is : (k : ℕ) (g : CellNo) → k < max_codes → set (replicate max_codes low) k g ≡ only k g
only_is k g h =
    let e : max_codes ≡ k + suc (max_codes - suc k) = omega arith in
    ap (λ (n : ℕ). set (replicate n low) k g) e ∙ go k (max_codes - suc k)
  where
    go : (k m : ℕ) → set (replicate (k + suc m) low) k g ≡ replicate k low ++ (g ∷ replicate m low)
    go zero m = rw zero-add
    go (suc k) m = rw suc-add (ap (λ (l : List CellNo). low ∷ l) (go k m))

pub with_code0_is : (y : CellNo) (ks : List CellNo) → length ks ≡ max_codes → set ks 0 y ≡ with_code0 y ks
with_code0_is y [] h = absurd (omega arith)
with_code0_is y (k ∷ ks) h = refl

-- the other codes stay
pub with_code0_at : (y : CellNo) (ks : List CellNo) (j : ℕ) → code (with_code0 y ks) (suc j) ≡ code ks (suc j)
with_code0_at y [] j = refl
with_code0_at y (k ∷ ks) j = refl

-- "j is p's j+1", from 2 on
pub trap_at : (o : CellNo) (ks : List CellNo) (j : ℕ) → code (trap_row o ks) (suc (suc j)) ≡ code ks (suc (suc (suc j)))
trap_at o ks j = pad (drop 3 ks) j ∙ past ks
  where
    pad : (cs : List CellNo) (i : ℕ) → code (cs ++ (low ∷ [])) i ≡ code cs i
    pad [] zero = refl
    pad [] (suc i) = refl
    pad (c ∷ cs) zero = refl
    pad (c ∷ cs) (suc i) = pad cs i

    past : (cs : List CellNo) → code (drop 3 cs) j ≡ code cs (suc (suc (suc j)))
    past [] = refl
    past (a ∷ []) = refl
    past (a ∷ (b ∷ [])) = refl
    past (a ∷ (b ∷ (c ∷ cs))) = refl

-- inside a row it does not matter what stands past its end
pub any : (l : List CellNo) (j : ℕ) (d : CellNo) → j < length l → get_or l j d ≡ code l j
any [] j d h = absurd (not-suc-le-zero h)
any (y ∷ l) zero d h = refl
any (y ∷ l) (suc j) d h = any l j d (le_of_suc-le-suc h)
