-- The loop over the codes of a parallel, from the highest down.
use Prim.Native.Nat.{ℕ, suc, zero, ◌+◌, ◌-◌, ◌*◌, ◌≤◌, ◌<◌}
use mathlib.Core.Path.{◌≡◌, refl, sym, ap, ◌∙◌}
use mathlib.Core.Bool.{Bool}
use mathlib.Core.List.{List, [], ◌∷◌, ◌++◌, map}
use native.Mathlib.Omega.{arith}
use native.Mathlib.Nat.{add-zero, zero-add, add-suc, suc-add, not-suc-le-zero, le_of_suc-le-suc}
use lib.ListN.{length, set, drop, get_or, length-set, drop_of_length-le}
use lib.Seq.{drop-cons}
use Rattle.number.specs.declared.CellNo.{CellNo}
use Rattle.limits.specs.Limits.{max_codes}
use Rattle.cells.specs.Cells.{low}
use Rattle.gates.specs.declared.Column.{Column}
use Rattle.gates.specs.Folding.{New, or_at, butnot_at}
use Rattle.gates.specs.Rows.{code, only_if, pairs, NewCode, level_at, last_at, NewCodes, highest, parallel_row}
use Rattle.gates.specs.Store.{parallel_cells, WroteCells, Makes, MakesLevel, MakesHighest}
use Rattle.gates.proofs.Laws.{wrote_none, wrote_more}
use Rattle.gates.proofs.OrRow.{any}

-- one code of a parallel: m, the butnot where it is kept, x
pub level_makes : {c c₁ c₂ c₃ : Column} {m b y : CellNo} (p q x : CellNo) (keep : Bool) → Makes 1 (or_at c.count p q) c c₁ m
    → Makes 1 (only_if keep (butnot_at c₁.count m x)) c₁ c₂ b → Makes 1 (or_at c₂.count x m) c₂ c₃ y
    → MakesLevel 3 (level_at c.count keep p q x) c c₃ b y
level_makes p q x keep mm mb my =
    record {
      wrote = rw (← mm.wrote.counted, ← mm.is, ← mb.wrote.counted) (wrote_more mm.wrote (wrote_more mb.wrote my.wrote));
      is = rw (← mm.wrote.counted, ← mm.is) mb.is;
      above = rw (← mm.wrote.counted, ← mm.is, ← mb.wrote.counted) my.is;
      few = omega (arith, mm.few, mb.few, my.few);
    }

pub last_makes : {c c₁ c₂ : Column} {m b : CellNo} (p q x : CellNo) (keep : Bool) → Makes 1 (or_at c.count p q) c c₁ m
    → Makes 1 (only_if keep (butnot_at c₁.count m x)) c₁ c₂ b → Makes 2 (last_at c.count keep p q x) c c₂ b
last_makes p q x keep mm mb =
    record {
      wrote = rw (← mm.wrote.counted, ← mm.is) (wrote_more mm.wrote mb.wrote);
      is = rw (← mm.wrote.counted, ← mm.is) mb.is;
      few = omega (arith, mm.few, mb.few);
    }

-- a set from j on
unfoldable pub from_on : (ℕ → Bool) → ℕ → ℕ → Bool
from_on keep zero i = keep i
from_on keep (suc j) i = from_on keep j (suc i)

from_at : (keep : ℕ → Bool) (j i : ℕ) → from_on keep j i ≡ keep (j + i)
unfolding from_on
from_at keep zero i = rw zero-add
from_at keep (suc j) i = from_at keep j (suc i) ∙ ap keep (add-suc j i ∙ sym (suc-add j i))

pub pairs_at : (ps qs : List CellNo) (j : ℕ) → get_or (pairs ps qs) j (low, low) ≡ (code ps j, code qs j)
unfolding pairs
pairs_at [] qs j = go qs j
  where
    go : (qs : List CellNo) (j : ℕ) → get_or (map {B = CellNo × CellNo} (λ q. (low, q)) qs) j (low, low) ≡ (low, code qs j)
    go [] j = refl
    go (q ∷ qs) zero = refl
    go (q ∷ qs) (suc j) = go qs j
pairs_at (p ∷ ps) [] zero = refl
pairs_at (p ∷ ps) [] (suc j) = pairs_at ps [] j
pairs_at (p ∷ ps) (q ∷ qs) zero = refl
pairs_at (p ∷ ps) (q ∷ qs) (suc j) = pairs_at ps qs j

pub pairs_length : (ps qs : List CellNo) → length ps ≡ length qs → length (pairs ps qs) ≡ length ps
unfolding pairs
pairs_length [] [] e = refl
pairs_length [] (q ∷ qs) e = absurd (omega arith)
pairs_length (p ∷ ps) [] e = absurd (omega arith)
pairs_length (p ∷ ps) (q ∷ qs) e = ap suc (pairs_length ps qs (omega arith))

-- the codes from j on
abbrev pub upper : ℕ → (ℕ → Bool) → List CellNo → List CellNo → ℕ → NewCodes
upper n keep a b j = highest n (from_on keep j) (drop j (pairs a b))

-- the codes from j on are made
pub record Falling (c₀ : Column) (keep : ℕ → Bool) (a b : List CellNo) (c : Column) (nets : List CellNo) (x : CellNo) (j : ℕ) : Type 0 where
  pub wrote : WroteCells c₀ c (upper c₀.count keep a b j).cells
  pub out : drop j nets ≡ (upper c₀.count keep a b j).nets
  pub above : x ≡ code (upper c₀.count keep a b j).above 0
  pub la : length a ≡ max_codes
  pub lb : length b ≡ max_codes
  pub ln : length nets ≡ max_codes
  pub most : j ≤ max_codes
  pub few : c.count + 3 * j ≤ c₀.count + 3 * max_codes

-- The loop's invariant: that, and it stops at code 2.
pub record Looping (c₀ : Column) (keep : ℕ → Bool) (a b : List CellNo) (c : Column) (nets : List CellNo) (x : CellNo) (j : ℕ) : Type 0 where
  pub falling : Falling c₀ keep a b c nets x j
  pub least : 2 ≤ j

none : NewCodes
none = record { cells = []; nets = []; above = [] }

highest_nil : (n : ℕ) (keep : ℕ → Bool) → highest n keep [] ≡ none
unfolding highest none
highest_nil n keep = refl

pub looping_start : (c : Column) (keep : ℕ → Bool) (a b nets : List CellNo) → length a ≡ max_codes → length b ≡ max_codes
    → length nets ≡ max_codes
    → Looping c keep a b c nets low max_codes
unfolding none
looping_start c keep a b nets ha hb hn =
    let n : ℕ = c.count in
    let lp : length (pairs a b) ≡ max_codes = pairs_length a b (ha ∙ sym hb) ∙ ha in
    let e : upper n keep a b max_codes ≡ none =
    ap (highest n (from_on keep max_codes)) (drop_of_length-le (pairs a b) {i = max_codes} (omega arith)) ∙ highest_nil n (from_on keep max_codes) in
    record {
      falling = record {
        wrote = rw e (wrote_none c);
        out = rw e (drop_of_length-le nets {i = max_codes} (omega arith));
        above = rw e refl;
        la = ha;
        lb = hb;
        ln = hn;
        most = omega arith;
        few = omega arith;
      };
      least = omega arith;
    }

-- a code below those of r
abbrev on_level : NewCodes → NewCode → NewCodes
on_level r v = record { cells = r.cells ++ v.cells; nets = v.net ∷ r.nets; above = v.above ∷ r.above }

-- code 0 below those of r
abbrev on_last : NewCodes → New → NewCodes
on_last r w = record { cells = r.cells ++ w.cells; nets = w.net ∷ r.nets; above = r.above }

highest_cons : (n : ℕ) (keep : ℕ → Bool) (c : CellNo × CellNo) (cs : List (CellNo × CellNo)) → let r : NewCodes = highest n (λ j. keep (suc j)) cs in
    highest n keep (c ∷ cs) ≡ on_level r (level_at (n + length r.cells) (keep 0) c.0 c.1 (code r.above 0))
unfolding highest
highest_cons n keep c cs = refl

parallel_cons : (n : ℕ) (keep : ℕ → Bool) (c : CellNo × CellNo) (cs : List (CellNo × CellNo)) → let r : NewCodes = highest n (from_on keep 1) cs in
    parallel_row n keep (c ∷ cs) ≡ on_last r (last_at (n + length r.cells) (keep 0) c.0 c.1 (code r.above 0))
unfolding parallel_row from_on
parallel_cons n keep c cs = refl

-- the pair of code j, before those above it
next_pair : (a b : List CellNo) (j : ℕ) → length a ≡ max_codes → length b ≡ max_codes → j < max_codes
    → drop j (pairs a b) ≡ (code a j, code b j) ∷ drop (suc j) (pairs a b)
next_pair a b j la lb lt =
    let lp : length (pairs a b) ≡ max_codes = pairs_length a b (la ∙ sym lb) ∙ la in
    drop-cons (pairs a b) j (low, low) (omega arith) ∙ ap (λ (c : CellNo × CellNo). c ∷ drop (suc j) (pairs a b)) (pairs_at a b j)

-- one code more
module _ (n₀ : ℕ) (keep : ℕ → Bool) (a b : List CellNo) (j : ℕ) (la : length a ≡ max_codes) (lb : length b ≡ max_codes) (lt : j < max_codes) where
  upper_step : let r : NewCodes = upper n₀ keep a b (suc j) in
      upper n₀ keep a b j ≡ on_level r (level_at (n₀ + length r.cells) (keep j) (code a j) (code b j) (code r.above 0))
  unfolding from_on
  upper_step =
      let k : from_on keep j 0 ≡ keep j = from_at keep j 0 ∙ ap keep (add-zero j) in
      ap (highest n₀ (from_on keep j)) (next_pair a b j la lb lt) ∙ highest_cons n₀ (from_on keep j) (code a j, code b j) (drop (suc j) (pairs a b)) ∙ rw k

drop_set : (l : List CellNo) (j : ℕ) (x : CellNo) → j < length l → drop j (set l j x) ≡ x ∷ drop (suc j) l
drop_set [] j x h = absurd (not-suc-le-zero h)
drop_set (y ∷ l) zero x h = refl
drop_set (y ∷ l) (suc j) x h = drop_set l j x (le_of_suc-le-suc h)

module _ {c₀ : Column} {keep : ℕ → Bool} {a b : List CellNo} {c : Column} {nets : List CellNo} {x : CellNo} where
  falling_down : {c' : Column} {r y : CellNo} (j : ℕ) (d : CellNo) → Falling c₀ keep a b c nets x (suc j)
      → MakesLevel 3 (level_at c.count (keep j) (get_or a j d) (get_or b j d) x) c c' r y → Falling c₀ keep a b c' (set nets j r) y j
  falling_down {c'} {r} {y} j d f m₀ =
      let lt : j < max_codes = f.most in
      let h : NewCodes = upper c₀.count keep a b (suc j) in
      let m : MakesLevel 3 (level_at (c₀.count + length h.cells) (keep j) (code a j) (code b j) (code h.above 0)) c c' r y =
      rw (← f.wrote.counted, ← f.above, ← (any a j d (omega (arith, f.la))), ← (any b j d (omega (arith, f.lb)))) m₀ in
      let e = upper_step c₀.count keep a b j f.la f.lb lt in
      record {
        wrote = rw e (wrote_more f.wrote m.wrote);
        out = rw (drop_set nets j r (omega (arith, f.ln)), e, f.out, m.is);
        above = rw e m.above;
        la = f.la;
        lb = f.lb;
        ln = length-set nets j r ∙ f.ln;
        most = omega arith;
        few = omega (arith, f.few, m₀.few);
      }

  pub looping_step : {c' : Column} {r y : CellNo} (j : ℕ) (d : CellNo) → Looping c₀ keep a b c nets x j → 2 < j
      → MakesLevel 3 (level_at c.count (keep (j - 1)) (get_or a (j - 1) d) (get_or b (j - 1) d) x) c c' r y
      → Looping c₀ keep a b c' (set nets (j - 1) r) y (j - 1)
  looping_step zero d f h m = absurd (omega arith)
  looping_step (suc j) d f h m =
      let e : suc j - 1 ≡ j = omega arith in
      rw e (record { falling = falling_down j d f.falling (rw e at m); least = omega arith })

  -- behind the loop: code 1, then code 0
  pub looping_end : {c₁ c₂ : Column} {r₁ y r₀ : CellNo} (j : ℕ) (d : CellNo) → Looping c₀ keep a b c nets x j → j ≤ 2
      → MakesLevel 3 (level_at c.count (keep 1) (get_or a 1 d) (get_or b 1 d) x) c c₁ r₁ y
      → Makes 2 (last_at c₁.count (keep 0) (get_or a 0 d) (get_or b 0 d) y) c₁ c₂ r₀
      → MakesHighest parallel_cells (parallel_row c₀.count keep (pairs a b)) c₀ c₂ (set (set nets 1 r₁) 0 r₀) x
  looping_end {c₁} {c₂} {r₁} {y} {r₀} j d g h m₁ m₀ =
      let n₀ : ℕ = c₀.count in
      let ej : j ≡ 2 = omega (arith, g.least) in
      let f₂ : Falling c₀ keep a b c nets x 2 = rw ej at g.falling in
      let f : Falling c₀ keep a b c₁ (set nets 1 r₁) y 1 = falling_down 1 d f₂ m₁ in
      let r : NewCodes = upper n₀ keep a b 1 in
      let w : New = last_at (n₀ + length r.cells) (keep 0) (code a 0) (code b 0) (code r.above 0) in
      let e : parallel_row n₀ keep (pairs a b) ≡ on_last r w =
      ap (parallel_row n₀ keep) (next_pair a b 0 f.la f.lb (omega arith)) ∙ parallel_cons n₀ keep (code a 0, code b 0) (drop 1 (pairs a b)) in
      let m : Makes 2 w c₁ c₂ r₀ =
      rw (← f.wrote.counted, ← f.above, ← (any a 0 d (omega (arith, f.la))), ← (any b 0 d (omega (arith, f.lb)))) m₀ in
      let one = upper_step n₀ keep a b 1 f.la f.lb (omega arith) in
      record {
        wrote = rw e (wrote_more f.wrote m.wrote);
        is = rw e (drop_set (set nets 1 r₁) 0 r₀ (omega (arith, f.ln)) ∙ rw (f.out, m.is));
        kill = rw e (f₂.above ∙ sym (ap (λ (h : NewCodes). code h.above 1) one));
        few = omega (arith, f.few, m₀.few);
      }
