-- The laws of a run of stores, and of folding.
use Prim.Native.Nat.{ℕ, suc, ◌+◌, ◌<◌}
use mathlib.Core.Path.{◌≡◌, refl, sym, ap, ◌∙◌}
use mathlib.Core.Bool.{Bool, true, false}
use mathlib.Core.List.{List, [], ◌∷◌, ◌++◌, map}
use native.Mathlib.Omega.{arith}
use native.Mathlib.Nat.{add-zero}
use lib.ListN.{length, set, length-append, length-map}
use lib.Seq.{sets, set-set, set_comm}
use Rattle.std.proofs.lemmas.List.{map-append}
use Rattle.number.specs.Counts.{cell_no}
use Rattle.number.specs.Number.{pick}
use Rattle.number.specs.declared.CellNo.{CellNo}
use Rattle.cells.specs.declared.Cell.{Cell}
use Rattle.number.proofs.Lists.{sets_append}
use Rattle.cells.specs.declared.Gate as gate
use Rattle.cells.specs.declared.Gate.TheVariants.{Or, And, Butnot}
use Rattle.cells.specs.declared.Cell.TheVariants.{Gate}
use Rattle.cells.specs.Cells.{low, is_low}
use Rattle.cells.specs.Words.{word}
use Rattle.gates.specs.declared.Column.{Column}
use Rattle.gates.specs.Folding.{New, old, new, first_low, second_low, gate_at}
use Rattle.gates.specs.Store.{WroteCells, Fills, Makes}

pub wrote_none : (c : Column) → WroteCells c c []
wrote_none c = record { same = refl; stored = refl; counted = sym (add-zero c.count) }

-- more cells after some
pub stored_more : (l : List ℕ) (n : ℕ) (u v : List Cell) {l₁ l₂ : List ℕ} {n₁ : ℕ} → l₁ ≡ sets l n (map word u) → n₁ ≡ n + length u
    → l₂ ≡ sets l₁ n₁ (map word v) → l₂ ≡ sets l n (map word (u ++ v))
stored_more l n u v {l₁} {l₂} {n₁} p e q =
    let place : n₁ ≡ n + length (map word u) = e ∙ ap (λ (k : ℕ). n + k) (sym (length-map u word)) in
    q ∙ rw (p, place, map-append word u v) (sym (sets_append l n (map word u) (map word v)))

pub wrote_more : {c c₁ c₂ : Column} {u v : List Cell} → WroteCells c c₁ u → WroteCells c₁ c₂ v → WroteCells c c₂ (u ++ v)
wrote_more {c} {u = u} {v = v} p q =
    record {
      same = q.same ∙ p.same;
      stored = stored_more c.cells.now c.count u v p.stored p.counted q.stored;
      counted = rw (length-append u v) (omega (arith, p.counted, q.counted));
    }

-- stores at other places may be made in either order
pub set_below : (l : List ℕ) (n m v : ℕ) (u : List ℕ) → n < m → set (sets l m u) n v ≡ sets (set l n v) m u
set_below l n m v [] h = refl
set_below l n m v (x ∷ u) h =
    set_below (set l m x) n (suc m) v u (omega arith) ∙ ap (λ (r : List ℕ). sets r (suc m) u) (set_comm l m n x v (λ e. omega arith))

-- "Cells marked * are reserved at once, unfolded, their last operand filled later.": the cell v is filled in for w once the cells u after it are made
pub wrote_fill : {c c₁ c₂ c₃ : Column} {u : List Cell} {w v : Cell} → WroteCells c c₁ (w ∷ []) → WroteCells c₁ c₂ u → Fills (cell_no c.count) v c₂ c₃
    → WroteCells c c₃ (v ∷ u)
wrote_fill {c} {c₁} {c₂} {u = u} {w = w} {v = v} p q f =
    let l : List ℕ = c.cells.now in
    let n : ℕ = c.count in
    let next : c₁.count ≡ suc n = omega (arith, p.counted) in
    let past : set (sets (set l n (word w)) (suc n) (map word u)) n (word v) ≡ sets (set l n (word v)) (suc n) (map word u) =
    set_below (set l n (word w)) n (suc n) (word v) (map word u) (omega arith)
    ∙ ap (λ (r : List ℕ). sets r (suc n) (map word u)) (set-set l n (word w) (word v)) in
    record {
      same = f.same ∙ q.same ∙ p.same;
      stored = f.stored ∙ ap (λ (r : List ℕ). set r n (word v)) q.stored ∙ rw (p.stored, next) past;
      counted = omega (arith, f.counted, q.counted, next);
    }

-- a net that was there
pub makes_old : (most : ℕ) (c : Column) (x : CellNo) → Makes most (old x) c c x
makes_old most c x = record { wrote = wrote_none c; is = refl; few = omega arith }

-- A gate: its net where its first operand is low, where its second is, and where neither is.
module _ (c : Column) (g : gate.Gate) (x y : CellNo) where
  pub first_folds : is_low x ≡ true → Makes 1 (gate_at g c.count x y) c c (first_low g y)
  unfolding gate_at pick
  first_folds p = rw p (makes_old 1 c (first_low g y))

  pub second_folds : is_low x ≡ false → is_low y ≡ true → Makes 1 (gate_at g c.count x y) c c (second_low g x)
  unfolding gate_at pick
  second_folds p q = rw (p, q) (makes_old 1 c (second_low g x))

  pub none_folds : {c' : Column} {r : CellNo} → is_low x ≡ false → is_low y ≡ false → Makes 1 (new c.count (Gate g x y)) c c' r
      → Makes 1 (gate_at g c.count x y) c c' r
  unfolding gate_at pick
  none_folds p q m = rw (p, q) m

-- What holds of a gate's net that folds, and of its new cell, holds of the gate.
pub by_folding : (P : New → Type 0) (g : gate.Gate) (n : ℕ) (x y : CellNo) → (is_low x ≡ true → P (old (first_low g y)))
    → (is_low y ≡ true → P (old (second_low g x))) → P (new n (Gate g x y)) → P (gate_at g n x y)
unfolding gate_at pick
by_folding P g n x y first second neither = go (is_low x) (is_low y) first second
  where
    go : (a b : Bool) → (a ≡ true → P (old (first_low g y))) → (b ≡ true → P (old (second_low g x)))
        → P (pick a (old (first_low g y)) (pick b (old (second_low g x)) (new n (Gate g x y))))
    go true b f h = f refl
    go false true f h = h refl
    go false false f h = neither

-- and the net that folds is low or an operand
pub first_low_is : (P : CellNo → Type 0) (g : gate.Gate) (y : CellNo) → P low → P y → P (first_low g y)
first_low_is P Or y p q = q
first_low_is P And y p q = p
first_low_is P Butnot y p q = p

pub second_low_is : (P : CellNo → Type 0) (g : gate.Gate) (x : CellNo) → P low → P x → P (second_low g x)
second_low_is P Or x p q = q
second_low_is P And x p q = p
second_low_is P Butnot x p q = q
