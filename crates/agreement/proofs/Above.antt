-- The row of a parallel: "for j from 1+d down to 0: m = or(p's j, q's j); code j = butnot(m,x) if j is in K or R of the parallel, else 0; if j > 0,
-- x = or(x,m)."
use mathlib.Core.Path.{◌≡◌, refl, sym, ◌∙◌, ap}
use mathlib.Core.Bool.{Bool, true, false, not, ◌&&◌, ◌||◌, and-false}
use mathlib.Core.List.{List, [], ◌∷◌, ◌++◌}
use Prim.Native.Nat.{ℕ, zero, suc, ◌+◌}
use lib.ListN.{length, get_or}
use Rattle.number.specs.declared.CellNo.{CellNo}
use Rattle.number.proofs.Bools.{taut}
use Rattle.sets.specs.Codes.{Codes, same}
use Rattle.rules.specs.Rules.{Signals}
use Rattle.rules.specs.States.{State}
use Rattle.rules.proofs.Codes.{same_self}
use Rattle.cells.specs.declared.Cell.{Cell}
use Rattle.cells.specs.Cells.{low}
use Rattle.cells.specs.declared.Gate.TheVariants.{Or, Butnot}
use Rattle.gates.specs.Folding.{New, or_at, butnot_at}
use Rattle.gates.specs.Rows.{code, pairs, only_if, NewCodes, highest, parallel_row}
use Rattle.gates.proofs.ParallelRow.{pairs_at}
use Rattle.agreement.proofs.ParallelRuns.{least}
use Rattle.agreement.proofs.Nets.{Solved, solved_left, solved_right, gate_value, if_value}

-- Where at most two codes are there, a where α holds and b where β does, X has those from j on; or, as a parallel wants it, those above j.
abbrev TwoCodes : Codes → Bool → Bool → ℕ → ℕ → Type 0
TwoCodes A α β a b = (i : ℕ) → A i ≡ ((α && same a i) || (β && same b i))

abbrev FromOn : Codes → Codes → Type 0
FromOn A X = (α β : Bool) (a b : ℕ) → TwoCodes A α β a b → (j : ℕ) → X j ≡ ((α && least a j) || (β && least b j))

abbrev pub Above : Codes → Codes → Type 0
Above A X = (α β : Bool) (a b : ℕ) → TwoCodes A α β a b → (j : ℕ) → X j ≡ ((α && least a (suc j)) || (β && least b (suc j)))

-- a code 0 is not among those above 0
drop_left : (α β a b : Bool) → ((α && false) || (β && b)) ≡ ((false && a) || (β && b))
drop_left = taut 4 0 _ _ _ tt

drop_right : (α β a b : Bool) → ((α && a) || (β && false)) ≡ ((α && a) || (false && b))
drop_right = taut 4 0 _ _ _ tt

drop_both : (α β a b : Bool) → ((α && false) || (β && false)) ≡ ((false && a) || (false && b))
drop_both = taut 4 0 _ _ _ tt

from_above : (A X : Codes) → FromOn (λ i. A (suc i)) X → Above A X
from_above A X f α β zero zero h j =
    f false false 0 0 (λ i. h (suc i) ∙ drop_both α β (same 0 i) (same 0 i)) j ∙ sym (drop_both α β (least 0 j) (least 0 j))
from_above A X f α β zero (suc b) h j =
    f false β 0 b (λ i. h (suc i) ∙ drop_left α β (same 0 i) (same b i)) j ∙ sym (drop_left α β (least 0 j) (least b j))
from_above A X f α β (suc a) zero h j =
    f α false a 0 (λ i. h (suc i) ∙ drop_right α β (same a i) (same 0 i)) j ∙ sym (drop_right α β (least a j) (least 0 j))
from_above A X f α β (suc a) (suc b) h j = f α β a b (λ i. h (suc i)) j

-- where no code is there, neither α nor β holds
neither : (α β a b c d : Bool) → false ≡ ((α && a) || (β && b)) → a ≡ true → false ≡ ((α && c) || (β && d)) → d ≡ true → (α || β) ≡ false
neither = taut 6 4 _ _ _ tt

neither_on : (α β a b : Bool) → (α || β) ≡ false → false ≡ ((α && a) || (β && b))
neither_on = taut 4 1 _ _ _ tt

-- the code a is 0, or above 0
zero_or_above : (a : ℕ) → (same a 0 || least a 1) ≡ true
zero_or_above zero = refl
zero_or_above (suc a) = refl

from_zero : (α β s l s' l' : Bool) → (s || l) ≡ true → (s' || l') ≡ true
    → (((α && l) || (β && l')) || ((α && s) || (β && s'))) ≡ ((α && true) || (β && true))
from_zero = taut 6 2 _ _ _ tt

next_from : (A X Y : Codes) → FromOn (λ i. A (suc i)) X → Y 0 ≡ (X 0 || A 0) → ((j : ℕ) → Y (suc j) ≡ X j) → FromOn A Y
next_from A X Y f y0 ys α β a b h zero =
    rw (y0, from_above A X f α β a b h 0, h 0)
    (from_zero α β (same a 0) (least a 1) (same b 0) (least b 1) (zero_or_above a) (zero_or_above b))
next_from A X Y f y0 ys α β a b h (suc j) = ys j ∙ from_above A X f α β a b h j

module _ (cells : List Cell) (J : Signals) (S : State) (v : CellNo → Bool) (zero_low : v low ≡ false) where
  -- p's j or q's j
  abbrev either : List (CellNo × CellNo) → Codes
  either cs i = v (get_or cs i (low, low)).0 || v (get_or cs i (low, low)).1

  abbrev nets : List CellNo → Codes
  nets ks j = v (code ks j)

  record HighestIs (keep : Codes) (cs : List (CellNo × CellNo)) (r : NewCodes) : Type 0 where
    codes : (j : ℕ) → nets r.nets j ≡ (keep j && (either cs j && not (nets r.above (suc j))))
    from : FromOn (either cs) (nets r.above)

  no_codes : FromOn (λ i. v low || v low) (λ j. v low)
  no_codes α β a b h j =
      rw zero_low
      (neither_on α β (least a j) (least b j)
      (neither α β (same a a) (same b a) (same a b) (same b b) (rw zero_low at (h a)) (same_self a) (rw zero_low at (h b)) (same_self b)))

  highest_is : (cs : List (CellNo × CellNo)) (n : ℕ) (keep : Codes) → Solved cells J S v n (highest n keep cs).cells
      → HighestIs keep cs (highest n keep cs)
  unfolding highest
  highest_is [] n keep h = record { codes = λ j. rw (zero_low, and-false); from = no_codes }
  highest_is (c ∷ cs) n keep h =
      let r : NewCodes = highest n (λ j. keep (suc j)) cs in
      let x : CellNo = code r.above 0 in
      let n₁ : ℕ = n + length r.cells in
      let m : New = or_at n₁ c.0 c.1 in
      let n₂ : ℕ = n₁ + length m.cells in
      let b : New = only_if (keep 0) (butnot_at n₂ m.net x) in
      let n₃ : ℕ = n₂ + length b.cells in
      let y : New = or_at n₃ x m.net in
      let s₁ : Solved cells J S v n₁ (m.cells ++ (b.cells ++ y.cells)) = solved_right cells J S v r.cells _ n h in
      let s₂ : Solved cells J S v n₂ (b.cells ++ y.cells) = solved_right cells J S v m.cells _ n₁ s₁ in
      let rest : HighestIs (λ j. keep (suc j)) cs r = highest_is cs n (λ j. keep (suc j)) (solved_left cells J S v r.cells _ n h) in
      let m_is : v m.net ≡ (v c.0 || v c.1) = gate_value cells J S v zero_low Or n₁ c.0 c.1 (solved_left cells J S v m.cells _ n₁ s₁) in
      let b_is : v b.net ≡ (keep 0 && (v m.net && not (v x))) =
      if_value cells J S v zero_low (keep 0) (butnot_at n₂ m.net x) n₂ _ (gate_value cells J S v zero_low Butnot n₂ m.net x)
      (solved_left cells J S v b.cells y.cells n₂ s₂) in
      let y_is : v y.net ≡ (v x || v m.net) =
      gate_value cells J S v zero_low Or n₃ x m.net (solved_right cells J S v b.cells y.cells n₂ s₂) in
      record {
        codes = λ j. elim j as
            (λ k. nets (highest n keep (c ∷ cs)).nets k ≡ (keep k && (either (c ∷ cs) k && not (nets (highest n keep (c ∷ cs)).above (suc k)))))
            [ zero ↦ rw m_is at b_is | suc i ↦ rest.codes i ];
        from = next_from (either (c ∷ cs)) (nets r.above) (nets (y.net ∷ r.above)) rest.from (rw m_is at y_is) (λ j. refl);
      }

  pub record ParallelIs (keep : Codes) (ps qs : List CellNo) (r : NewCodes) : Type 0 where
    pub codes : (j : ℕ) → v (code r.nets j) ≡ (keep j && ((v (code ps j) || v (code qs j)) && not (v (code r.above j))))
    pub above : Above (λ j. v (code ps j) || v (code qs j)) (λ j. v (code r.above j))

  record RowIs (keep : Codes) (cs : List (CellNo × CellNo)) (r : NewCodes) : Type 0 where
    codes : (j : ℕ) → nets r.nets j ≡ (keep j && (either cs j && not (nets r.above j)))
    above : Above (either cs) (nets r.above)

  row_is : (cs : List (CellNo × CellNo)) (n : ℕ) (keep : Codes) → Solved cells J S v n (parallel_row n keep cs).cells
      → RowIs keep cs (parallel_row n keep cs)
  unfolding parallel_row
  row_is [] n keep h = record { codes = λ j. rw (zero_low, and-false); above = from_above (λ i. v low || v low) (λ j. v low) no_codes }
  row_is (c ∷ cs) n keep h =
      let r : NewCodes = highest n (λ j. keep (suc j)) cs in
      let x : CellNo = code r.above 0 in
      let n₁ : ℕ = n + length r.cells in
      let m : New = or_at n₁ c.0 c.1 in
      let n₂ : ℕ = n₁ + length m.cells in
      let b : New = only_if (keep 0) (butnot_at n₂ m.net x) in
      let s₁ : Solved cells J S v n₁ (m.cells ++ b.cells) = solved_right cells J S v r.cells _ n h in
      let rest : HighestIs (λ j. keep (suc j)) cs r = highest_is cs n (λ j. keep (suc j)) (solved_left cells J S v r.cells _ n h) in
      let m_is : v m.net ≡ (v c.0 || v c.1) = gate_value cells J S v zero_low Or n₁ c.0 c.1 (solved_left cells J S v m.cells _ n₁ s₁) in
      let b_is : v b.net ≡ (keep 0 && (v m.net && not (v x))) =
      if_value cells J S v zero_low (keep 0) (butnot_at n₂ m.net x) n₂ _ (gate_value cells J S v zero_low Butnot n₂ m.net x)
      (solved_right cells J S v m.cells b.cells n₁ s₁) in
      record {
        codes = λ j. elim j as
            (λ k. nets (parallel_row n keep (c ∷ cs)).nets k ≡ (keep k && (either (c ∷ cs) k && not (nets (parallel_row n keep (c ∷ cs)).above k))))
            [ zero ↦ rw m_is at b_is | suc i ↦ rest.codes i ];
        above = from_above (either (c ∷ cs)) (nets r.above) rest.from;
      }

  -- the pairs of two rows are the nets of each
  either_is : (ps qs : List CellNo) (j : ℕ) → either (pairs ps qs) j ≡ (v (code ps j) || v (code qs j))
  either_is ps qs j = ap (λ (c : CellNo × CellNo). v c.0 || v c.1) (pairs_at ps qs j)

  pub parallel_is : (ps qs : List CellNo) (n : ℕ) (keep : Codes) → Solved cells J S v n (parallel_row n keep (pairs ps qs)).cells
      → ParallelIs keep ps qs (parallel_row n keep (pairs ps qs))
  parallel_is ps qs n keep h =
      let r : RowIs keep (pairs ps qs) (parallel_row n keep (pairs ps qs)) = row_is (pairs ps qs) n keep h in
      record {
        codes = λ j. r.codes j ∙ rw (either_is ps qs j);
        above = λ α β a b two. r.above α β a b (λ i. either_is ps qs i ∙ two i);
      }
