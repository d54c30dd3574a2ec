-- The laws of taking lines out of the bytes that reads bring.
use Prim.Native.Nat.{ℕ, ◌+◌, ◌≤◌, ◌<◌, min}
use mathlib.Core.Path.{◌≡◌, refl, sym, ap, ◌∙◌}
use mathlib.Core.Bool.{Bool, true, false}
use mathlib.Core.List.{List, [], ◌∷◌}
use native.Mathlib.Omega.{arith}
use borrow.Author.Tests.{eq-eqb, ne_eqb, leb-true, leb-false}
use lib.Dec.{eqb, leb}
use lib.ListN.{length, take, drop, length-take, drop_of_length-le}
use lib.Seq.{take_all, take-length, drop-length, length-take-le, length-sets}
use Rattle.std.specs.Prelude.{Option, Some, None, MatchOption, unwrap_or, is_some}
use Rattle.std.specs.List.{AllWithin, HoldsAt, between}
use Rattle.std.proofs.lemmas.Slice.{between_is}
use Rattle.io.proofs.Counting.{prefix_len_of_le}
use Rattle.std.proofs.lemmas.Iterator.{index_from_first}
use Rattle.texts.proofs.Cutting.{short_of_newline}
use Rattle.texts.specs.declared.Source.{Source}
use Rattle.texts.specs.declared.Next.{Next}
use Rattle.texts.specs.Puts.{Puts}
use Rattle.texts.specs.Reads.{brought, at_hand, before_newline, has_newline, place_in, IsLine, found, NextLine, NewlineIn}

-- the bytes before a newline are fewer than all, where there is one
all_passed : (u : List ℕ) → length (before_newline u) ≡ length u → has_newline u ≡ false
unfolding before_newline has_newline
all_passed [] h = refl
all_passed (b ∷ u) h = go (eqb b 10) refl (all_passed u)
  where
    go : (e : Bool) → eqb b 10 ≡ e → (length (before_newline u) ≡ length u → has_newline u ≡ false) → has_newline (b ∷ u) ≡ false
    go true is rest = absurd (omega (arith, rw is at h))
    go false is rest = let less = rw is at h in rw is (rest (omega arith))

stopped : (u : List ℕ) → length (before_newline u) < length u → has_newline u ≡ true
unfolding before_newline has_newline
stopped [] h = absurd (omega arith)
stopped (b ∷ u) h = go (eqb b 10) refl (stopped u)
  where
    go : (e : Bool) → eqb b 10 ≡ e → (length (before_newline u) < length u → has_newline u ≡ true) → has_newline (b ∷ u) ≡ true
    go true is rest = rw is
    go false is rest = let less = rw is at h in rw is (rest (omega arith))

-- the first newline, as the library's search finds it
pub newline_is : (u : List ℕ) (r : Option ℕ)
    → MatchOption r (AllWithin (λ x. x ≡ 10 → ⊥) u 0 (length u)) (λ i. (i < length u) × HoldsAt (λ x. x ≡ 10) u i × AllWithin (λ x. x ≡ 10 → ⊥) u 0 i)
    → NewlineIn u r
unfolding before_newline
newline_is u r first = by_place r first place
  where
    place : length (before_newline u) ≡ unwrap_or r (length u)
    place =
        index_from_first (λ l. length (before_newline l)) (λ x. x ≡ 10) (λ x. x ≡ 10 → ⊥) refl (λ x l is. rw (eq-eqb x 10 is))
        (λ x l other. rw (ne_eqb x 10 other) (omega arith)) u r first

    by_place : (r : Option ℕ) → MatchOption r (AllWithin (λ x. x ≡ 10 → ⊥) u 0 (length u)) (λ i. (i < length u) × HoldsAt (λ x. x ≡ 10) u i × AllWithin (λ x. x ≡ 10 → ⊥) u 0 i)
        → length (before_newline u) ≡ unwrap_or r (length u) → NewlineIn u r
    by_place None first place = record { place = sym place; there = sym (all_passed u place) }
    by_place (Some i) first place = record { place = sym place; there = sym (stopped u (omega (arith, first.0))) }

-- a part of a list whose end lies past it
pub take_clipped : (k : ℕ) (l : List ℕ) → take (min k (length l)) l ≡ take k l
take_clipped k l = go (leb k (length l)) refl
  where
    go : (b : Bool) → leb k (length l) ≡ b → take (min k (length l)) l ≡ take k l
    go true is = let same : min k (length l) ≡ k = omega (arith, leb-true k (length l) is) in rw same
    go false is =
        let over = leb-false k (length l) is in
        let same : min k (length l) ≡ length l = omega arith in
        rw same (take-length l ∙ sym (take_all k l (omega arith)))

pub drop_clipped : (k : ℕ) (l : List ℕ) → drop (min k (length l)) l ≡ drop k l
drop_clipped k l = go (leb k (length l)) refl
  where
    go : (b : Bool) → leb k (length l) ≡ b → drop (min k (length l)) l ≡ drop k l
    go true is = let same : min k (length l) ≡ k = omega (arith, leb-true k (length l) is) in rw same
    go false is =
        let over = leb-false k (length l) is in
        let same : min k (length l) ≡ length l = omega arith in
        rw same (drop-length l ∙ sym (drop_of_length-le l {i = k} (omega arith)))

-- the bytes before the newline are the first
before_first : (l : List ℕ) → take (length (before_newline l)) l ≡ before_newline l
unfolding before_newline
before_first [] = refl
before_first (b ∷ bs) = go (eqb b 10) refl (before_first bs)
  where
    go : (e : Bool) → eqb b 10 ≡ e → take (length (before_newline bs)) bs ≡ before_newline bs
        → take (length (before_newline (b ∷ bs))) (b ∷ bs) ≡ before_newline (b ∷ bs)
    go true is rest = rw is
    go false is rest = rw (is, rest)

-- The next line was looked for.
module _ (s : Source) (bytes : List ℕ) {from end len held : ℕ} {newline : Option ℕ} {line line' : List ℕ} (is_end : end ≡ min s.end (length bytes))
    (is_from : from ≡ min s.from end) (at : NewlineIn (between from end bytes) newline) (is_len : len ≡ unwrap_or newline (length (between from end bytes)))
    (put : Puts (take len (between from end bytes)) s.held held line line') where
  same_brought : brought s bytes ≡ take end bytes
  same_brought = sym (take_clipped s.end bytes) ∙ rw (sym is_end)

  long : length (take end bytes) ≡ end
  long = length-take-le end bytes (omega arith)

  hand : at_hand s bytes ≡ between from end bytes
  unfolding at_hand
  hand =
      let place : from ≡ min s.from (length (take end bytes)) = omega (arith, long) in
      rw same_brought (sym (drop_clipped s.from (take end bytes)) ∙ ap (λ (k : ℕ). drop k (take end bytes)) (sym place) ∙ sym (between_is bytes from end))

  few : len ≡ length (before_newline (between from end bytes))
  few = is_len ∙ at.place

  pub looked : {r : Next} → r ≡ found (is_some newline) s.ended (eqb held 0) s (from + len) held (length line') → NextLine s bytes r line line'
  looked is =
      let these : take len (between from end bytes) ≡ before_newline (between from end bytes) = rw few (before_first (between from end bytes)) in
      let place : from + len ≡ place_in s bytes = rw (same_brought, hand) (omega (arith, few, long)) in
      let room : length line' ≡ length line = ap length put.laid ∙ length-sets line s.held (take len (between from end bytes)) in
      let ends : is_some newline ≡ has_newline (at_hand s bytes) = rw hand at.there in
      record { held = held; kept = rw (hand, ← these) put; answer = is ∙ rw (← place, ends, room) }

-- the bytes before a newline are a part of all
pub part_before : {bytes : List ℕ} {r : Option ℕ} {len : ℕ} → NewlineIn bytes r → len ≡ unwrap_or r (length bytes) → len ≤ length bytes
part_before {bytes} at is = omega (arith, is, at.place, simp length-take at (ap length (before_first bytes)))

pub part_short : {bytes : List ℕ} {r : Option ℕ} {len : ℕ} → NewlineIn bytes r → len ≡ unwrap_or r (length bytes) → is_some r ≡ true → len < length bytes
part_short {bytes} at is some = omega (arith, is, at.place, short_of_newline bytes (sym at.there ∙ some))

-- no more is counted than there is room for
pub few_found : (newline ended none : Bool) (s : Source) (at held : ℕ) (line : List ℕ) → IsLine (found newline ended none s at held (length line)).found line
unfolding found
few_found true ended none s at held line = prefix_len_of_le _ _ (omega arith)
few_found false false none s at held line = tt
few_found false true true s at held line = tt
few_found false true false s at held line = prefix_len_of_le _ _ (omega arith)
