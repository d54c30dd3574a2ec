-- The laws of putting texts into a buffer, one behind the other.
use Prim.Native.Nat.{ℕ, zero, suc, ◌+◌, ◌-◌, ◌≤◌, ◌<◌, min}
use mathlib.Core.Path.{◌≡◌, refl, sym, ap, ◌∙◌}
use mathlib.Core.Bool.{Bool, true, false}
use mathlib.Core.List.{List, [], ◌∷◌, ◌++◌, append_assoc, append-nil}
use native.Mathlib.Nat.{add-zero}
use native.Mathlib.Numerals.{add-one}
use native.Mathlib.Omega.{arith}
use borrow.Author.Tests.{leb-true, leb-false}
use lib.Dec.{leb}
use lib.ListN.{length, take, drop, get_or, set, length-append}
use lib.Seq.{sets, set_out, take-suc, take_all, length-take-le, length-sets}
use Rattle.std.proofs.lemmas.List.{take-append-drop, drop_all}
use Rattle.std.proofs.lemmas.Slice.{put_mid-paste}
use borrow.Rule.Slice.PartMut.{put_mid}
use Rattle.bits.proofs.Columns.{wrote}
use Rattle.texts.specs.declared.Page.{Page}
use Rattle.texts.specs.Puts.{Puts, Writes}
use Rattle.texts.specs.Written.{decimal, in_hex, behind_blanks, row, blank}

pub sets_append : (l : List ℕ) (at : ℕ) (u v : List ℕ) → sets l at (u ++ v) ≡ sets (sets l at u) (at + length u) v
sets_append l at [] v = rw (add-zero at)
sets_append l at (x ∷ u) v =
    let e : suc at + length u ≡ at + suc (length u) = omega arith in
    sets_append (set l at x) (suc at) u v ∙ ap (λ (k : ℕ). sets (sets (set l at x) (suc at) u) k v) e

-- past the end nothing is changed
sets_out : (l : List ℕ) (at : ℕ) (v : List ℕ) → length l ≤ at → sets l at v ≡ l
sets_out l at [] h = refl
sets_out l at (x ∷ v) h = rw (set_out l at x h) (sets_out l (suc at) v (omega arith))

-- what there is room for, copied at once
pub copied : (text out : List ℕ) (at : ℕ) {copy : List ℕ} {from n k : ℕ} → from ≡ min at (length out) → n ≡ min (length text) (length out - from) → k ≡ n
    → copy ≡ take n text → put_mid from k out copy ≡ sets out at text
copied text out at {copy} {from} {n} {k} is_from is_n is_k same =
    put_mid-paste from k out copy v n same (sym is_k) (sym long) ∙ wrote out from v n long (omega arith) ∙ by_room (leb at (length out)) refl
  where
    v : List ℕ
    v = take n text

    long : length v ≡ n
    long = length-take-le n text (omega arith)

    past_n : from ≡ at → sets (sets out at v) (at + length v) (drop n text) ≡ sets out at v
    past_n is = go (leb (length text) n) refl
      where
        go : (b : Bool) → leb (length text) n ≡ b → sets (sets out at v) (at + length v) (drop n text) ≡ sets out at v
        go true all = rw (drop_all n text (leb-true (length text) n all))
        go false more =
            let over = leb-false (length text) n more in
            sets_out (sets out at v) (at + length v) (drop n text) (omega (arith, length-sets out at v, is, is_n, long, over))

    by_room : (b : Bool) → leb at (length out) ≡ b → sets out from v ≡ sets out at text
    by_room true inside =
        let is : from ≡ at = omega (arith, leb-true at (length out) inside) in
        ap (λ (j : ℕ). sets out j v) is ∙ sym (past_n is) ∙ sym (sets_append out at v (drop n text))
        ∙ ap (sets out at) (take-append-drop n text)
    by_room false past =
        let over = leb-false at (length out) past in
        let none : n ≡ 0 = omega arith in
        ap (λ (j : ℕ). sets out from (take j text)) none ∙ sym (sets_out out at text (omega arith))

pub puts_none : (out : List ℕ) (at : ℕ) → at ≤ 18446744073709551615 → Puts [] at at out out
puts_none out at h = record { past = omega arith; laid = refl }

-- a text behind another
pub puts_more : {a b : List ℕ} {at mid end : ℕ} {out out₁ out₂ : List ℕ} → length out ≤ 18446744073709551615 → Puts a at mid out out₁
    → Puts b mid end out₁ out₂ → Puts (a ++ b) at end out out₂
puts_more {a} {b} {at} {mid} {end} {out} {out₁} {out₂} small p q =
    record {
      past = omega (arith, p.past, q.past, length-append a b);
      laid = q.laid ∙ by_room (leb (at + length a) 18446744073709551615) refl;
    }
  where
    by_room : (fits : Bool) → leb (at + length a) 18446744073709551615 ≡ fits → sets out₁ mid b ≡ sets out at (a ++ b)
    by_room true is =
        let place : mid ≡ at + length a = omega (arith, p.past, leb-true (at + length a) 18446744073709551615 is) in
        rw (p.laid, place) (sym (sets_append out at a b))
    by_room false is =
        let over = leb-false (at + length a) 18446744073709551615 is in
        let long : length (sets out at a) ≡ length out = length-sets out at a in
        let none : sets out₁ mid b ≡ out₁ = sets_out out₁ mid b (omega (arith, p.past, ap length p.laid)) in
        none ∙ p.laid ∙ sym (sets_append out at a b ∙ sets_out (sets out at a) (at + length a) b (omega arith))

-- the same on a page
pub writes_none : (p : Page) → p.at ≤ 18446744073709551615 → Writes [] p p
writes_none p h = record { same_buffer = refl; puts = puts_none p.out.now p.at h }

pub writes_more : {a b : List ℕ} {p q r : Page} → length p.out.now ≤ 18446744073709551615 → Writes a p q → Writes b q r → Writes (a ++ b) p r
writes_more small w v = record { same_buffer = v.same_buffer ∙ w.same_buffer; puts = puts_more small w.puts v.puts }

pub same_room : {text : List ℕ} {p q : Page} → Writes text p q → length q.out.now ≡ length p.out.now
same_room {text} {p} w = ap length w.puts.laid ∙ length-sets p.out.now p.at text

-- so a chain of texts needs that of its first page alone
pub writes_then : {a b : List ℕ} {p q r : Page} → Writes a p q → (length q.out.now ≤ 18446744073709551615 → Writes b q r)
    → length p.out.now ≤ 18446744073709551615 → Writes (a ++ b) p r
writes_then w v small = let long = same_room w in writes_more small w (v (omega arith))

-- a text that has a piece for each entry of a list
pub record Joins (f : List ℕ → List ℕ) : Type 0 where
  pub none : f [] ≡ []
  pub more : (a b : List ℕ) → f (a ++ b) ≡ f a ++ f b

abbrev pub itself : List ℕ → List ℕ
itself l = l

pub itself_joins : Joins itself
itself_joins = record { none = refl; more = λ a b. refl }

pub hex_joins : Joins in_hex
unfolding in_hex
hex_joins = record { none = refl; more = more }
  where
    more : (a b : List ℕ) → in_hex (a ++ b) ≡ in_hex a ++ in_hex b
    more [] b = refl
    more (x ∷ a) b = rw (more a b)

pub blanks_join : Joins behind_blanks
unfolding behind_blanks
blanks_join = record { none = refl; more = more }
  where
    more : (a b : List ℕ) → behind_blanks (a ++ b) ≡ behind_blanks a ++ behind_blanks b
    more [] b = refl
    more (x ∷ a) b = rw (more a b, append_assoc (decimal x) (behind_blanks a) (behind_blanks b))

pub pieces_none : (f : List ℕ → List ℕ) → Joins f → (p : Page) → p.at ≤ 18446744073709551615 → Writes (f []) p p
pieces_none f j p h = rw j.none (writes_none p h)

module _ (f : List ℕ → List ℕ) (j : Joins f) (xs : List ℕ) {p q : Page} where
  pub pieces_next : {i : ℕ} {r : Page} → length p.out.now ≤ 18446744073709551615 → Writes (f (take i xs)) p q → i < length xs
      → Writes (f (get_or xs i 0 ∷ [])) q r → Writes (f (take (i + 1) xs)) p r
  pieces_next {i} small w h v = rw (add-one, take-suc xs i 0 h, j.more (take i xs) (get_or xs i 0 ∷ [])) (writes_more small w v)

  pub pieces_done : {i : ℕ} → Writes (f (take i xs)) p q → length xs ≤ i → Writes (f xs) p q
  pieces_done {i} w h = rw (take_all i xs h) at w

-- what stands before a number of a row
abbrev pub sign_before : ℕ → List ℕ
sign_before zero = []
sign_before (suc i) = blank ∷ []

pub row_more : (ns : List ℕ) (n : ℕ) → row (ns ++ (n ∷ [])) ≡ row ns ++ (sign_before (length ns) ++ decimal n)
unfolding row behind_blanks
row_more [] n = append-nil (decimal n)
row_more (m ∷ ns) n = rw (blanks_join.more ns (n ∷ []), append-nil (decimal n), append_assoc (decimal m) (behind_blanks ns) (blank ∷ decimal n))

pub row_next : (ns : List ℕ) {p q r s : Page} {i : ℕ} → length p.out.now ≤ 18446744073709551615 → Writes (row (take i ns)) p q → i < length ns
    → Writes (sign_before i) q r → Writes (decimal (get_or ns i 0)) r s → Writes (row (take (i + 1) ns)) p s
row_next ns {i = i} small w h v u =
    let long = same_room w in
    let count : length (take i ns) ≡ i = length-take-le i ns (omega arith) in
    rw (add-one, take-suc ns i 0 h, row_more (take i ns) (get_or ns i 0), count) (writes_more small w (writes_more (omega arith) v u))

pub row_done : (ns : List ℕ) {p q : Page} {i : ℕ} → Writes (row (take i ns)) p q → length ns ≤ i → Writes (row ns) p q
row_done ns {i = i} w h = rw (take_all i ns h) at w
