-- Laws of reading tables.
use Prim.Native.Nat.{ℕ, suc, ◌+◌, ◌-◌, ◌≤◌, ◌<◌}
use mathlib.Core.Path.{◌≡◌, refl, sym, ap, ◌∙◌}
use mathlib.Core.Bool.{Bool, true, false, cond}
use mathlib.Core.List.{List, [], ◌∷◌, ◌++◌, append_assoc, append-nil}
use native.Mathlib.Numerals.{add-one}
use native.Mathlib.Omega.{arith}
use borrow.Author.Tests.{leb-true, le-leb, lt-leb, eq-eqb, ne_eqb, ltb-true, ltb-false}
use lib.Dec.{eqb, leb, ltb}
use lib.ListN.{length, take, drop, set, length-drop, length-set}
use lib.Seq.{drop-drop, take_all, take-suc-set, length-take-le}
use Rattle.covers.specs.Covers.{size, table_count}
use Rattle.texts.specs.Digits.{value_of}
use Rattle.answers.specs.Words.{part_end}
use Rattle.answers.specs.Questions.{longest, numbers_in, Question, none, of_tables, one_table}
use Rattle.answers.specs.Tables.{is_truth, sign_behind, short, number_in, Numbers, these, no_tables, before, numbers_from}
use Rattle.answers.specs.Code.{Tabled}
use Rattle.std.specs.Prelude.{Option, Some, None}

-- a number that was read has 16 bits
short_small : (v : Option ℕ) {n : ℕ} → short v ≡ Some n → n ≤ 65535
unfolding short
short_small (Some m) {n} e = by_size (leb m 65535) refl
  where
    by_size : (b : Bool) → leb m 65535 ≡ b → n ≤ 65535
    by_size true is = let same : Some m ≡ Some n = rw is at e in let z : m ≡ n = cc in omega (arith, leb-true m 65535 is)
    by_size false is = let z : None ≡ Some n = rw is at e in let y : ◌≡◌ {A = ℕ} 0 1 = cc in absurd (omega arith)
short_small None e = let z : ◌≡◌ {A = ℕ} 0 1 = cc in absurd (omega arith)

pub number_small : (i : ℕ) (part : List ℕ) {n : ℕ} → number_in i part ≡ Some n → n ≤ 65535
unfolding number_in
number_small i part e = short_small (cond (is_truth i) (value_of 16 4 part) (value_of 10 5 part)) e

-- the first number of some: up to the sign behind it, or to the end
module _ (i : ℕ) where
  abbrev end : List ℕ → ℕ
  end s = part_end (sign_behind i) s

  -- a byte that is passed
  held_more : (held : List ℕ) (b : ℕ) (s : List ℕ) → (held ++ (b ∷ [])) ++ s ≡ held ++ (b ∷ s)
  held_more held b s = append_assoc held (b ∷ []) s

  abbrev Cut : List ℕ → List ℕ → Type 0
  Cut held s = numbers_from i held s ≡ before (number_in i (held ++ take (end s) s)) (numbers_from (suc i) [] (drop (suc (end s)) s))

  abbrev Last : List ℕ → List ℕ → Type 0
  Last held s = numbers_from i held s ≡ cond (is_truth i) (before (number_in i (held ++ s)) (these [])) no_tables

  pub number_cut : (held s : List ℕ) → end s < length s → Cut held s
  unfolding part_end numbers_from
  number_cut held [] h = absurd (omega arith)
  number_cut held (b ∷ bs) h = by_sign (eqb b (sign_behind i)) refl (number_cut (held ++ (b ∷ [])) bs)
    where
      by_sign : (t : Bool) → eqb b (sign_behind i) ≡ t → (end bs < length bs → Cut (held ++ (b ∷ [])) bs) → Cut held (b ∷ bs)
      by_sign true is rest = rw (is, append-nil held)
      by_sign false is rest = rw (is, rest (omega (arith, rw is at h)), held_more held b (take (end bs) bs))

  pub number_last : (held s : List ℕ) → length s ≤ end s → Last held s
  unfolding part_end numbers_from
  number_last held [] h = rw (append-nil held)
  number_last held (b ∷ bs) h = by_sign (eqb b (sign_behind i)) refl (number_last (held ++ (b ∷ [])) bs)
    where
      by_sign : (t : Bool) → eqb b (sign_behind i) ≡ t → (length bs ≤ end bs → Last (held ++ (b ∷ [])) bs) → Last held (b ∷ bs)
      by_sign true is rest = absurd (omega (arith, rw is at h))
      by_sign false is rest = rw (is, rest (omega (arith, rw is at h)), held_more held b bs)

-- numbers before those of a text
unfoldable pub joined : List ℕ → Numbers → Numbers
joined ns (these ms) = these (ns ++ ms)
joined ns no_tables = no_tables

joined_none : (x : Numbers) → x ≡ joined [] x
unfolding joined
joined_none (these ms) = refl
joined_none no_tables = refl

joined_more : (ns : List ℕ) (n : ℕ) (x : Numbers) → joined ns (before (Some n) x) ≡ joined (ns ++ (n ∷ [])) x
unfolding joined before
joined_more ns n (these ms) = rw (append_assoc ns (n ∷ []) ms)
joined_more ns n no_tables = refl

-- The first i numbers are read, up to a place in the text.
pub record Reading (text numbers : List ℕ) (i at : ℕ) : Type 0 where
  pub within : at ≤ length text
  pub few : i ≤ at
  pub long : length numbers ≡ longest + 1
  pub so_far : numbers_from 0 [] text ≡ joined (take i numbers) (numbers_from i [] (drop at text))

pub none_read : (text numbers : List ℕ) → length numbers ≡ longest + 1 → Reading text numbers 0 0
none_read text numbers long = record { within = omega arith; few = omega arith; long = long; so_far = joined_none (numbers_from 0 [] text) }

-- where number i ends
pub number_end : (text : List ℕ) (i at : ℕ) {sign end : ℕ} → sign ≡ sign_behind i
    → end ≡ part_end sign (take (length text - at) (drop at text))
    → at + end ≡ at + part_end (sign_behind i) (drop at text)
number_end text i at is ends =
    let all = take_all (length text - at) (drop at text) (omega (arith, length-drop at text)) in
    ap (λ (k : ℕ). at + k) (ends ∙ rw (all, is))

-- number i: up to its sign
module _ {text numbers : List ℕ} {i at end : ℕ} (r : Reading text numbers i at)
    (is : end ≡ at + part_end (sign_behind i) (drop at text)) where
  abbrev part : List ℕ
  part = take (end - at) (drop at text)

  rest_long : length (drop at text) ≡ length text - at
  rest_long = length-drop at text

  -- where it ends, counted from its start
  ends : end - at ≡ part_end (sign_behind i) (drop at text)
  ends = omega (arith, is)

  behind : drop (suc (end - at)) (drop at text) ≡ drop (end + 1) text
  behind = let place : at + suc (end - at) ≡ end + 1 = omega (arith, is) in drop-drop (suc (end - at)) at text ∙ rw place

  cut : end < length text → numbers_from i [] (drop at text) ≡ before (number_in i part) (numbers_from (suc i) [] (drop (end + 1) text))
  cut h = rw (← behind, ends) (number_cut i [] (drop at text) (omega (arith, rest_long, is)))

  last : length text ≤ end → numbers_from i [] (drop at text) ≡ cond (is_truth i) (before (number_in i part) (these [])) no_tables
  last h =
      let all = take_all (end - at) (drop at text) (omega (arith, rest_long)) in
      rw all (number_last i [] (drop at text) (omega (arith, rest_long, is)))

  pub not_number : number_in i part ≡ None → numbers_from 0 [] text ≡ no_tables
  unfolding joined before
  not_number bad = r.so_far ∙ by_end (ltb end (length text)) refl
    where
      by_truth : (b : Bool) → joined (take i numbers) (cond b no_tables no_tables) ≡ no_tables
      by_truth true = refl
      by_truth false = refl

      by_end : (b : Bool) → ltb end (length text) ≡ b → joined (take i numbers) (numbers_from i [] (drop at text)) ≡ no_tables
      by_end true more = rw (cut (ltb-true end (length text) more), bad)
      by_end false past = rw (last (ltb-false end (length text) past), bad) (by_truth (is_truth i))

  module _ {n : ℕ} (number : number_in i part ≡ Some n) (room : i < length numbers) where
    stored : take (i + 1) (set numbers i n) ≡ take i numbers ++ (n ∷ [])
    stored = rw (add-one, take-suc-set numbers i n)

    pub number_read : end < length text → Reading text (set numbers i n) (i + 1) (end + 1)
    number_read h =
        record {
          within = omega arith;
          few = omega (arith, r.few, is);
          long = length-set numbers i n ∙ r.long;
          so_far = r.so_far ∙ rw (cut h, number, joined_more (take i numbers) n, stored, add-one i);
        }

    pub last_read : length text ≤ end → numbers_from 0 [] text ≡ cond (is_truth i) (these (take (i + 1) (set numbers i n))) no_tables
    unfolding joined before
    last_read h = r.so_far ∙ rw (last h, number, stored) (by_truth (is_truth i))
      where
        by_truth : (b : Bool)
            → joined (take i numbers) (cond b (before (Some n) (these [])) no_tables) ≡ cond b (these (take i numbers ++ (n ∷ []))) no_tables
        by_truth true = refl
        by_truth false = refl

-- what was read of a text, by how long it is
module _ (text numbers' : List ℕ) where
  pub too_long : longest < length text → Tabled text None numbers'
  unfolding numbers_in
  too_long h = rw (lt-leb (length text) longest h)

  module _ (h : length text ≤ longest) where
    in_all : numbers_in text ≡ numbers_from 0 [] text
    unfolding numbers_in
    in_all = rw (le-leb (length text) longest h)

    pub were_no_tables : numbers_from 0 [] text ≡ no_tables → Tabled text None numbers'
    were_no_tables not = in_all ∙ not

    pub were_tables : {n : ℕ} → n ≤ length numbers' → numbers_from 0 [] text ≡ these (take n numbers') → Tabled text (Some n) numbers'
    were_tables few all = (few, in_all ∙ all)

-- one table, or another number of them
module _ (word numbers' : List ℕ) {n : ℕ} (read : Tabled word (Some n) numbers') where
  long : length (take n numbers') ≡ n
  long = length-take-le n numbers' read.0

  pub has_table : n ≡ size → 0 < table_count (take n numbers')
  has_table one = rw (long, one) (omega arith)

  module _ (ask : List ℕ → Question) where
    pub not_one : (n ≡ size → ⊥) → of_tables (numbers_in word) (one_table ask) ≡ none
    unfolding of_tables
    not_one other = rw (read.1, long, ne_eqb n size other)

    pub is_one : n ≡ size → of_tables (numbers_in word) (one_table ask) ≡ ask (take n numbers')
    unfolding of_tables
    is_one one = rw (read.1, long, eq-eqb n size one)
