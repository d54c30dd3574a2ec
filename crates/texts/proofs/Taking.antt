-- What a caller learns of the lines that are taken out of the bytes at hand.
use Prim.Native.Nat.{ℕ, suc, ◌+◌, ◌≤◌, ◌<◌, min}
use mathlib.Core.Path.{◌≡◌, refl, sym, ap, ◌∙◌}
use mathlib.Core.Bool.{Bool, true, false}
use mathlib.Core.List.{List, [], ◌∷◌, ◌++◌}
use native.Mathlib.Omega.{arith}
use lib.Dec.{eqb}
use borrow.Author.Tests.{eqb-true, eqb-false}
use lib.ListN.{length, take, drop, set, length-take, length-drop}
use lib.Seq.{sets, length-sets, drop-drop, drop-length}
use Rattle.texts.specs.declared.Source.{Source}
use Rattle.texts.specs.declared.Next.{Next}
use Rattle.texts.specs.declared.Found.{Found}
use Rattle.texts.specs.declared.Found.TheVariants.{Line, More, End}
use Rattle.texts.specs.Puts.{Puts}
use Rattle.texts.specs.Lines.{lines_from, lines_in}
use Rattle.texts.specs.Reads.{brought, at_hand, before_newline, has_newline, place_in, onward, found, NextLine, Kept}
use Rattle.texts.proofs.Truth.{true_false}
use Rattle.texts.proofs.Cutting.{by_newline, no_newline, all_before, short_of_newline, none_of_none, only_last, only_left, last_is, last_none}
use Rattle.texts.proofs.Reading.{drop_clipped}
use Rattle.texts.proofs.Putting.{puts_none, puts_more}

pub nothing_kept : (line : List ℕ) → Kept [] 0 line
nothing_kept line = record { begun = line; room = refl; put = puts_none line 0 (omega arith) }

-- as much of a list as has room is stored at another's start
sets_behind : (y : ℕ) (l : List ℕ) (at : ℕ) (v : List ℕ) → sets (y ∷ l) (suc at) v ≡ y ∷ sets l at v
sets_behind y l at [] = refl
sets_behind y l at (x ∷ v) = sets_behind y (set l at x) (suc at) v

stored : (l v : List ℕ) → take (min (length v) (length l)) (sets l 0 v) ≡ take (length l) v
stored [] v = let none : min (length v) 0 ≡ 0 = omega arith in rw none
stored (y ∷ l) [] = let none : min 0 (suc (length l)) ≡ 0 = omega arith in rw none
stored (y ∷ l) (x ∷ v) =
    let one : min (suc (length v)) (suc (length l)) ≡ suc (min (length v) (length l)) = omega arith in
    rw (one, sets_behind x l 0 v, stored l v)

module _ {text : List ℕ} {held : ℕ} {line : List ℕ} (k : Kept text held line) (small : length line ≤ 18446744073709551615) where
  more_kept : {l line' : List ℕ} {n : ℕ} → Puts l held n line line' → Kept (text ++ l) n line'
  more_kept {l} {line'} p =
      record {
        begun = k.begun;
        room = omega (arith, k.room, ap length p.laid, length-sets line held l);
        put = puts_more (omega (arith, k.room)) k.put p;
      }

  -- the bytes of the line that are in the buffer
  kept_line : take (min held (length line)) line ≡ take (length line) text
  kept_line =
      let count : min held (length line) ≡ min (length text) (length k.begun) = omega (arith, k.put.past, k.room) in
      let whole : take (min held (length line)) line ≡ take (length k.begun) text =
      rw count (ap (take (min (length text) (length k.begun))) k.put.laid ∙ stored k.begun text) in
      whole ∙ ap (λ (n : ℕ). take n text) k.room

-- how much is at hand, a line that has not ended counted as one byte
abbrev pub remaining : Source → List ℕ → ℕ
remaining s bytes = length (at_hand s bytes) + min s.held 1

pub few_remaining : (s : Source) (bytes : List ℕ) → remaining s bytes ≤ length bytes + 1
unfolding at_hand
few_remaining s bytes = simp (length-drop, length-take) (omega arith)

-- A line was taken: it is the first of those that are at hand, and as much of it as has room is in the buffer.
pub record LineTaken (s : Source) (bytes text : List ℕ) (len : ℕ) (s' : Source) (line' : List ℕ) : Type 0 where
  pub whole : List ℕ
  pub first : lines_in s.ended text (at_hand s bytes) ≡ whole ∷ lines_in s.ended [] (at_hand s' bytes)
  pub left : s.ended ≡ false → (lines_from text (at_hand s bytes)).left ≡ (lines_from [] (at_hand s' bytes)).left
  pub none_held : s'.held ≡ 0
  pub in_buffer : take len line' ≡ take (length line') whole

-- No line is at hand: what is left is kept.
pub record NoneTaken (s : Source) (bytes text : List ℕ) (s' : Source) (line' : List ℕ) : Type 0 where
  pub none : lines_in s.ended text (at_hand s bytes) ≡ []
  pub kept : s.ended ≡ false → Kept (lines_from text (at_hand s bytes)).left s'.held line'

abbrev pub Taken : Source → List ℕ → List ℕ → Next → List ℕ → Found → Type 0
Taken s bytes text r line' (Line len) = LineTaken s bytes text len r.source line'
Taken s bytes text r line' More = NoneTaken s bytes text r.source line'
Taken s bytes text r line' End = NoneTaken s bytes text r.source line'

-- the bytes behind those that were looked at
used : (s : Source) (bytes : List ℕ) (n held : ℕ)
    → at_hand (onward s (min s.from (length (brought s bytes)) + n) held) bytes ≡ drop n (at_hand s bytes)
unfolding at_hand
used s bytes n held =
    let b = brought s bytes in
    sym (drop-drop n (min s.from (length b)) b) ∙ rw (drop_clipped s.from b)

-- the input has ended after as before
pub same_ended : {s : Source} {bytes : List ℕ} {r : Next} {line line' : List ℕ} → NextLine s bytes r line line' → r.source.ended ≡ s.ended
unfolding found
same_ended {s} {bytes} {line = line} n =
    rw n.answer (go (has_newline (at_hand s bytes)) s.ended (eqb n.held 0) n.held)
  where
    go : (a b c : Bool) (held : ℕ) → (found a b c s (place_in s bytes) held (length line)).source.ended ≡ s.ended
    go true b c held = refl
    go false false c held = refl
    go false true true held = refl
    go false true false held = refl

module _ (s : Source) (bytes : List ℕ) where
  abbrev u : List ℕ
  u = at_hand s bytes

  abbrev before : List ℕ
  before = before_newline u

  -- behind a newline, and behind the end
  past_newline : at_hand (onward s (place_in s bytes + 1) 0) bytes ≡ drop (suc (length before)) u
  past_newline =
      let next : place_in s bytes + 1 ≡ min s.from (length (brought s bytes)) + suc (length before) = omega arith in
      ap (λ (n : ℕ). at_hand (onward s n 0) bytes) next ∙ used s bytes (suc (length before)) 0

  past_end : (n : ℕ) → has_newline u ≡ false → at_hand (onward s (place_in s bytes) n) bytes ≡ []
  past_end n is = used s bytes (length before) n ∙ rw (all_before u is) (drop-length u)

  -- with each line less is at hand
  fewer_by : (a b c : Bool) (held room n : ℕ) → held ≡ min (s.held + length before) 18446744073709551615 → has_newline u ≡ a → eqb held 0 ≡ c
      → (found a b c s (place_in s bytes) held room).found ≡ Line n → remaining (found a b c s (place_in s bytes) held room).source bytes < remaining s bytes
  unfolding found
  fewer_by true b c held room n past is none line =
      rw (past_newline, length-drop (suc (length before)) u) (omega (arith, short_of_newline u is))
  fewer_by false false c held room n past is none line = let z : ◌≡◌ {A = ℕ} 0 1 = cc in absurd (omega arith)
  fewer_by false true true held room n past is none line = let z : ◌≡◌ {A = ℕ} 0 1 = cc in absurd (omega arith)
  fewer_by false true false held room n past is some line =
      let other : held ≡ 0 → ⊥ = eqb-false held 0 some in
      rw (past_end 0 is) (omega (arith, ap length (all_before u is)))

  module _ (text : List ℕ) {line line' : List ℕ} {held : ℕ} (small : length line ≤ 18446744073709551615) (k : Kept text s.held line)
      (p : Puts before s.held held line line') where
    room : length line ≡ length line'
    room = sym (ap length p.laid ∙ length-sets line s.held before)

    so_far : Kept (text ++ before) held line'
    so_far = more_kept k small p

    newline_taken : has_newline u ≡ true → LineTaken s bytes text (min held (length line)) (onward s (place_in s bytes + 1) 0) line'
    unfolding lines_in
    newline_taken is =
        let cut = by_newline text u is in
        record {
          whole = text ++ before;
          first = rw (cut, past_newline);
          left = λ _. rw (cut, past_newline);
          none_held = refl;
          in_buffer = rw room (kept_line so_far (rw room at small));
        }

    module _ (is : has_newline u ≡ false) where
      end_taken : s.ended ≡ true → eqb held 0 ≡ false → LineTaken s bytes text (min held (length line)) (onward s (place_in s bytes) 0) line'
      end_taken ended some =
          let other : held ≡ 0 → ⊥ = eqb-false held 0 some in
          let long : 0 < length (text ++ before) = omega (arith, so_far.put.past) in
          record {
            whole = text ++ before;
            first = only_last text u is ended ∙ last_is (text ++ before) long ∙ rw (past_end 0 is, none_of_none s.ended);
            left = λ not_ended. true_false (sym ended ∙ not_ended);
            none_held = refl;
            in_buffer = rw room (kept_line so_far (rw room at small));
          }

      -- no line is at hand: another read is wanted, or the input has ended
      none_taken : s.ended ≡ false → NoneTaken s bytes text (onward s (place_in s bytes) held) line'
      none_taken more = record { none = only_left text u is more; kept = λ _. rw (no_newline text u is) so_far }

      nothing_left : s.ended ≡ true → eqb held 0 ≡ true → NoneTaken s bytes text (onward s (place_in s bytes) 0) line'
      nothing_left ended none =
          let short : length (text ++ before) ≡ 0 = omega (arith, so_far.put.past, eqb-true held 0 none) in
          record { none = only_last text u is ended ∙ last_none (text ++ before) short; kept = λ not_ended. true_false (sym ended ∙ not_ended) }

    taken_by : (a b c : Bool) → has_newline u ≡ a → s.ended ≡ b → eqb held 0 ≡ c
        → Taken s bytes text (found a b c s (place_in s bytes) held (length line)) line' (found a b c s (place_in s bytes) held (length line)).found
    unfolding found
    taken_by true b c is ended none = newline_taken is
    taken_by false false c is more none = none_taken is more
    taken_by false true true is ended none = nothing_left is ended none
    taken_by false true false is ended some = end_taken is ended some

-- what was found says what was taken
module _ {s : Source} {bytes : List ℕ} {r : Next} {line line' : List ℕ} (n : NextLine s bytes r line line') where
  pub taken : (text : List ℕ) → length line ≤ 18446744073709551615 → Kept text s.held line → Taken s bytes text r line' r.found
  taken text small k =
      rw n.answer (taken_by s bytes text small k n.kept (has_newline (at_hand s bytes)) s.ended (eqb n.held 0) refl refl refl)

  pub fewer : {len : ℕ} → r.found ≡ Line len → remaining r.source bytes < remaining s bytes
  fewer is =
      let line = sym (ap (λ (x : Next). x.found) n.answer) ∙ is in
      rw n.answer (fewer_by s bytes (has_newline (at_hand s bytes)) s.ended (eqb n.held 0) n.held _ _ n.kept.past refl refl line)
