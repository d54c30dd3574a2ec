-- Sets in a slice of words: one is read and written word by word, and many one after the other.
use Prim.Native.Nat.{ℕ, suc, zero, ◌+◌, ◌*◌, ◌/◌, ◌<◌, ◌≤◌}
use mathlib.Core.Path.{◌≡◌, refl, sym, ap, ◌∙◌}
use mathlib.Core.List.{List, [], ◌∷◌, ◌++◌, append_assoc, append-nil}
use native.Mathlib.Omega.{arith}
use lib.ListN.{length, get_or, take, drop, length-append}
use lib.Seq.{drop-drop, take_all, paste, sets, sets-eq}
use Rattle.number.proofs.Lists.{sets_append}
use Rattle.bits.specs.Bits.{words, whole_in, words_of, sets_from, sets_in, column_of}
use Rattle.bits.proofs.Whole.{words_of_long}

-- a whole list is written
pub wrote : (d : List ℕ) (at : ℕ) (s : List ℕ) (n : ℕ) → length s ≡ n → at + n ≤ length d → paste d at s n ≡ sets d at s
wrote d at s n e h =
    let all : take n s ≡ s = take_all n s (omega arith) in
    rw all (ap (λ (k : ℕ). take at d ++ s ++ drop (at + k) d) (sym e) ∙ sym (sets-eq s d at (omega arith)))

-- as many sets as there are, and set n of them
from_length : (k : ℕ) (column : List ℕ) → length (sets_from k column) ≡ k
unfolding sets_from
from_length zero column = refl
from_length (suc k) column = ap suc (from_length k (drop words column))

from_at : (k : ℕ) (column : List ℕ) (n : ℕ) → n < k → get_or (sets_from k column) n 0 ≡ whole_in (take words (drop (n * words) column))
unfolding sets_from
from_at zero column n h = absurd (omega arith)
from_at (suc k) column zero h = refl
from_at (suc k) column (suc n) h =
    let further : suc n * words ≡ words + n * words = omega arith in
    from_at k (drop words column) n (omega arith)
    ∙ ap (λ (l : List ℕ). whole_in (take words l)) (drop-drop (n * words) words column ∙ ap (λ (m : ℕ). drop m column) (sym further))

pub sets_length : (column : List ℕ) → length (sets_in column) ≡ length column / words
unfolding sets_in
sets_length column = from_length (length column / words) column

pub set_at : (column : List ℕ) (n : ℕ) → n < length column / words → get_or (sets_in column) n 0 ≡ whole_in (take words (drop (n * words) column))
unfolding sets_in
set_at column n h = from_at (length column / words) column n h

-- sets one after the other
column_append : (u v : List ℕ) → column_of (u ++ v) ≡ column_of u ++ column_of v
unfolding column_of
column_append [] v = refl
column_append (x ∷ u) v = ap (λ (l : List ℕ). words_of words x ++ l) (column_append u v) ∙ sym (append_assoc (words_of words x) (column_of u) (column_of v))

pub column_length : (u : List ℕ) → length (column_of u) ≡ length u * words
unfolding column_of
column_length [] = refl
column_length (x ∷ u) = length-append (words_of words x) (column_of u) ∙ omega (arith, words_of_long words x, column_length u)

-- one set more behind those that were laid
pub set_laid : (l u : List ℕ) (v : ℕ) {j : ℕ} → length u ≡ j → sets (sets l 0 (column_of u)) (j * words) (words_of words v) ≡ sets l 0 (column_of (u ++ (v ∷ [])))
unfolding column_of
set_laid l u v {j} e =
    let place : 0 + length (column_of u) ≡ j * words = omega (arith, column_length u, e) in
    let alone : column_of (v ∷ []) ≡ words_of words v = append-nil (words_of words v) in
    sym (ap (λ (xs : List ℕ). sets l 0 xs) (column_append u (v ∷ []) ∙ ap (λ (xs : List ℕ). column_of u ++ xs) alone)
    ∙ sets_append l 0 (column_of u) (words_of words v) ∙ ap (λ (k : ℕ). sets (sets l 0 (column_of u)) k (words_of words v)) place)
