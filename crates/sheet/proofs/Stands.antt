-- Bytes that stand in a sheet between two offsets: how they are split and joined, and that a number is read exactly where its bytes stand.
use mathlib.Core.Path.{◌≡◌, refl, sym, ap, ◌∙◌}
use mathlib.Core.List.{List, [], ◌++◌, append_assoc, append-nil}
use Prim.Native.Nat.{ℕ, ◌+◌, ◌<◌, ◌≤◌}
use native.Mathlib.Omega.{arith}
use lib.ListN.{length, take, drop, length-append, take-append-drop, drop_of_length-le}
use lib.Seq.{length-take-le, drop-drop, drop-append_seam, drop-length}
use Rattle.number.specs.declared.Cursor.{Cursor}
use Rattle.number.specs.Number.{number_at, number_bytes, number_length, cursor, Bytes}
use Rattle.number.proofs.Laws.{read_bytes, only_spelling, Spelled}
use Rattle.std.specs.Prelude.{Ok}

-- the bytes bs stand in s, from the offset a up to the offset b
pub record Stands (s : List ℕ) (a : ℕ) (bs : List ℕ) (b : ℕ) : Type 0 where
  pub end : b ≡ a + length bs
  pub inside : b ≤ length s
  pub bytes : drop a s ≡ bs ++ drop b s

-- no bytes stand at any offset
pub stands_none : (s : List ℕ) (a : ℕ) → a ≤ length s → Stands s a [] a
stands_none s a h = record { end = omega arith; inside = h; bytes = refl }

-- bytes that follow one another stand joined
pub stands_both : (s : List ℕ) (a : ℕ) (xs : List ℕ) (b : ℕ) (ys : List ℕ) (c : ℕ) → Stands s a xs b → Stands s b ys c
    → Stands s a (xs ++ ys) c
stands_both s a xs b ys c f g =
    record {
      end = omega (arith, length-append xs ys);
      inside = g.inside;
      bytes = f.bytes ∙ ap (λ (l : List ℕ). xs ++ l) g.bytes ∙ sym (append_assoc xs ys (drop c s));
    }

module _ (s : List ℕ) (a : ℕ) (xs ys : List ℕ) (c : ℕ) (h : Stands s a (xs ++ ys) c) where
  apart : drop a s ≡ xs ++ (ys ++ drop c s)
  apart = h.bytes ∙ append_assoc xs ys (drop c s)

  -- what follows the first of them
  rest : drop (a + length xs) s ≡ ys ++ drop c s
  rest = sym (drop-drop (length xs) a s) ∙ ap (drop (length xs)) apart ∙ drop-append_seam xs (ys ++ drop c s)

  -- of bytes that stand joined, the first stand
  pub stands_first : Stands s a xs (a + length xs)
  stands_first =
      record { end = refl; inside = omega (arith, length-append xs ys); bytes = apart ∙ ap (λ (l : List ℕ). xs ++ l) (sym rest) }

  -- and the others stand past them
  pub stands_second : Stands s (a + length xs) ys c
  stands_second = record { end = omega (arith, length-append xs ys); inside = h.inside; bytes = rest }

-- all of a list stands in it
pub stands_all : (s : List ℕ) → Stands s 0 s (length s)
stands_all s = record { end = omega arith; inside = omega arith; bytes = sym (ap (λ (l : List ℕ). s ++ l) (drop-length s) ∙ append-nil s) }

-- what stands in s from its first byte to its last is s
pub stands_whole : (s bs : List ℕ) (b : ℕ) → Stands s 0 bs b → length s ≤ b → s ≡ bs
stands_whole s bs b h l = h.bytes ∙ ap (λ (r : List ℕ). bs ++ r) (drop_of_length-le s l) ∙ append-nil bs

-- a number is read where its bytes stand
pub stands_read : (s : List ℕ) (a v b : ℕ) → Stands s a (number_bytes v) b → v < 16384 → number_at s a ≡ Ok (v, cursor b)
stands_read s a v b h small =
    let before : length (take a s) ≡ a = length-take-le a s (omega arith) in
    let whole : take a s ++ (number_bytes v ++ drop b s) ≡ s = ap (λ (l : List ℕ). take a s ++ l) (sym h.bytes) ∙ take-append-drop a s in
    rw (whole, before) at (read_bytes (take a s) (drop b s) v small) ∙ ap (λ (x : ℕ). Ok (v, cursor x)) (sym h.end)

-- and, in a list of bytes, nowhere else
pub read_stands : (s : List ℕ) (a v : ℕ) (c : Cursor) → Bytes s → number_at s a ≡ Ok (v, c) → Stands s a (number_bytes v) c.at
read_stands s a v c are e =
    let w : Spelled s a v c = only_spelling s a are e in
    let end : c.at ≡ a + number_length v = ap (λ (x : Cursor). x.at) w.past in
    record { end = end; inside = omega arith; bytes = rw (← end) at w.bytes }
