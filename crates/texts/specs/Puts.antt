-- A text that is put into a buffer.
use Rattle.std.specs.Prelude.{ℕ, ◌+◌, min, ◌≡◌, List, length}
use Rattle.std.proofs.lemmas.List.Edits.{sets}
use Rattle.texts.specs.declared.Page.{Page}

-- The text stands from `at` on, as far as there is room, and nothing else is changed. The place past it is counted on where there is no room, up to the largest
-- word: so an empty buffer asks for the length needed.
pub record Puts (text : List ℕ) (at end : ℕ) (out out' : List ℕ) : Type 0 where
  pub past : end ≡ min (at + length text) 18446744073709551615
  pub laid : out' ≡ sets out at text

-- the same on a page, which keeps its buffer
pub record Writes (text : List ℕ) (p p' : Page) : Type 0 where
  pub same_buffer : p'.out.ghost_name ≡ p.out.ghost_name
  pub puts : Puts text p.at p'.at p.out.now p'.out.now
