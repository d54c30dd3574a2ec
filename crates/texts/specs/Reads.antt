-- How lines are taken out of the bytes that reads bring.
use Rattle.std.specs.Prelude.{ℕ, ◌+◌, min, ◌≡◌, Bool, true, false, cond, List, [], ◌∷◌, eqb, length, take, drop, ⊤, Option, unwrap_or, is_some}
use Rattle.io.specs.Counts.{IsPrefixLen}
use Rattle.texts.specs.declared.Source.{Source}
use Rattle.texts.specs.declared.Found.{Found}
use Rattle.texts.specs.declared.Found.TheVariants.{Line, More, End}
use Rattle.texts.specs.declared.Next.{Next}
use Rattle.texts.specs.Written.{newline}
use Rattle.texts.specs.Puts.{Puts}

-- what the last read brought, and what of it is not yet used
abbrev pub brought : Source → List ℕ → List ℕ
brought s bytes = take s.end bytes

unfoldable pub at_hand : Source → List ℕ → List ℕ
at_hand s bytes = drop s.from (brought s bytes)

-- the bytes before the first newline, or all of them; and whether there is one
unfoldable pub before_newline : List ℕ → List ℕ
before_newline [] = []
before_newline (b ∷ bs) = cond (eqb b newline) [] (b ∷ before_newline bs)

unfoldable pub has_newline : List ℕ → Bool
has_newline [] = false
has_newline (b ∷ bs) = cond (eqb b newline) true (has_newline bs)

-- where it stands, or where the bytes end
abbrev pub place_in : Source → List ℕ → ℕ
place_in s bytes = min s.from (length (brought s bytes)) + length (before_newline (at_hand s bytes))

-- so many bytes were used, and so many of a line that has not ended are kept
abbrev pub onward : Source → ℕ → ℕ → Source
onward s from held = record { from = from; end = s.end; held = held; ended = s.ended }

-- What is found: by whether there is a newline, whether the input has ended, and whether nothing of the line is there. A newline ends a line. Where there is
-- none another read is wanted; but where no read brings more "the last line may lack its newline", and where nothing is left there is no line. `from` is the
-- place of the newline or the end, and `held` the length of the line so far.
unfoldable pub found : Bool → Bool → Bool → Source → ℕ → ℕ → ℕ → Next
found true ended none s from held room = record { found = Line (min held room); source = onward s (from + 1) 0 }
found false false none s from held room = record { found = More; source = onward s from held }
found false true true s from held room = record { found = End; source = onward s from 0 }
found false true false s from held room = record { found = Line (min held room); source = onward s from 0 }

-- The next line was looked for: the bytes up to the newline stand behind those of the line so far, as far as there is room.
pub record NextLine (s : Source) (bytes : List ℕ) (r : Next) (line line' : List ℕ) : Type 0 where
  pub held : ℕ
  pub kept : Puts (before_newline (at_hand s bytes)) s.held held line line'
  pub answer : r ≡ found (has_newline (at_hand s bytes)) s.ended (eqb held 0) s (place_in s bytes) held (length line)

-- One read, which brought the first bytes: these are at hand. None means that the input has ended.
pub record Refilled (s r : Source) (bytes : List ℕ) : Type 0 where
  pub counted : IsPrefixLen r.end bytes
  pub answer : r ≡ record { from = 0; end = r.end; held = s.held; ended = eqb r.end 0 }

-- where the first newline stands, or none
pub record NewlineIn (bytes : List ℕ) (r : Option ℕ) : Type 0 where
  pub place : unwrap_or r (length bytes) ≡ length (before_newline bytes)
  pub there : is_some r ≡ has_newline bytes

-- so much of a line is in the buffer
abbrev pub IsLine : Found → List ℕ → Type 0
IsLine (Line n) line = IsPrefixLen n line
IsLine More line = ⊤
IsLine End line = ⊤

-- What is kept of a line so far: its first bytes, as many as have room. `begun` is the buffer when the line began.
pub record Kept (text : List ℕ) (held : ℕ) (line : List ℕ) : Type 0 where
  pub begun : List ℕ
  pub room : length begun ≡ length line
  pub put : Puts text 0 held begun line
