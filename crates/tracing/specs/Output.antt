-- The whole output of a trace.
use Rattle.std.specs.Prelude.{ℕ, ◌≡◌, Bool, true, false, ◌&&◌, List, [], ◌∷◌, ◌++◌}
use Rattle.texts.specs.Written.{newline}
use Rattle.texts.specs.Puts.{Puts}
use Rattle.texts.specs.Words.{same}
use Rattle.texts.specs.Lines.{lines_of}
use Rattle.tracing.specs.Steps.{State, first, Steps}

-- For the stored traces, many from one input: a line `--` between two is printed again, and the next begins anew. One trace has no such
-- line: it is malformed.
abbrev pub dashes : List ℕ
dashes = 45 ∷ (45 ∷ [])

abbrev pub begins : Bool → List ℕ → Bool
begins many line = many && same line dashes

pub data Turn (many : Bool) : State → List ℕ → State → List ℕ → Type 0 where
  a_step : {t t' : State} {line text : List ℕ} → begins many line ≡ false → Steps t line t' text → Turn many t line t' text
  anew : {t : State} {line : List ℕ} → begins many line ≡ true → Turn many t line first (dashes ++ (newline ∷ []))

-- The texts of some lines, one behind the other. "Where no line is left it stops and prints nothing more"; after a stop a line prints
-- nothing (`after_stop`), so that it need not be read.
pub data Printed (many : Bool) : State → List (List ℕ) → State → List ℕ → Type 0 where
  no_line : {t : State} → Printed many t [] t []
  next_line : {t t₁ t₂ : State} {line text rest : List ℕ} {lines : List (List ℕ)} → Turn many t line t₁ text → Printed many t₁ lines t₂ rest
      → Printed many t (line ∷ lines) t₂ (text ++ rest)

-- what is printed for the bytes of an input
pub record Traced (input output : List ℕ) : Type 0 where
  pub last : State
  pub printed : Printed false first (lines_of input) last output

-- .. as it stands in a buffer, with its length
pub record Answered (input : List ℕ) (length : ℕ) (out out' : List ℕ) : Type 0 where
  pub output : List ℕ
  pub traced : Traced input output
  pub written : Puts output 0 length out out'
