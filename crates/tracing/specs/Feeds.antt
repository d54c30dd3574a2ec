-- Not to be believed: what the code keeps to; the proofs check it.
-- The lines of the bytes that reads bring are answered.
use Rattle.std.specs.Prelude.{◌≡◌, Bool, true, false, List, [], ◌∷◌, ◌++◌, ℕ, ◌≤◌, length}
use Rattle.texts.specs.declared.Source.{Source}
use Rattle.texts.specs.declared.Page.{Page}
use Rattle.texts.specs.Puts.{Writes}
use Rattle.texts.specs.Lines.{lines_from, lines_in}
use Rattle.texts.specs.Reads.{at_hand, Refilled, Kept}
use Rattle.tracing.specs.declared.Trace.{Trace}
use Rattle.tracing.specs.declared.Trace.TheVariants.{Sheet, Event, Nothing}
use Rattle.tracing.specs.declared.Fed.{Fed}
use Rattle.tracing.specs.Sizes.{line_room}
use Rattle.tracing.specs.Steps.{State, stopped}
use Rattle.tracing.specs.Stands.{Columns, Stands, Move}
use Rattle.tracing.specs.Output.{Turn, Printed}
use Rattle.sets.specs.declared.Entry.{Entry}
use Rattle.sheet.specs.declared.Row.{Row}

-- a line's answer, in one trace or in many
abbrev pub turn_of : Bool → List ℕ → Move
turn_of many line x y text = Turn many x line y text

-- Whether to go on: not where the input has ended, nor where a trace has stopped, unless another may begin.
unfoldable pub goes_on : Bool → Bool → Trace → Bool
goes_on many true t = false
goes_on true false t = true
goes_on false false Sheet = true
goes_on false false (Event k) = true
goes_on false false Nothing = false

-- the buffers lent are long enough
pub record Buffers (line : List ℕ) (rows : List Row) (statics : List Entry) : Type 0 where
  pub line_long : line_room ≤ length line
  pub columns : Columns rows statics

-- The lines of the bytes at hand were answered from the state x on, and what is left of a line that has not ended is kept; `text` are the
-- bytes of that line that were kept before.
pub record Feeds (many : Bool) (x : State) (s : Source) (bytes text : List ℕ) (r : Fed)
    (rows' : List Row) (statics' : List Entry) (line' : List ℕ) (p p' : Page) : Type 0 where
  pub next : State
  pub output : List ℕ
  pub printed : Printed many x (lines_in s.ended text (at_hand s bytes)) next output
  pub stands : Stands r.trace rows' statics' next
  pub written : Writes output p p'
  pub kept : s.ended ≡ false → Kept (lines_from text (at_hand s bytes)).left r.source.held line'
  pub same_end : r.source.ended ≡ s.ended

-- One read, whose bytes are those of the slice after it, was answered from the page's start on.
pub record ReadAnswered (many : Bool) (from r : Fed)
    (bytes line line' : List ℕ) (rows rows' : List Row) (statics statics' : List Entry) (p p' : Page) : Type 0 where
  pub source : Source
  pub refilled : Refilled from.source source bytes
  pub fed : (x : State) (text : List ℕ) → Stands from.trace rows statics x → Kept text from.source.held line
      → Feeds many x source bytes text r rows' statics' line' (record p { at = 0 }) p'

-- One trace in several reads, each with the bytes of a line that were kept before it: the lines of each are printed in turn, until a read
-- brings nothing more, or the trace has stopped and what is left is not read. That the loop around `feed` does so no contract can say;
-- `all_reads` says what comes of it.
pub data InReads : State → List ℕ → List (List ℕ) → List ℕ → Type 0 where
  last_read : {t u : State} {held bytes text : List ℕ} → Printed false t (lines_in true held bytes) u text → InReads t held (bytes ∷ []) text
  read_more : {t u : State} {held bytes text rest : List ℕ} {reads : List (List ℕ)} → Printed false t (lines_in false held bytes) u text
      → InReads u (lines_from held bytes).left reads rest → InReads t held (bytes ∷ reads) (text ++ rest)
  stopped_there : {t : State} {held bytes text : List ℕ} {reads : List (List ℕ)} → Printed false t (lines_in false held bytes) stopped text
      → InReads t held (bytes ∷ reads) text

-- all bytes that they bring
unfoldable pub all_read : List (List ℕ) → List ℕ
all_read [] = []
all_read (bytes ∷ reads) = bytes ++ all_read reads
