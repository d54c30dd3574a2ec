-- Not to be believed: what the code keeps to; the proofs check it.
-- A trace in the code: its state, with the columns of the program that was made ready, and what the functions behind a line's step answer.
use Rattle.std.specs.Prelude.{ℕ, ◌+◌, ◌<◌, ◌≤◌, ◌≡◌, true, ◌&&◌, List, leb, ltb, length}
use Rattle.bits.specs.Bits.{has, whole, width}
use Rattle.limits.specs.Limits.{max_statements}
use Rattle.sheet.specs.declared.Counts.{Counts}
use Rattle.sheet.specs.Read.{Sheet}
use Rattle.rules.specs.States.{at_rest}
use Rattle.rules.specs.Words.{Fitted}
use Rattle.compiler.specs.Check.{Accepted}
use Rattle.interpreter.specs.Program.{PreparedAs, Prepares}
use Rattle.verdicts.specs.declared.Answer.{Answer}
use Rattle.verdicts.specs.declared.Reaction.{Reaction}
use Rattle.sheet_entries.specs.Sheets.{Checked}
use Rattle.texts.specs.declared.Page.{Page}
use Rattle.texts.specs.Puts.{Writes}
use Rattle.tracing.specs.declared.Running.{Running}
use Rattle.tracing.specs.declared.Trace.{Trace}
use Rattle.tracing.specs.declared.Trace.TheVariants.{Sheet as ASheet, Event, Nothing}
use Rattle.tracing.specs.Texts.{ok_text, refused_text, instant_text}
use Rattle.tracing.specs.Steps.{Held, State, first, running, stopped, Headed, opened, counted, outputs_in, Steps}
use Rattle.sets.specs.declared.Entry.{Entry}
use Rattle.sheet.specs.declared.Row.{Row}

-- of the signals that have a bit the set has the outputs, 1+I to I+O
pub record Outputs (I O set : ℕ) : Type 0 where
  pub these : (j : ℕ) → j < width → has set j ≡ (ltb I j && leb j (I + O))

-- the columns lent are long enough for every sheet
pub record Columns (rows : List Row) (statics : List Entry) : Type 0 where
  pub rows_long : max_statements ≤ length rows
  pub statics_long : length rows ≤ length statics

-- the program made ready stands for the sheet, the state fits, and the rest is what is held
pub record Holding (k : Running) (rows : List Row) (statics : List Entry) (h : Held) : Type 0 where
  pub read_as : Sheet
  pub accepts : Accepted h.sheet read_as
  pub ready : PreparedAs k.program rows statics read_as
  pub outputs : Outputs h.inputs h.outputs (whole k.outputs)
  pub state : h.state ≡ whole k.state
  pub fit : Fitted rows (whole k.state) true
  pub instants : h.instants ≡ k.instants

-- what the code's state means
pub data Stands : Trace → List Row → List Entry → State → Type 0 where
  for_first : {rows : List Row} {statics : List Entry} → Stands ASheet rows statics first
  for_running : {k : Running} {rows : List Row} {statics : List Entry} {h : Held} → Holding k rows statics h → Stands (Event k) rows statics (running h)
  for_stopped : {rows : List Row} {statics : List Entry} → Stands Nothing rows statics stopped

pub record Sound (t : Trace) (rows : List Row) (statics : List Entry) : Type 0 where
  pub state : State
  pub stands : Stands t rows statics state

-- What is awaited next, and the text, which is written on the page.
pub record Prints (next : Trace) (text : List ℕ) (r : Trace) (p p' : Page) : Type 0 where
  pub awaits : r ≡ next
  pub written : Writes text p p'

-- An instant was accepted.
pub record Moves (k : Running) (r : Reaction) (t : Trace) (p p' : Page) : Type 0 where
  pub next : t ≡ Event (record { program = k.program; outputs = k.outputs; state = r.state; instants = counted k.instants })
  pub written : (I O : ℕ) → Outputs I O (whole k.outputs)
      → Writes
      (instant_text (counted k.instants) (outputs_in I O (whole r.signals)) (whole r.state) (at_rest (has (whole r.state)))) p p'

-- The program of a sheet that was compiled to these rows, with these counts and so many cells, before its first event.
pub record Ready (rows : List Row) (c : Counts) (n : ℕ) (k : Running) : Type 0 where
  pub prepares : Prepares rows c n k.program
  pub outputs : Outputs c.inputs c.outputs (whole k.outputs)
  pub fresh : whole k.state ≡ 0
  pub none : k.instants ≡ 0

-- A sheet was opened: what its check answers is printed, and one that is accepted is ready.
pub data Opens (s : List ℕ) (r : Trace) (rows' : List Row) (statics' : List Entry) (p p' : Page) : Type 0 where
  not_opened : {a : Answer} → Checked s a → 0 < a.number → Prints Nothing (refused_text a.number a.place) r p p'
      → Opens s r rows' statics' p p'
  is_opened : {a : Answer} {k : Running} {I O : ℕ} → Checked s a → a.number ≡ 0 → Headed s I O
      → Prints (Event k) (ok_text a.statements a.cells) r p p'
      → Holding k rows' statics' (opened s I O) → Opens s r rows' statics' p p'

-- What a line does to a state of the definition: the next state, and the text.
abbrev pub Move : Type 1
Move = State → State → List ℕ → Type 0

abbrev pub step_of : List ℕ → Move
step_of line x y text = Steps x line y text

-- The code did such a move: from the state x to one that its own state stands for after it, with the text written on the page.
pub record Leads (move : Move) (x : State) (r : Trace) (rows' : List Row) (statics' : List Entry) (p p' : Page) : Type 0 where
  pub next : State
  pub text : List ℕ
  pub moves : move x next text
  pub stands : Stands r rows' statics' next
  pub written : Writes text p p'

pub record Does (move : Move) (t r : Trace) (rows rows' : List Row) (statics statics' : List Entry) (p p' : Page) : Type 0 where
  pub from : (x : State) → Stands t rows statics x → Leads move x r rows' statics' p p'
