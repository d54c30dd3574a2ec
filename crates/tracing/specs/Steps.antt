-- "Trace program": what one line does, from a state and the line to a state and the text that is printed.
use Rattle.std.specs.Prelude.{ℕ, ◌+◌, ◌*◌, ◌/◌, ◌%◌, ◌^◌, ◌<◌, min, ◌≡◌, cond, List, [], leb, length, Option, Some, None}
use Rattle.bits.specs.Bits.{has, whole}
use Rattle.sheet.specs.Read.{Sheet, sheet, read_sheet}
use Rattle.rules.specs.States.{at_rest}
use Rattle.verdicts.specs.declared.Answer.{Answer}
use Rattle.verdicts.specs.declared.Reaction.{Reaction}
use Rattle.verdicts.specs.Runs.{Once}
use Rattle.sheet_entries.specs.Sheets.{Checked, ReactedMany}
use Rattle.texts.specs.Digits.{value_of}
use Rattle.texts.specs.Bytes.{Decoded, bytes, malformed, bytes_of}
use Rattle.texts.specs.Written.{bad_text}
use Rattle.tracing.specs.Sizes.{sheet_digits, event_digits}
use Rattle.tracing.specs.Texts.{ok_text, refused_text, instant_text}

-- an accepted sheet, its numbers of inputs and of outputs, the state, and how many instants were counted
pub record Held : Type 0 where
  pub sheet : List ℕ
  pub inputs : ℕ
  pub outputs : ℕ
  pub state : ℕ
  pub instants : ℕ

-- the sheet's line is awaited, or a line with an event, or none
pub data State : Type 0 where
  first : State
  running : Held → State
  stopped : State

-- "first input line a sheet in hex (up to 2,048 digits)", "a sheet line has an even count of digits"
unfoldable pub sheet_line : List ℕ → Decoded
sheet_line line = cond (leb (length line) sheet_digits) (bytes_of line) malformed

-- "then one event in hex a line", "an event line 1 to 16"
unfoldable pub event_line : List ℕ → Option ℕ
event_line line = value_of 16 event_digits line

-- "A sheet is: number of inputs I, of outputs O, one statement."
pub record Headed (s : List ℕ) (I O : ℕ) : Type 0 where
  pub read_as : Sheet
  pub is : read_sheet s ≡ sheet read_as
  pub inputs_are : I ≡ read_as.inputs
  pub outputs_are : O ≡ read_as.outputs

-- "Fresh is 0."
abbrev pub opened : List ℕ → ℕ → ℕ → Held
opened s I O = record { sheet = s; inputs = I; outputs = O; state = 0; instants = 0 }

-- one instant more; a word is as far as it can be counted
unfoldable pub counted : ℕ → ℕ
counted instants = min (instants + 1) 18446744073709551615

-- the outputs in a set of signals: "Signal 0 is tick, then I inputs, O outputs, then locals"
unfoldable pub outputs_in : ℕ → ℕ → ℕ → ℕ
outputs_in I O w = w / 2 ^ (1 + I) % 2 ^ O * 2 ^ (1 + I)

-- after an instant
abbrev pub moved : Held → Reaction → Held
moved h r =
    record { sheet = h.sheet; inputs = h.inputs; outputs = h.outputs; state = whole r.state; instants = counted h.instants }

abbrev pub instant_of : Held → Reaction → List ℕ
instant_of h r =
    instant_text (counted h.instants) (outputs_in h.inputs h.outputs (whole r.signals)) (whole r.state)
    (at_rest (has (whole r.state)))

-- One line's step, from a state and the line to a state and the text that is printed. "after a refused sheet it stops, after a refused event
-- the instant isn't counted"; "Any other line is malformed, prints `bad line` and stops."
pub data Steps : State → List ℕ → State → List ℕ → Type 0 where
  sheet_malformed : {line : List ℕ} → sheet_line line ≡ malformed → Steps first line stopped bad_text
  sheet_refused : {line s : List ℕ} {r : Answer} → sheet_line line ≡ bytes s → Checked s r → 0 < r.number
      → Steps first line stopped (refused_text r.number r.place)
  sheet_accepted : {line s : List ℕ} {r : Answer} {I O : ℕ} → sheet_line line ≡ bytes s → Checked s r → r.number ≡ 0 → Headed s I O
      → Steps first line (running (opened s I O)) (ok_text r.statements r.cells)
  event_malformed : {h : Held} {line : List ℕ} → event_line line ≡ None → Steps (running h) line stopped bad_text
  event_refused : {h : Held} {line : List ℕ} {event : ℕ} {r : Reaction} → event_line line ≡ Some event
      → Once (ReactedMany h.sheet) h.state event r → 0 < r.number
      → Steps (running h) line (running h) (refused_text r.number r.place)
  instant : {h : Held} {line : List ℕ} {event : ℕ} {r : Reaction} → event_line line ≡ Some event
      → Once (ReactedMany h.sheet) h.state event r → r.number ≡ 0
      → Steps (running h) line (running (moved h r)) (instant_of h r)
  after_stop : {line : List ℕ} → Steps stopped line stopped []
