-- What the functions behind a step answer makes the step of the definition.
use Prim.Native.Nat.{ℕ, ◌/◌, ◌≤◌, ◌<◌}
use mathlib.Core.Path.{◌≡◌, refl, sym, ap, ◌∙◌}
use mathlib.Core.Bool.{true}
use mathlib.Core.List.{List, []}
use native.Mathlib.Omega.{arith}
use borrow.Author.Tests.{le-leb, lt-leb}
use lib.ListN.{length, take}
use Rattle.bits.specs.Bits.{whole}
use Rattle.rules.specs.Words.{Fitted}
use Rattle.compiler.specs.Check.{Accepted}
use Rattle.sheet.specs.Read.{Sheet}
use Rattle.interpreter.specs.Program.{Prepared, AcceptedRuns, ProgramReacts}
use Rattle.verdicts.specs.declared.Reaction.{Reaction}
use Rattle.verdicts.specs.Runs.{Once}
use Rattle.sheet_entries.specs.Sheets.{ReactedMany}
use Rattle.sheet_entries.proofs.SheetEntries.{many_ran}
use Rattle.bits.specs.declared.Bits.{Bits}
use Rattle.texts.specs.declared.Page.{Page}
use Rattle.texts.specs.Digits.{value_of, SetIs}
use Rattle.texts.specs.Bytes.{Decoded, bytes, malformed, bytes_within, Unhexed}
use Rattle.texts.specs.Written.{bad_text}
use Rattle.texts.specs.Puts.{Writes}
use Rattle.texts.proofs.Pairs.{within, were_bytes, were_none}
use Rattle.texts.proofs.Sets.{was_set, was_no_set}
use Rattle.tracing.specs.declared.Running.{Running}
use Rattle.tracing.specs.declared.Trace.{Trace}
use Rattle.tracing.specs.declared.Trace.TheVariants.{Sheet as ASheet, Event, Nothing}
use Rattle.tracing.specs.Sizes.{sheet_digits, sheet_room, event_digits}
use Rattle.tracing.specs.Texts.{refused_text}
use Rattle.tracing.specs.Steps.{Held, State, first, running, stopped, sheet_line, event_line, Steps, counted}
use Rattle.tracing.specs.Steps.{sheet_malformed, sheet_refused, sheet_accepted, event_malformed, event_refused, instant, after_stop}
use Rattle.tracing.specs.Stands.{Holding, Stands, for_first, for_running, for_stopped, Sound}
use Rattle.tracing.specs.Stands.{Prints, Moves, Opens, not_opened, is_opened, Move, step_of, Leads, Does}
use Rattle.std.specs.Prelude.{Option, Some, None}
use Rattle.sets.specs.declared.Entry.{Entry}
use Rattle.sheet.specs.declared.Row.{Row}

-- which state a trace stands for
module _ {move : Move} {r : Trace} {rows rows' : List Row} {statics statics' : List Entry} {p p' : Page} where
  from_first : Leads move first r rows' statics' p p' → Does move ASheet r rows rows' statics statics' p p'
  from_first did = record { from = λ x stands. by_state stands }
    where
      by_state : {x : State} → Stands ASheet rows statics x → Leads move x r rows' statics' p p'
      by_state for_first = did

  from_running : {k : Running} → ((h : Held) → Holding k rows statics h → Leads move (running h) r rows' statics' p p')
      → Does move (Event k) r rows rows' statics statics' p p'
  from_running {k} did = record { from = λ x stands. by_state stands }
    where
      by_state : {x : State} → Stands (Event k) rows statics x → Leads move x r rows' statics' p p'
      by_state (for_running {h = h} held) = did h held

  from_stopped : Leads move stopped r rows' statics' p p' → Does move Nothing r rows rows' statics statics' p p'
  from_stopped did = record { from = λ x stands. by_state stands }
    where
      by_state : {x : State} → Stands Nothing rows statics x → Leads move x r rows' statics' p p'
      by_state for_stopped = did

-- where an event is awaited a program is ready, and the state fits
pub sound_ready : {t : Trace} {k : Running} {rows : List Row} {statics : List Entry} → Sound t rows statics → t ≡ Event k
    → Prepared k.program rows statics × Fitted rows (whole k.state) true
sound_ready {k = k} {rows = rows} {statics = statics} sound is = by_state (rw is at sound.stands)
  where
    by_state : {x : State} → Stands (Event k) rows statics x → Prepared k.program rows statics × Fitted rows (whole k.state) true
    by_state (for_running held) = (record { read = held.read_as; is = held.ready }, held.fit)

-- a line that ends the trace
stops : {x : State} {line text : List ℕ} {r : Trace} {rows' : List Row} {statics' : List Entry} {p p' : Page} → Steps x line stopped text
    → Prints Nothing text r p p'
    → Leads (step_of line) x r rows' statics' p p'
stops did w = record { next = stopped; text = _; moves = did; stands = rw w.awaits for_stopped; written = w.written }

-- a line of more digits is malformed, and the bytes of any other have room
pub too_long : (line : List ℕ) → sheet_digits < length line → sheet_line line ≡ malformed
unfolding sheet_line
too_long line h = rw (lt-leb (length line) sheet_digits h)

-- the sheet's line
module _ (line : List ℕ) {x : Option ℕ} {buffer buffer' : List ℕ} (few : length line ≤ sheet_digits) (long : sheet_room ≤ length buffer)
    (read : Unhexed line x buffer buffer') where
  read_as : {d : Decoded} → bytes_within (length buffer) line ≡ d → sheet_line line ≡ d
  unfolding sheet_line
  read_as e =
      let fits : length line / 2 ≤ length buffer = omega arith in
      rw (le-leb (length line) sheet_digits few) (sym (within line (length buffer) fits) ∙ e)

  these : {n : ℕ} → x ≡ Some n → sheet_line line ≡ bytes (take n buffer')
  these is = read_as (were_bytes (rw is at read))

module _ (line : List ℕ) {r : Trace} {rows rows' : List Row} {statics statics' : List Entry} {p p' : Page} where
  pub first_long : sheet_digits < length line → Prints Nothing bad_text r p p' → Does (step_of line) ASheet r rows rows' statics statics' p p'
  first_long h w = from_first (stops (sheet_malformed (too_long line h)) w)

  module _ {x : Option ℕ} {buffer buffer' : List ℕ} (few : length line ≤ sheet_digits) (long : sheet_room ≤ length buffer)
      (read : Unhexed line x buffer buffer') where
    pub first_bad : x ≡ None → Prints Nothing bad_text r p p' → Does (step_of line) ASheet r rows rows' statics statics' p p'
    first_bad is w = from_first (stops (sheet_malformed (read_as line few long read (were_none (rw is at read)))) w)

    pub first_opened : {n : ℕ} → x ≡ Some n → Opens (take n buffer') r rows' statics' p p' → Does (step_of line) ASheet r rows rows' statics statics' p p'
    first_opened {n} is did = from_first (opened_as did)
      where
        opened_as : Opens (take n buffer') r rows' statics' p p' → Leads (step_of line) first r rows' statics' p p'
        opened_as (not_opened was some w) = stops (sheet_refused (these line few long read is) was some) w
        opened_as (is_opened was none head w held) =
            record {
              next = running _;
              text = _;
              moves = sheet_accepted (these line few long read is) was none head;
              stands = rw w.awaits (for_running held);
              written = w.written;
            }

-- the reactions of the program made ready are those of its sheet
react_of : {s : List ℕ} {w : Sheet} {state event : ℕ} {r : Reaction} → Accepted s w → Once (AcceptedRuns w) state event r
    → Once (ReactedMany s) state event r
react_of was o = record { told = o.told; ran = many_ran was o.ran; is = o.is }

reacted : {k : Running} {rows : List Row} {statics : List Entry} {event : ℕ} {r : Reaction} {h : Held}
    → ProgramReacts k.program rows statics (whole k.state) event r
    → Holding k rows statics h → Once (ReactedMany h.sheet) h.state event r
reacted reacts held = rw held.state (react_of held.accepts (reacts.reacts held.read_as held.ready))

-- an event's line
is_event : (line : List ℕ) {event : Bits} → SetIs (value_of 16 event_digits line) (Some event) → event_line line ≡ Some (whole event)
unfolding event_line
is_event line read = was_set read

module _ {k : Running} (line : List ℕ) {e : Option Bits} (read : SetIs (value_of 16 event_digits line) e) {t : Trace} {rows : List Row} {statics : List Entry}
    {p p' : Page} where
  pub event_bad : e ≡ None → Prints Nothing bad_text t p p' → Does (step_of line) (Event k) t rows rows statics statics p p'
  unfolding event_line
  event_bad is w = from_running (λ h held. stops (event_malformed (was_no_set (rw is at read))) w)

  module _ {event : Bits} (is : e ≡ Some event) {r : Reaction} (reacts : ProgramReacts k.program rows statics (whole k.state) (whole event) r) where
    pub event_no : 0 < r.number → t ≡ Event k → Writes (refused_text r.number r.place) p p'
        → Does (step_of line) (Event k) t rows rows statics statics p p'
    event_no some same w =
        from_running
        (λ h held.
        record {
          next = running h;
          text = _;
          moves = event_refused (is_event line (rw is at read)) (reacted reacts held) some;
          stands = rw same (for_running held);
          written = w;
        })

    pub event_instant : Fitted rows (whole r.state) true → r.number ≡ 0 → Moves k r t p p' → Does (step_of line) (Event k) t rows rows statics statics p p'
    event_instant fit none m =
        from_running
        (λ h held.
        record {
          next = running _;
          text = _;
          moves = instant (is_event line (rw is at read)) (reacted reacts held) none;
          stands =
              rw m.next
              (for_running
              (record {
                read_as = held.read_as;
                accepts = held.accepts;
                ready = held.ready;
                outputs = held.outputs;
                state = refl;
                fit = fit;
                instants = ap counted held.instants;
              }));
          written = rw held.instants (m.written h.inputs h.outputs held.outputs);
        })

-- after a stop nothing is done
pub stopped_step : {t : Trace} (line : List ℕ) {rows : List Row} {statics : List Entry} {p p' : Page} → t ≡ Nothing → Writes [] p p'
    → Does (step_of line) t t rows rows statics statics p p'
stopped_step line is w = rw is (from_stopped (record { next = stopped; text = []; moves = after_stop; stands = for_stopped; written = w }))
