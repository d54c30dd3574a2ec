-- Nothing else satisfies the description: a state and a line have one state and one text that follow, and an input has one output.
use Prim.Native.Nat.{ℕ}
use mathlib.Core.Path.{◌≡◌, refl, sym, ap, ap₂, ◌∙◌}
use mathlib.Core.Bool.{Bool, false}
use mathlib.Core.List.{List, [], ◌∷◌, ◌++◌}
use native.Mathlib.Omega.{arith}
use Rattle.sheet.specs.Read.{sheet}
use Rattle.verdicts.specs.declared.Answer.{Answer}
use Rattle.verdicts.specs.declared.Reaction.{Reaction}
use Rattle.verdicts.specs.Runs.{Once}
use Rattle.sheet_entries.specs.Sheets.{Checked, ReactedMany}
use Rattle.sheet_entries.proofs.OneSheetAnswer.{one_checked, one_reacted}
use Rattle.texts.specs.Bytes.{bytes, malformed}
use Rattle.texts.proofs.Truth.{true_false}
use Rattle.texts.specs.declared.Page.{Page}
use Rattle.tracing.specs.declared.Trace.{Trace}
use Rattle.tracing.specs.Steps.{State, first, running, stopped, sheet_line, event_line, Headed, opened, moved, instant_of, Steps}
use Rattle.tracing.specs.Steps.{sheet_malformed, sheet_refused, sheet_accepted, event_malformed, event_refused, instant, after_stop}
use Rattle.tracing.specs.Stands.{Stands, step_of, Does}
use Rattle.tracing.specs.Texts.{ok_text, refused_text}
use Rattle.tracing.specs.Output.{Turn, a_step, anew, Printed, no_line, next_line, Traced, Answered}
use Rattle.std.specs.Prelude.{Some, None}
use Rattle.sets.specs.declared.Entry.{Entry}
use Rattle.sheet.specs.declared.Row.{Row}

pub record SameStep (t t' : State) (x x' : List ℕ) : Type 0 where
  pub state : t ≡ t'
  pub text : x ≡ x'

same : {t : State} {text : List ℕ} → SameStep t t text text
same = record { state = refl; text = refl }

-- a line is bytes or malformed, and not both
module _ {A : Type 0} (line : List ℕ) where
  not_both : {s : List ℕ} → sheet_line line ≡ malformed → sheet_line line ≡ bytes s → A
  not_both a b = let z : ◌≡◌ {A = ℕ} 0 1 = cc in absurd (omega arith)

  no_event : {event : ℕ} → event_line line ≡ None → event_line line ≡ Some event → A
  no_event a b = let z : ◌≡◌ {A = ℕ} 0 1 = cc in absurd (omega arith)

-- the sheet and its check
record SameSheet (s s' : List ℕ) (r r' : Answer) : Type 0 where
  bytes_same : s ≡ s'
  answer_same : r ≡ r'

same_sheet : (line : List ℕ) {s s' : List ℕ} {r r' : Answer} → sheet_line line ≡ bytes s → sheet_line line ≡ bytes s' → Checked s r
    → Checked s' r'
    → SameSheet s s' r r'
same_sheet line {s} {s'} a b c d =
    let both : bytes s ≡ bytes s' = sym a ∙ b in
    let is : s ≡ s' = cc in
    record { bytes_same = is; answer_same = one_checked s c (rw (sym is) at d) }

-- the sheet's numbers
same_opened : {s s' : List ℕ} {I I' O O' : ℕ} → s ≡ s' → Headed s I O → Headed s' I' O' → opened s I O ≡ opened s' I' O'
same_opened {s} {s'} {I} {I'} {O} {O'} is a b =
    let read : sheet a.read_as ≡ sheet b.read_as = sym a.is ∙ rw is b.is in
    let one : a.read_as ≡ b.read_as = cc in
    let inputs : I ≡ I' = a.inputs_are ∙ rw one (sym b.inputs_are) in
    let outputs : O ≡ O' = a.outputs_are ∙ rw one (sym b.outputs_are) in
    rw (is, inputs, outputs)

-- a reaction to an event
same_reaction : (line : List ℕ) {s : List ℕ} {state event event' : ℕ} {r r' : Reaction} → event_line line ≡ Some event
    → event_line line ≡ Some event'
    → Once (ReactedMany s) state event r → Once (ReactedMany s) state event' r' → r ≡ r'
same_reaction line {s} {state} {event} {event'} a b c d =
    let both : Some event ≡ Some event' = sym a ∙ b in
    let is : event ≡ event' = cc in
    one_reacted s state event c (rw (sym is) at d)

pub one_step : (t : State) {line : List ℕ} {u v : State} {x y : List ℕ} → Steps t line u x → Steps t line v y → SameStep u v x y
one_step first {line} (sheet_malformed a) (sheet_malformed b) = same
one_step first {line} (sheet_malformed a) (sheet_refused b d q) = not_both line a b
one_step first {line} (sheet_malformed a) (sheet_accepted b d q e) = not_both line a b
one_step first {line} (sheet_refused a c p) (sheet_malformed b) = not_both line b a
one_step first {line} (sheet_refused a c p) (sheet_refused b d q) =
    let one = same_sheet line a b c d in
    record { state = refl; text = ap (λ (r : Answer). refused_text r.number r.place) one.answer_same }
one_step first {line} (sheet_refused a c p) (sheet_accepted b d q e) =
    let one = same_sheet line a b c d in
    absurd (omega (arith, ap (λ (r : Answer). r.number) one.answer_same))
one_step first {line} (sheet_accepted a c p h) (sheet_malformed b) = not_both line b a
one_step first {line} (sheet_accepted a c p h) (sheet_refused b d q) =
    let one = same_sheet line a b c d in
    absurd (omega (arith, ap (λ (r : Answer). r.number) one.answer_same))
one_step first {line} (sheet_accepted a c p h) (sheet_accepted b d q e) =
    let one = same_sheet line a b c d in
    record {
      state = ap running (same_opened one.bytes_same h e);
      text = ap (λ (r : Answer). ok_text r.statements r.cells) one.answer_same;
    }
one_step (running h) {line} (event_malformed a) (event_malformed b) = same
one_step (running h) {line} (event_malformed a) (event_refused b d q) = no_event line a b
one_step (running h) {line} (event_malformed a) (instant b d q) = no_event line a b
one_step (running h) {line} (event_refused a c p) (event_malformed b) = no_event line b a
one_step (running h) {line} (event_refused a c p) (event_refused b d q) =
    record { state = refl; text = ap (λ (r : Reaction). refused_text r.number r.place) (same_reaction line a b c d) }
one_step (running h) {line} (event_refused a c p) (instant b d q) =
    absurd (omega (arith, ap (λ (r : Reaction). r.number) (same_reaction line a b c d)))
one_step (running h) {line} (instant a c p) (event_malformed b) = no_event line b a
one_step (running h) {line} (instant a c p) (event_refused b d q) =
    absurd (omega (arith, ap (λ (r : Reaction). r.number) (same_reaction line a b c d)))
one_step (running h) {line} (instant a c p) (instant b d q) =
    let one = same_reaction line a b c d in
    record { state = ap (λ (r : Reaction). running (moved h r)) one; text = ap (instant_of h) one }
one_step stopped after_stop after_stop = same

-- so the contract of a step leaves open only how the code keeps its state: two answers stand for one state, and place and buffer are the
-- same
pub record SameAnswer (r r' : Trace) (rows : List Row) (statics : List Entry) (rows' : List Row) (statics' : List Entry) (p p' : Page) : Type 0 where
  pub state : State
  pub one : Stands r rows statics state
  pub other : Stands r' rows' statics' state
  pub place : p.at ≡ p'.at
  pub buffer : p.out.now ≡ p'.out.now

pub one_stepped : {t : Trace} (x : State) (line : List ℕ) {rows : List Row} {statics : List Entry} {p : Page} {r r' : Trace}
    {rows₁ rows₂ : List Row} {statics₁ statics₂ : List Entry} {p₁ p₂ : Page}
    → Stands t rows statics x → Does (step_of line) t r rows rows₁ statics statics₁ p p₁
    → Does (step_of line) t r' rows rows₂ statics statics₂ p p₂ → SameAnswer r r' rows₁ statics₁ rows₂ statics₂ p₁ p₂
one_stepped x line stands a b =
    let did = a.from x stands in
    let does = b.from x stands in
    let one = one_step x did.moves does.moves in
    record {
      state = did.next;
      one = did.stands;
      other = rw one.state does.stands;
      place = did.written.puts.past ∙ rw one.text (sym does.written.puts.past);
      buffer = did.written.puts.laid ∙ rw one.text (sym does.written.puts.laid);
    }

one_turn : (many : Bool) (t : State) {line : List ℕ} {u v : State} {x y : List ℕ} → Turn many t line u x → Turn many t line v y
    → SameStep u v x y
one_turn many t (a_step other a) (a_step other' b) = one_step t a b
one_turn many t (a_step other a) (anew is) = true_false (sym is ∙ other)
one_turn many t (anew is) (a_step other b) = true_false (sym is ∙ other)
one_turn many t (anew is) (anew is') = same

pub one_printed : (many : Bool) (t : State) (lines : List (List ℕ)) {u v : State} {x y : List ℕ} → Printed many t lines u x
    → Printed many t lines v y
    → SameStep u v x y
one_printed many t [] no_line no_line = same
one_printed many t (line ∷ lines) (next_line {t₁ = u} a p) (next_line b q) =
    let one = one_turn many t a b in
    let rest = one_printed many u lines p (rw (sym one.state) at q) in
    record { state = rest.state; text = ap₂ (λ (x y : List ℕ). x ++ y) one.text rest.text }

-- the whole output of an input
pub one_output : (input : List ℕ) {x y : List ℕ} → Traced input x → Traced input y → x ≡ y
one_output input a b = (one_printed false first _ a.printed b.printed).text

-- the contract of the whole trace leaves nothing open
pub one_answer : (input : List ℕ) {n n' : ℕ} {out out₁ out₂ : List ℕ} → Answered input n out out₁ → Answered input n' out out₂
    → (n ≡ n') × (out₁ ≡ out₂)
one_answer input a b =
    let one = one_output input a.traced b.traced in
    (a.written.past ∙ rw one (sym b.written.past), a.written.laid ∙ rw one (sym b.written.laid))
