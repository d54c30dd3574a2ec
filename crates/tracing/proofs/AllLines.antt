-- The lines of the bytes at hand, answered one after the other, print what the definition says of all of them.
use Prim.Native.Nat.{ℕ, ◌+◌, ◌*◌, ◌≤◌}
use mathlib.Core.Path.{◌≡◌, refl, sym, ap, ◌∙◌}
use mathlib.Core.Bool.{Bool, true, false}
use mathlib.Core.List.{List, [], ◌∷◌, ◌++◌, append_assoc, append-nil}
use native.Mathlib.Omega.{arith}
use lib.ListN.{length, take, length-append}
use lib.Seq.{take-length}
use Rattle.bits.specs.Bits.{has, whole}
use Rattle.rules.specs.States.{at_rest}
use Rattle.io.specs.Counts.{IsPrefixLen}
use Rattle.io.proofs.Counting.{prefix_len_of_le}
use Rattle.texts.specs.declared.Source.{Source}
use Rattle.texts.specs.declared.Found.TheVariants.{Line, More, End}
use Rattle.texts.specs.declared.Found.{Found}
use Rattle.texts.specs.declared.Next.{Next}
use Rattle.texts.specs.Written.{behind_blanks, row, newline}
use Rattle.texts.specs.declared.Page.{Page}
use Rattle.texts.specs.Puts.{Writes}
use Rattle.texts.specs.Lines.{lines_from, lines_in}
use Rattle.texts.specs.Reads.{at_hand, NextLine, Refilled, Kept}
use Rattle.texts.proofs.Putting.{writes_none, writes_more, same_room}
use Rattle.texts.proofs.Numerals.{decimal_short, hex_short}
use Rattle.texts.proofs.Taking.{LineTaken, NoneTaken, Taken, nothing_kept, remaining, few_remaining, same_ended, fewer, taken}
use Rattle.tracing.specs.declared.Trace.{Trace}
use Rattle.tracing.specs.declared.Trace.TheVariants.{Sheet}
use Rattle.tracing.specs.declared.Fed.{Fed}
use Rattle.tracing.specs.Sizes.{line_room, text_room}
use Rattle.tracing.specs.Texts.{word_line, ok_word, no_word, rest_text, instant_text}
use Rattle.tracing.specs.Steps.{State, first, counted, outputs_in, Steps}
use Rattle.tracing.specs.Steps.{sheet_malformed, sheet_refused, sheet_accepted, event_malformed, event_refused, instant, after_stop}
use Rattle.tracing.specs.Stands.{Columns, Stands, for_first, Sound, step_of, Leads, Does}
use Rattle.tracing.specs.Output.{dashes, begins, Turn, a_step, anew, Printed, no_line, next_line, Answered}
use Rattle.tracing.specs.Feeds.{turn_of, Buffers, Feeds, ReadAnswered}
use Rattle.tracing.proofs.Cut.{cut_turn}
use Rattle.sets.specs.declared.Entry.{Entry}
use Rattle.sheet.specs.declared.Row.{Row}

-- a line's answer
module _ {many : Bool} {t : Trace} {line : List ℕ} {r : Trace} {rows rows' : List Row} {statics statics' : List Entry} {p p' : Page} where
  pub turned_step : begins many line ≡ false → Does (step_of line) t r rows rows' statics statics' p p'
      → Does (turn_of many line) t r rows rows' statics statics' p p'
  turned_step other did =
      record {
        from =
            λ x stands.
            let d = did.from x stands in
            record { next = d.next; text = d.text; moves = a_step other d.moves; stands = d.stands; written = d.written };
      }

  pub turned_anew : begins many line ≡ true → r ≡ Sheet → Writes (dashes ++ (newline ∷ [])) p p'
      → Does (turn_of many line) t r rows rows' statics statics' p p'
  turned_anew is awaits w =
      record { from = λ x stands. record { next = first; text = _; moves = anew is; stands = rw awaits for_first; written = w } }

-- any answer has room in 64 bytes
rest_short : (b : Bool) → length (rest_text b) ≤ 3
unfolding rest_text
rest_short true = omega arith
rest_short false = omega arith

word_short : (word : List ℕ) (a b : ℕ) → length word ≤ 3 → length (word_line word a b) ≤ text_room
unfolding word_line row behind_blanks
word_short word a b h = simp length-append (omega (arith, decimal_short a, decimal_short b))

step_short : {t t' : State} {line text : List ℕ} → Steps t line t' text → length text ≤ text_room
unfolding instant_text
step_short (sheet_malformed is) = omega arith
step_short (sheet_refused {r = r} is was some) = word_short no_word r.number r.place (omega arith)
step_short (sheet_accepted {r = r} is was none head) = word_short ok_word r.statements r.cells (omega arith)
step_short (event_malformed is) = omega arith
step_short (event_refused {r = r} is was some) = word_short no_word r.number r.place (omega arith)
step_short (instant {h = h} {r = r} is was none) =
    let number = decimal_short (counted h.instants) in
    let outputs = hex_short (outputs_in h.inputs h.outputs (whole r.signals)) in
    simp length-append (omega (arith, hex_short (whole r.state), rest_short (at_rest (has (whole r.state)))))
step_short after_stop = omega arith

turn_short : {many : Bool} {t t' : State} {line text : List ℕ} → Turn many t line t' text → length text ≤ text_room
turn_short (a_step other did) = step_short did
turn_short (anew is) = omega arith

pub turned_short : {many : Bool} {x : State} {line : List ℕ} {r : Trace} {rows' : List Row} {statics' : List Entry} {p p' : Page}
    → Leads (turn_of many line) x r rows' statics' p p' → p'.at ≤ p.at + text_room
turned_short did = omega (arith, did.written.puts.past, turn_short did.moves)

-- the texts of some lines, and of those behind them
pub printed_more : {many : Bool} {t t₁ t₂ : State} {a b : List (List ℕ)} {x y : List ℕ} → Printed many t a t₁ x → Printed many t₁ b t₂ y
    → Printed many t (a ++ b) t₂ (x ++ y)
printed_more no_line q = q
printed_more (next_line {text = text} {rest = rest} turn p) q = rw (append_assoc text rest _) (next_line turn (printed_more p q))

-- What holds after some lines: the text of these is there, and the others are those of the bytes that are still at hand.
pub record Feeding (many : Bool) (x : State) (s₀ : Source) (bytes text : List ℕ) (p₀ : Page) (now : Fed)
    (line : List ℕ) (rows : List Row) (statics : List Entry) (p : Page)
    : Type 0 where
  pub done : List (List ℕ)
  pub output : List ℕ
  pub current : List ℕ
  pub reached : State
  pub printed : Printed many x done reached output
  pub stands : Stands now.trace rows statics reached
  pub split : lines_in s₀.ended text (at_hand s₀ bytes) ≡ done ++ lines_in now.source.ended current (at_hand now.source bytes)
  pub left : s₀.ended ≡ false → (lines_from text (at_hand s₀ bytes)).left ≡ (lines_from current (at_hand now.source bytes)).left
  pub kept : Kept current now.source.held line
  pub written : Writes output p₀ p

none_fed : {many : Bool} {x : State} {now : Fed} {bytes : List ℕ} (text : List ℕ) (rows : List Row) (statics : List Entry) (p : Page) {line : List ℕ}
    → p.at ≤ 18446744073709551615 → Stands now.trace rows statics x
    → Kept text now.source.held line → Feeding many x now.source bytes text p now line rows statics p
none_fed text rows statics p small stands k =
    record {
      done = [];
      output = [];
      current = text;
      reached = _;
      printed = no_line;
      stands = stands;
      split = refl;
      left = λ _. refl;
      kept = k;
      written = writes_none p small;
    }

module _ {many : Bool} {x : State} {s₀ : Source} {bytes text : List ℕ} {p₀ : Page} {now : Fed}
    {line : List ℕ} {rows : List Row} {statics : List Entry} {p : Page}
    (f : Feeding many x s₀ bytes text p₀ now line rows statics p) (same : now.source.ended ≡ s₀.ended) where
  -- a line more
  line_fed : {n : ℕ} {s' : Source} {t' : Trace} {line' : List ℕ} {rows' : List Row} {statics' : List Entry} {p' : Page} → length p₀.out.now ≤ 18446744073709551615
      → line_room ≤ length line'
      → s'.ended ≡ now.source.ended → LineTaken now.source bytes f.current n s' line'
      → Does (turn_of many (take n line')) now.trace t' rows rows' statics statics' p p'
      → Feeding many x s₀ bytes text p₀ (record { trace = t'; source = s' }) line' rows' statics' p'
  line_fed {s' = s'} {line' = line'} small enough ended taken turned =
      let did = turned.from f.reached f.stands in
      let turn = cut_turn (length line') taken.whole enough (rw taken.in_buffer at did.moves) in
      record {
        done = f.done ++ (taken.whole ∷ []);
        output = f.output ++ did.text;
        current = [];
        reached = did.next;
        printed = rw (append-nil did.text) at (printed_more f.printed (next_line turn no_line));
        stands = did.stands;
        split =
            f.split ∙ ap (λ (l : List (List ℕ)). f.done ++ l)
            (taken.first ∙ ap (λ (b : Bool). taken.whole ∷ lines_in b [] (at_hand s' bytes)) (sym ended))
            ∙ sym (append_assoc f.done (taken.whole ∷ []) (lines_in s'.ended [] (at_hand s' bytes)));
        left = λ open_ended. f.left open_ended ∙ taken.left (same ∙ open_ended);
        kept = rw taken.none_held (nothing_kept line');
        written = writes_more small f.written did.written;
      }

  -- no line more
  all_fed : {s' : Source} {line' : List ℕ} → NoneTaken now.source bytes f.current s' line' → s'.ended ≡ now.source.ended
      → Feeds many x s₀ bytes text (record { trace = now.trace; source = s' }) rows statics line' p₀ p
  all_fed none ended =
      record {
        next = f.reached;
        output = f.output;
        printed = rw (f.split, none.none, append-nil f.done) f.printed;
        stands = f.stands;
        written = f.written;
        kept = λ more. rw (f.left more) (none.kept (same ∙ more));
        same_end = ended ∙ same;
      }

-- What holds when the loop over the lines is reached: the buffers keep their lengths, what is still at hand has room, and the trace
-- stands for some state.
pub record Rounds (many : Bool) (from : Fed) (bytes line₀ : List ℕ) (rows₀ : List Row) (statics₀ : List Entry) (p₀ : Page) (now : Fed)
    (line : List ℕ) (rows : List Row) (statics : List Entry) (p : Page) : Type 0 where
  pub long_line : length line ≡ length line₀
  pub long_rows : length rows ≡ length rows₀
  pub long_statics : length statics ≡ length statics₀
  pub long_out : length p.out.now ≡ length p₀.out.now
  pub same_buffer : p.out.ghost_name ≡ p₀.out.ghost_name
  pub same_end : now.source.ended ≡ from.source.ended
  pub few : p.at + text_room * remaining now.source bytes ≤ p₀.at + text_room * remaining from.source bytes
  pub sound : Sound now.trace rows statics
  pub fed : (x : State) (text : List ℕ) → Stands from.trace rows₀ statics₀ x → Kept text from.source.held line₀
      → Feeding many x from.source bytes text p₀ now line rows statics p

pub no_round : (many : Bool) (from : Fed) (bytes line : List ℕ) (rows : List Row) (statics : List Entry) (p : Page) → p.at ≤ 18446744073709551615
    → Sound from.trace rows statics → Rounds many from bytes line rows statics p from line rows statics p
no_round many from bytes line rows statics p small sound =
    record {
      long_line = refl;
      long_rows = refl;
      long_statics = refl;
      long_out = refl;
      same_buffer = refl;
      same_end = refl;
      few = omega arith;
      sound = sound;
      fed = λ x text stands k. none_fed text rows statics p small stands k;
    }

module _ {many : Bool} {from : Fed} {bytes line₀ : List ℕ} {rows₀ : List Row} {statics₀ : List Entry} {p₀ : Page} {now : Fed}
    {line : List ℕ} {rows : List Row} {statics : List Entry} {p : Page} (r : Rounds many from bytes line₀ rows₀ statics₀ p₀ now line rows statics p) where
  -- the columns are as long as they were
  pub columns_still : Columns rows₀ statics₀ → Columns rows statics
  columns_still c =
      record {
        rows_long = omega (arith, r.long_rows, c.rows_long);
        statics_long = omega (arith, r.long_rows, r.long_statics, c.statics_long);
      }

module _ {many : Bool} {from : Fed} {bytes line₀ : List ℕ} {rows₀ : List Row} {statics₀ : List Entry} {p₀ : Page} {now : Fed}
    {line : List ℕ} {rows : List Row} {statics : List Entry} {p : Page}
    (r : Rounds many from bytes line₀ rows₀ statics₀ p₀ now line rows statics p) {n : Next} {line' : List ℕ}
    (looked : NextLine now.source bytes n line line') (small : length line₀ ≤ 18446744073709551615) where
  -- a line more
  pub round : {len : ℕ} {t' : Trace} {rows' : List Row} {statics' : List Entry} {p' : Page} → n.found ≡ Line len → line_room ≤ length line₀
      → length p₀.out.now ≤ 18446744073709551615
      → length line' ≡ length line → length rows' ≡ length rows → length statics' ≡ length statics
      → Does (turn_of many (take len line')) now.trace t' rows rows' statics statics' p p'
      → Rounds many from bytes line₀ rows₀ statics₀ p₀ (record { trace = t'; source = n.source }) line' rows' statics' p'
  round {len} {t'} {rows'} {statics'} {p'} is enough short same_line same_rows same_statics turned =
      let ended = same_ended looked in
      let did = turned.from r.sound.state r.sound.stands in
      record {
        long_line = same_line ∙ r.long_line;
        long_rows = same_rows ∙ r.long_rows;
        long_statics = same_statics ∙ r.long_statics;
        long_out = same_room did.written ∙ r.long_out;
        same_buffer = did.written.same_buffer ∙ r.same_buffer;
        same_end = ended ∙ r.same_end;
        few = omega (arith, r.few, turned_short did, fewer looked is);
        sound = record { state = did.next; stands = did.stands };
        fed = λ x text stands k. more (r.fed x text stands k);
      }
    where
      more : {x : State} {text : List ℕ} → Feeding many x from.source bytes text p₀ now line rows statics p
          → Feeding many x from.source bytes text p₀ (record { trace = t'; source = n.source }) line' rows' statics' p'
      more f =
          let first = rw is at (taken looked f.current (omega (arith, r.long_line)) f.kept) in
          line_fed f r.same_end short (omega (arith, r.long_line)) (same_ended looked) first turned

  -- no line more
  none_taken : (found : Found) → n.found ≡ found → ((len : ℕ) → found ≡ Line len → ⊥) → (text : List ℕ) → Taken now.source bytes text n line' found
      → NoneTaken now.source bytes text n.source line'
  none_taken (Line len) is other text t = absurd (other len refl)
  none_taken More is other text t = t
  none_taken End is other text t = t

  pub rounds_end : ((len : ℕ) → n.found ≡ Line len → ⊥) → (y : State) (text : List ℕ) → Stands from.trace rows₀ statics₀ y
      → Kept text from.source.held line₀
      → Feeds many y from.source bytes text (record { trace = now.trace; source = n.source }) rows statics line' p₀ p
  rounds_end other y text stands k =
      let f = r.fed y text stands k in
      let none = none_taken n.found refl other f.current (taken looked f.current (omega (arith, r.long_line)) f.kept) in
      all_fed f r.same_end none (same_ended looked)

  pub counted_text : p₀.at + text_room * (length bytes + 1) ≤ length p₀.out.now → IsPrefixLen p.at p.out.now
  counted_text room = prefix_len_of_le p.at p.out.now (omega (arith, r.few, r.long_out, few_remaining from.source bytes))

-- the buffers are as long as they were
pub buffers_still : {line₀ : List ℕ} {rows₀ : List Row} {statics₀ : List Entry} {line : List ℕ} {rows : List Row} {statics : List Entry} → Buffers line₀ rows₀ statics₀ → length line ≡ length line₀
    → length rows ≡ length rows₀
    → length statics ≡ length statics₀ → Buffers line rows statics
buffers_still b l r s =
    record {
      line_long = omega (arith, b.line_long);
      columns = record { rows_long = omega (arith, b.columns.rows_long); statics_long = omega (arith, b.columns.statics_long) };
    }

-- before the first line
pub sound_first : {rows : List Row} {statics : List Entry} → Sound Sheet rows statics
sound_first = record { state = first; stands = for_first }

-- one read, and its lines
pub read_answered : {many : Bool} {from r : Fed} {source : Source} {bytes line line' : List ℕ} {rows rows' : List Row} {statics statics' : List Entry} {p p' : Page}
    → Refilled from.source source bytes
    → ((x : State) (text : List ℕ) → Stands from.trace rows statics x → Kept text source.held line
    → Feeds many x source bytes text r rows' statics' line' (record p { at = 0 }) p')
    → ReadAnswered many from r bytes line line' rows rows' statics statics' p p'
read_answered {source = source} refilled fed =
    let same = ap (λ (x : Source). x.held) refilled.answer in
    record { source = source; refilled = refilled; fed = λ x text stands k. fed x text stands (rw same k) }

-- all bytes at once
pub all_answered : {input : List ℕ} {s : Source} {r : Fed} {line' : List ℕ} {rows' : List Row} {statics' : List Entry} {p p' : Page} {out out' : List ℕ} {n : ℕ}
    → s ≡ record { from = 0; end = length input; held = 0; ended = true } → p.at ≡ 0 → p.out.now ≡ out → p'.out.now ≡ out' → p'.at ≡ n
    → Feeds false first s input [] r rows' statics' line' p p' → Answered input n out out'
unfolding at_hand
all_answered {input} is begun lent left place f =
    record {
      output = f.output;
      traced = record { last = f.next; printed = rw (is, take-length input) at f.printed };
      written = rw (begun, lent, left, place) at f.written.puts;
    }
