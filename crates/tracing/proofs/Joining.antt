-- Several reads: their texts, one behind the other, are the output for all their bytes.
use Prim.Native.Nat.{ℕ}
use mathlib.Core.Path.{◌≡◌, refl, subst}
use mathlib.Core.Bool.{Bool, true, false}
use mathlib.Core.List.{List, [], ◌∷◌, ◌++◌, append-nil}
use Rattle.texts.specs.declared.Source.{Source}
use Rattle.texts.specs.Lines.{lines_from, lines_in}
use Rattle.texts.specs.Reads.{at_hand}
use Rattle.texts.proofs.Cutting.{read_on}
use Rattle.texts.specs.declared.Page.{Page}
use Rattle.tracing.specs.declared.Fed.{Fed}
use Rattle.tracing.specs.Steps.{State, first, stopped, after_stop}
use Rattle.tracing.specs.Output.{Printed, no_line, next_line, a_step, Traced}
use Rattle.tracing.specs.Feeds.{Feeds, InReads, last_read, read_more, stopped_there, all_read}
use Rattle.tracing.proofs.AllLines.{printed_more}
use Rattle.sets.specs.declared.Entry.{Entry}
use Rattle.sheet.specs.declared.Row.{Row}

-- after a stop no line prints anything
silent : (lines : List (List ℕ)) → Printed false stopped lines stopped []
silent [] = no_line
silent (line ∷ lines) = next_line (a_step refl after_stop) (silent lines)

-- the lines of all bytes print what the reads do
pub record PrintsAll (t : State) (held bytes output : List ℕ) : Type 0 where
  pub last : State
  pub printed : Printed false t (lines_in true held bytes) last output

prints_all : {t : State} {held : List ℕ} {reads : List (List ℕ)} {output : List ℕ} → InReads t held reads output
    → PrintsAll t held (all_read reads) output
unfolding all_read
prints_all (last_read {u = u} {bytes = bytes} p) = record { last = u; printed = rw (append-nil bytes) p }
prints_all (read_more {held = held} {bytes = bytes} {reads = reads} p q) =
    let rest = prints_all q in
    record { last = rest.last; printed = rw (read_on true held bytes (all_read reads)) (printed_more p rest.printed) }
prints_all (stopped_there {held = held} {bytes = bytes} {text = text} {reads = reads} p) =
    let behind = lines_in true (lines_from held bytes).left (all_read reads) in
    record {
      last = stopped;
      printed = rw (read_on true held bytes (all_read reads)) (rw (append-nil text) at (printed_more p (silent behind)));
    }

pub all_reads : {reads : List (List ℕ)} {output : List ℕ} → InReads first [] reads output → Traced (all_read reads) output
all_reads r = let all = prints_all r in record { last = all.last; printed = all.printed }

-- what `feed` ensures is such a read: the last, or one more
module _ {x : State} {s : Source} {bytes text : List ℕ} {r : Fed} {rows' : List Row} {statics' : List Entry} {line' : List ℕ} {p p' : Page}
    (f : Feeds false x s bytes text r rows' statics' line' p p') where
  printed_so : {b : Bool} → s.ended ≡ b → Printed false x (lines_in b text (at_hand s bytes)) f.next f.output
  printed_so is = subst (λ (b : Bool). Printed false x (lines_in b text (at_hand s bytes)) f.next f.output) is f.printed

  pub fed_last : s.ended ≡ true → InReads x text (at_hand s bytes ∷ []) f.output
  fed_last ends = last_read (printed_so ends)

  pub fed_more : {reads : List (List ℕ)} {rest : List ℕ} → s.ended ≡ false
      → InReads f.next (lines_from text (at_hand s bytes)).left reads rest → InReads x text (at_hand s bytes ∷ reads) (f.output ++ rest)
  fed_more more rest = read_more (printed_so more) rest

  pub fed_stopped : {reads : List (List ℕ)} → s.ended ≡ false → f.next ≡ stopped → InReads x text (at_hand s bytes ∷ reads) f.output
  fed_stopped more stops =
      stopped_there (subst (λ (u : State). Printed false x (lines_in false text (at_hand s bytes)) u f.output) stops (printed_so more))
