-- A line that is cut behind its 2,049th byte makes the step of the whole line: both are malformed.
use Prim.Native.Nat.{ℕ, ◌≤◌, ◌<◌}
use mathlib.Core.Path.{◌≡◌, refl, sym, ap, ◌∙◌}
use mathlib.Core.Bool.{Bool, true, false, ◌&&◌}
use mathlib.Core.List.{List}
use native.Mathlib.Omega.{arith}
use borrow.Author.Tests.{leb-true, leb-false}
use lib.Dec.{leb}
use lib.ListN.{length, take, length-take}
use lib.Seq.{take_all}
use Rattle.texts.specs.Words.{same}
use Rattle.texts.proofs.Values.{many_bad}
use Rattle.texts.proofs.Comparing.{longer_other}
use Rattle.tracing.specs.Sizes.{sheet_digits, event_digits, line_room}
use Rattle.tracing.specs.Steps.{State, sheet_line, event_line, Steps}
use Rattle.tracing.specs.Steps.{sheet_malformed, sheet_refused, sheet_accepted, event_malformed, event_refused, instant, after_stop}
use Rattle.tracing.specs.Output.{dashes, Turn, a_step, anew}
use Rattle.tracing.proofs.Stepping.{too_long}

-- both lines are read alike
record Alike (room : ℕ) (line : List ℕ) : Type 0 where
  sheet_alike : sheet_line (take room line) ≡ sheet_line line
  event_alike : event_line (take room line) ≡ event_line line
  dashes_alike : same (take room line) dashes ≡ same line dashes

by_length : (room : ℕ) (line : List ℕ) → line_room ≤ room → (b : Bool) → leb (length line) sheet_digits ≡ b → Alike room line
unfolding event_line
by_length room line enough true is =
    let few = leb-true (length line) sheet_digits is in
    let whole : take room line ≡ line = take_all room line (omega arith) in
    record {
      sheet_alike = ap sheet_line whole;
      event_alike = ap event_line whole;
      dashes_alike = ap (λ (l : List ℕ). same l dashes) whole;
    }
by_length room line enough false is =
    let long : sheet_digits < length line = leb-false (length line) sheet_digits is in
    let long' : sheet_digits < length (take room line) = rw length-take (omega arith) in
    record {
      sheet_alike = too_long (take room line) long' ∙ sym (too_long line long);
      event_alike = sym (many_bad 16 event_digits (take room line) (omega arith)) ∙ many_bad 16 event_digits line (omega arith);
      dashes_alike = longer_other (take room line) dashes (omega arith) ∙ sym (longer_other line dashes (omega arith));
    }

module _ (room : ℕ) (line : List ℕ) (enough : line_room ≤ room) where
  alike : Alike room line
  alike = by_length room line enough (leb (length line) sheet_digits) refl

  cut_line : {t t' : State} {text : List ℕ} → Steps t (take room line) t' text → Steps t line t' text
  cut_line (sheet_malformed is) = sheet_malformed (sym alike.sheet_alike ∙ is)
  cut_line (sheet_refused is was some) = sheet_refused (sym alike.sheet_alike ∙ is) was some
  cut_line (sheet_accepted is was none head) = sheet_accepted (sym alike.sheet_alike ∙ is) was none head
  cut_line (event_malformed is) = event_malformed (sym alike.event_alike ∙ is)
  cut_line (event_refused is was some) = event_refused (sym alike.event_alike ∙ is) was some
  cut_line (instant is was none) = instant (sym alike.event_alike ∙ is) was none
  cut_line after_stop = after_stop

  pub cut_turn : {many : Bool} {t t' : State} {text : List ℕ} → Turn many t (take room line) t' text → Turn many t line t' text
  cut_turn {many} (a_step other did) = a_step (sym (ap (λ (b : Bool). many && b) alike.dashes_alike) ∙ other) (cut_line did)
  cut_turn {many} (anew is) = anew (sym (ap (λ (b : Bool). many && b) alike.dashes_alike) ∙ is)
