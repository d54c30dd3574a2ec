-- INSTANT, TWICE and ROOM of a sheet that was read: what the walks over its rows answer makes the definition's answer.
use mathlib.Core.Path.{◌≡◌, refl, sym, ◌∙◌, subst}
use mathlib.Core.Bool.{Bool, true, false}
use mathlib.Core.List.{List}
use Prim.Native.Nat.{ℕ, ◌≤◌}
use native.Mathlib.Omega.{arith}
use lib.ListN.{length}
use Rattle.number.specs.declared.Refusal.TheVariants.{Instant, Twice}
use Rattle.number.specs.declared.StmtNo.{StmtNo}
use Rattle.number.specs.Counts.{stmt_no, of_stmt, halt_no}
use Rattle.number.specs.Number.{pick}
use Rattle.number.specs.Refusals.{fault}
use Rattle.limits.specs.Limits.{max_statements, many_cells}
use Rattle.sheet.specs.declared.Counts.{Counts}
use Rattle.sheet.specs.Stmt.{Stmt}
use Rattle.sheet.specs.Read.{Sheet}
use Rattle.sheet.proofs.Notions.{proper_exits}
use Rattle.sets.specs.declared.Both.{Both}
use Rattle.sets.specs.declared.Entry.{Entry}
use Rattle.sets.specs.Faults.{instant, twice}
use Rattle.sets.specs.Words.{Stands, Kept, Filled}
use Rattle.sets.proofs.Bounds.{exits_low}
use Rattle.sets.proofs.Columns.{kept_filled}
use Rattle.builder.specs.Netlist.{sheet_netlist}
use Rattle.builder.specs.Contract.{OfSheet, SomeSheet, room_for, Whole, DoesNetlist}
use Rattle.compiler.specs.Check.{unless, roomy, judged}
use Rattle.compiler.specs.Compile.{ReadAs, built_of, Judges}
use Rattle.compiler.proofs.Passing.{faulty_sheet}
use Rattle.number.specs.declared.Fault.{Fault}
use Rattle.std.specs.Prelude.{Option, Some, None, Result, Err}
use Rattle.sheet.specs.declared.Row.{Row}

abbrev root : StmtNo
root = stmt_no 0

-- ROOM answers as the builder does
room_answer : (w : Sheet) → room_for (length (sheet_netlist w)) ≡ built_of (roomy w)
unfolding room_for roomy built_of pick
room_answer w = cases (many_cells (length (sheet_netlist w))) refl
  where
    cases : (b : Bool) → many_cells (length (sheet_netlist w)) ≡ b → room_for (length (sheet_netlist w)) ≡ built_of (roomy w)
    cases true e = rw e
    cases false e = rw e

module _ {rows : List Row} {c : Counts} {w : Sheet} (is : ReadAs rows c w) where
  pub stands : Stands rows root
  stands = record { first = halt_no 0; stmt = w.root; holds = is.holds; small = omega (arith, is.proper.statements); low = exits_low 0 w.root (omega arith) (proper_exits is.proper) }

  -- the column that was filled has the sheet's K and R
  filled_keeps : {b : Both} {before after : List Entry} → max_statements ≤ length before
      → ((s : Stands rows root) → Filled root s.stmt b before after)
      → Kept after root w.root
  unfolding stands
  filled_keeps {before = before} room fills =
      subst (λ (l : List Entry). Kept l root w.root) (sym (fills stands).column) (kept_filled before root w.root (omega (arith, is.proper.statements)))

  of_sheet : {ms : List Entry} → Kept ms root w.root → OfSheet rows ms c.inputs c.signals w.outputs w.root
  of_sheet kept = record { proper = rw is.counts is.proper; signals = rw is.counts; holds = is.holds; kept = kept }

  module _ {before after : List Entry} {b : Both} (room : max_statements ≤ length before) (fills : (s : Stands rows root) → Filled root s.stmt b before after) where
    kept : Kept after root w.root
    kept = filled_keeps room fills

    pub some_sheet : SomeSheet rows after c.inputs c.signals
    some_sheet = record { outputs = w.outputs; stmt = w.root; is = of_sheet kept }

    -- a walk that asks for K and R in their column answers for the sheet's statement
    answered : {r : Option StmtNo} (f : StmtNo → Stmt → Option StmtNo) → ((s : Stands rows root) → Kept after root s.stmt → r ≡ f root s.stmt)
        → r ≡ f root w.root
    unfolding stands
    answered f says = says stands kept

    module _ {cells cells' : List ℕ} where
      pub judges_instant : {r : Option StmtNo} {n : StmtNo} → ((s : Stands rows root) → Kept after root s.stmt → r ≡ instant root s.stmt) → r ≡ Some n
          → Judges w (Err (fault Instant (of_stmt n))) after cells cells'
      unfolding judged unless built_of
      judges_instant says found =
          let at = sym (answered instant says) ∙ found in
          record { answer = rw at; kept = kept; stored = λ e. faulty_sheet (rw at at e) }

      pub judges_twice : {q r : Option StmtNo} {n : StmtNo} → ((s : Stands rows root) → Kept after root s.stmt → q ≡ instant root s.stmt) → q ≡ None
          → ((s : Stands rows root) → Kept after root s.stmt → r ≡ twice root s.stmt) → r ≡ Some n
          → Judges w (Err (fault Twice (of_stmt n))) after cells cells'
      unfolding judged unless built_of
      judges_twice before clear says found =
          let no_instant = sym (answered instant before) ∙ clear in
          let at = sym (answered twice says) ∙ found in
          record { answer = rw (no_instant, at); kept = kept; stored = λ e. faulty_sheet (rw (no_instant, at) at e) }

      pub judges_room : {p q : Option StmtNo} {r : Result ℕ Fault} → ((s : Stands rows root) → Kept after root s.stmt → p ≡ instant root s.stmt)
          → p ≡ None
          → ((s : Stands rows root) → Kept after root s.stmt → q ≡ twice root s.stmt) → q ≡ None
          → DoesNetlist rows after c.inputs c.signals cells cells' r → Judges w r after cells cells'
      unfolding judged unless
      judges_room {r = r} instants no_instant twices no_twice built =
          let whole : Whole (sheet_netlist w) cells cells' r = rw is.counts at (built.does w.outputs w.root (of_sheet kept)) in
          record {
            answer = whole.answer ∙ room_answer w ∙ rw (sym (answered instant instants) ∙ no_instant, sym (answered twice twices) ∙ no_twice);
            kept = kept;
            stored = λ e. whole.stored;
          }
