-- A sheet is accepted exactly where its two numbers, its statement and its end are read so.
use mathlib.Core.Path.{◌≡◌, refl, subst}
use mathlib.Core.Bool.{Bool, true, false}
use mathlib.Core.List.{List}
use Prim.Native.Nat.{ℕ, ◌+◌, ◌≤◌}
use native.Mathlib.Omega.{arith}
use lib.Dec.{ltb}
use lib.ListN.{length}
use borrow.Author.Tests.{ltb-false, le-ltb}
use Rattle.number.specs.declared.Cursor.{Cursor}
use Rattle.number.specs.declared.Fault.{Fault}
use Rattle.number.specs.declared.Refusal.TheVariants.{Count, Extra}
use Rattle.number.specs.Counts.{stmt_no}
use Rattle.number.specs.Number.{number_at, pick}
use Rattle.number.specs.Refusals.{fault}
use Rattle.limits.specs.Limits.{max_level, max_signals, many_signals}
use Rattle.sheet.specs.declared.Marks.{Marks}
use Rattle.sheet.specs.Stmt.{Stmt}
use Rattle.sheet.specs.Read.{Outcome, got, refused, read_stmt, root_around, root_marks}
use Rattle.sheet.specs.Read.{Sheet, sheet, faulty, ended, root_read, after_outputs, after_inputs, read_sheet}
use Rattle.std.specs.Prelude.{Result, Ok, Err}

-- what the sheet w was read from: a and b are past its numbers, m past its statement
pub record SheetIs (s : List ℕ) (i o : ℕ) (t : Stmt) : Type 0 where
  pub a : Cursor
  pub b : Cursor
  pub m : Marks
  pub inputs : number_at s 0 ≡ Ok (i, a)
  pub outputs : number_at s a.at ≡ Ok (o, b)
  pub header : 1 + i + o ≤ max_signals
  pub root : read_stmt max_level s (root_around i o) (stmt_no 0) (root_marks b.at i o) ≡ got t m
  pub end : length s ≤ m.at

abbrev pub sheet_of : ℕ → ℕ → Stmt → Sheet
sheet_of i o t = record { inputs = i; outputs = o; root = t }

-- so read, it is accepted
pub sheet_is : (s : List ℕ) (i o : ℕ) (t : Stmt) → SheetIs s i o t → read_sheet s ≡ sheet (sheet_of i o t)
unfolding read_sheet after_inputs after_outputs root_read ended pick
sheet_is s i o t r =
    let fits = le-ltb max_signals (1 + i + o) r.header in
    let whole = le-ltb r.m.at (length s) r.end in
    rw r.inputs (rw r.outputs (rw fits (rw r.root (rw whole))))

-- and nothing else is
module _ (s : List ℕ) (w : Sheet) where
  abbrev Is : Type 0
  Is = SheetIs s w.inputs w.outputs w.root

  faulted : {A : Type 0} (f : Fault) → faulty f ≡ sheet w → A
  faulted f q = let absurdity : ◌≡◌ {A = ℕ} 0 1 = cc in absurd (omega arith)

  module _ (i : ℕ) (a : Cursor) (inputs : number_at s 0 ≡ Ok (i, a)) where
    module _ (o : ℕ) (b : Cursor) (outputs : number_at s a.at ≡ Ok (o, b)) (header : 1 + i + o ≤ max_signals) where
      end_is : (r : Outcome) → read_stmt max_level s (root_around i o) (stmt_no 0) (root_marks b.at i o) ≡ r → ended s i o r ≡ sheet w → Is
      unfolding ended pick
      end_is (refused f) root q = faulted f q
      end_is (got t m) root q = go (ltb m.at (length s)) refl q
        where
          is : length s ≤ m.at → SheetIs s i o t
          is end = record { a = a; b = b; m = m; inputs = inputs; outputs = outputs; header = header; root = root; end = end }

          go : (x : Bool) → ltb m.at (length s) ≡ x → pick x (faulty (fault Extra m.at)) (sheet (sheet_of i o t)) ≡ sheet w → Is
          go true z q = faulted (fault Extra m.at) q
          go false z q =
              let same : sheet_of i o t ≡ w = cc in
              subst (λ (v : Sheet). SheetIs s v.inputs v.outputs v.root) same (is (ltb-false m.at (length s) z))

    outputs_are : (r : Result (ℕ × Cursor) Fault) → number_at s a.at ≡ r → after_outputs s i a.at r ≡ sheet w → Is
    unfolding after_outputs root_read pick
    outputs_are (Err f) z q = faulted f q
    outputs_are (Ok (o, b)) z q = go (many_signals i o) refl q
      where
        go : (x : Bool) → many_signals i o ≡ x → pick x (faulty (fault Count a.at)) (root_read s i o b.at) ≡ sheet w → Is
        go true y q = faulted (fault Count a.at) q
        go false y q =
            end_is o b z (ltb-false max_signals (1 + i + o) y)
            (read_stmt max_level s (root_around i o) (stmt_no 0) (root_marks b.at i o)) refl q

  inputs_are : (r : Result (ℕ × Cursor) Fault) → number_at s 0 ≡ r → after_inputs s r ≡ sheet w → Is
  unfolding after_inputs
  inputs_are (Err f) z q = faulted f q
  inputs_are (Ok (i, a)) z q = outputs_are i a z (number_at s a.at) refl q

  pub is_sheet : read_sheet s ≡ sheet w → SheetIs s w.inputs w.outputs w.root
  unfolding read_sheet
  is_sheet q = inputs_are (number_at s 0) refl q
