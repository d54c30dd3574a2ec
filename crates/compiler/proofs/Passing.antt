-- What is so of a sheet that has none of the faults 1 to 11.
use mathlib.Core.Path.{◌≡◌, refl, ap, ◌∙◌, subst}
use mathlib.Core.Bool.{Bool, true, false}
use mathlib.Core.List.{List}
use Prim.Native.Nat.{ℕ, ◌≤◌}
use native.Mathlib.Omega.{arith}
use borrow.Author.Tests.{ltb-false}
use lib.ListN.{length}
use Rattle.number.specs.declared.Fault.{Fault}
use Rattle.number.specs.declared.Refusal.{Refusal}
use Rattle.number.specs.declared.Refusal.TheVariants.{Instant, Twice}
use Rattle.number.specs.Counts.{stmt_no}
use Rattle.number.specs.Number.{pick}
use Rattle.limits.specs.Limits.{max_cells, many_cells}
use Rattle.sheet.specs.Read.{Sheet, SheetOutcome, sheet, faulty, read_sheet}
use Rattle.sets.specs.Faults.{instant, twice}
use Rattle.builder.specs.Netlist.{sheet_netlist}
use Rattle.compiler.specs.Check.{unless, roomy, judged, judge}
use Rattle.number.specs.declared.StmtNo.{StmtNo}
use Rattle.std.specs.Prelude.{Option, Some, None}

-- a fault is no sheet
pub faulty_sheet : {A : Type 0} {f : Fault} {w : Sheet} → faulty f ≡ sheet w → A
faulty_sheet e = cc

-- nothing was found, and what comes after passed
pub record Went (f : Option StmtNo) (o : SheetOutcome) (w : Sheet) : Type 0 where
  pub clear : f ≡ None
  pub on : o ≡ sheet w

went : (x : Refusal) (f : Option StmtNo) (o : SheetOutcome) {w : Sheet} → unless x f o ≡ sheet w → Went f o w
unfolding unless
went x (Some n) o e = faulty_sheet e
went x None o e = record { clear = refl; on = e }

pub record Passed (v w : Sheet) : Type 0 where
  pub same : v ≡ w
  pub no_instant : instant (stmt_no 0) v.root ≡ None
  pub no_twice : twice (stmt_no 0) v.root ≡ None
  pub few : length (sheet_netlist v) ≤ max_cells

record Roomed (v w : Sheet) : Type 0 where
  same : v ≡ w
  few : length (sheet_netlist v) ≤ max_cells

roomed : (v : Sheet) {w : Sheet} (b : Bool) → many_cells (length (sheet_netlist v)) ≡ b → roomy v ≡ sheet w → Roomed v w
unfolding roomy pick
roomed v true full e = faulty_sheet (rw full at e)
roomed v false free e = let same : sheet v ≡ sheet _ = rw free at e in record { same = cc; few = ltb-false _ _ free }

pub passed : (v : Sheet) {w : Sheet} → judged (sheet v) ≡ sheet w → Passed v w
unfolding judged
passed v e =
    let first = went Instant (instant (stmt_no 0) v.root) _ e in
    let second = went Twice (twice (stmt_no 0) v.root) (roomy v) first.on in
    let room = roomed v (many_cells (length (sheet_netlist v))) refl second.on in
    record { same = room.same; no_instant = first.clear; no_twice = second.clear; few = room.few }

-- .. and it was read
pub record Read (s : List ℕ) (w : Sheet) : Type 0 where
  pub read : read_sheet s ≡ sheet w
  pub passes : Passed w w

was_judged : {s : List ℕ} (o : SheetOutcome) {w : Sheet} → read_sheet s ≡ o → judged o ≡ sheet w → Read s w
unfolding judged
was_judged (faulty f) e j = faulty_sheet j
was_judged (sheet v) {w} e j =
    let p = passed v j in
    record { read = e ∙ ap sheet p.same; passes = subst (λ (u : Sheet). Passed u w) p.same p }

pub judged_read : {s : List ℕ} {w : Sheet} → judge s ≡ sheet w → Read s w
unfolding judge
judged_read {s} e = was_judged (read_sheet s) refl e
