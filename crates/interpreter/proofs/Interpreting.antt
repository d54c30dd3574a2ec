-- What the compiler answers, and the program that is made ready of it.
use mathlib.Core.Path.{◌≡◌, refl, sym, ap, ◌∙◌, subst}
use mathlib.Core.List.{List}
use Prim.Native.Nat.{ℕ}
use native.Mathlib.Omega.{arith}
use lib.ListN.{length}
use Rattle.number.specs.declared.Fault.{Fault}
use Rattle.number.specs.declared.HaltNo.{HaltNo}
use Rattle.number.specs.Counts.{halt_no}
use Rattle.bits.specs.Bits.{whole}
use Rattle.sheet.specs.declared.Counts.{Counts}
use Rattle.sheet.specs.Stmt.{Stmt}
use Rattle.sheet.specs.Read.{Sheet, SheetOutcome, sheet, faulty}
use Rattle.sheet.specs.Rows.{Holds}
use Rattle.sheet.specs.Form.{Proper}
use Rattle.sheet.specs.Answer.{counts_of}
use Rattle.sheet.proofs.ProperRead.{proper}
use Rattle.rules.specs.declared.Yield.{Yield}
use Rattle.rules.specs.Words.{root, Runnable, Next, KnownRoot}
use Rattle.rules.proofs.Walks.{run_proper}
use Rattle.rules.proofs.Fitting.{known_proper}
use Rattle.builder.specs.Netlist.{sheet_netlist}
use Rattle.compiler.specs.Check.{Checks, Accepted, accepted}
use Rattle.compiler.specs.Compile.{Compiles, compiled_of, DidCompile}
use Rattle.compiler.proofs.Passing.{judged_read}
use Rattle.interpreter.specs.declared.Program.{Program}
use Rattle.interpreter.specs.Interpret.{Moment}
use Rattle.interpreter.specs.Settle.{AgreedAt}
use Rattle.interpreter.specs.Program.{PreparedAs, Prepares}
use Rattle.std.specs.Prelude.{Result, Ok, Err}
use Rattle.sets.specs.declared.Entry.{Entry}
use Rattle.sheet.specs.declared.Row.{Row}

-- an accepted sheet was read
pub accepted_proper : {s : List ℕ} {w : Sheet} → Accepted s w → Proper w.inputs w.outputs w.root
accepted_proper {s} {w} (accepted order judged ordered) = proper s w (judged_read judged).read

-- the compiler's answer: a fault ..
compiled_refused : (o : SheetOutcome) {f : Fault} → Err f ≡ compiled_of o → o ≡ faulty f
unfolding compiled_of
compiled_refused (faulty g) e = cc
compiled_refused (sheet w) e = absurd (cc)

pub was_refused : {s : List ℕ} {rows : List Row} {statics : List Entry} {cells : List ℕ} {r : Result (Counts × ℕ) Fault} {f : Fault} → DidCompile s r rows statics cells → r ≡ Err f
    → Checks s (faulty f)
was_refused {s} did e = subst (Checks s) (compiled_refused did.outcome (sym e ∙ did.answer)) did.checks

ok_same : {A E : Type 0} {a b : A} → ◌≡◌ {A = Result A E} (Ok a) (Ok b) → a ≡ b
ok_same e = cc

-- .. or a sheet with what the columns hold of it
pub record Compiled_as (s : List ℕ) (c : Counts) (n : ℕ) (rows : List Row) (statics : List Entry) (cells : List ℕ) : Type 0 where
  pub read : Sheet
  pub accepts : Accepted s read
  pub counts : c ≡ counts_of read
  pub count : n ≡ length (sheet_netlist read)
  pub own : Compiles read rows statics cells

module _ {s : List ℕ} {rows : List Row} {statics : List Entry} {cells : List ℕ} {c : Counts} {n : ℕ} where
  compiled : (o : SheetOutcome) → Checks s o → Ok (c, n) ≡ compiled_of o
      → ((w : Sheet) → o ≡ sheet w → Compiles w rows statics cells)
      → Compiled_as s c n rows statics cells
  unfolding compiled_of
  compiled (faulty f) checks e columns = absurd (cc)
  compiled (sheet w) checks e columns =
      let same = ok_same e in
      record { read = w; accepts = checks; counts = ap (λ (v : Counts × ℕ). v.0) same; count = ap (λ (v : Counts × ℕ). v.1) same; own = columns w refl }

  pub was_compiled : {r : Result (Counts × ℕ) Fault} → DidCompile s r rows statics cells → r ≡ Ok (c, n) → Compiled_as s c n rows statics cells
  was_compiled did e = compiled did.outcome did.checks (sym e ∙ did.answer) did.columns

  module _ (a : Compiled_as s c n rows statics cells) where
    -- its rows can be run, and its columns are what `fits` asks for
    pub compiled_run : Runnable rows root
    compiled_run = run_proper (accepted_proper a.accepts) a.own.holds

    pub compiled_known : KnownRoot rows statics
    compiled_known = known_proper (accepted_proper a.accepts) a.own.holds a.own.kept

    -- made ready, it stands for the sheet
    pub prepared : {p : Program} → Prepares rows c n p → PreparedAs p rows statics a.read
    prepared ready =
        record {
          bytes = s;
          accepts = a.accepts;
          counts = ready.counts ∙ a.counts;
          count = ready.count ∙ a.count;
          holds = a.own.holds;
          kept = a.own.kept;
          covers = ready.tested.tested (halt_no 0) a.read.root a.own.holds;
        }

-- the yield under the E that agrees, and the state after it, are a moment of the statement in the rows
pub moment_at : {rows : List Row} {state event next : ℕ} {r : Yield} (a : HaltNo) (t : Stmt) → AgreedAt rows state event r → Next r next
    → Holds rows root a t → Moment t state event (whole r.emits) next
moment_at a t agreed after holds =
    let here = agreed.agreed a t holds in
    record { present = here.present; agrees = here.agrees; emits = here.means.emits; keeps = after.state _ here.means }
