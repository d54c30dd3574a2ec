-- The whole check: what the reader, the judge and the search for an order answer makes the one answer that the definition allows.
use mathlib.Core.Path.{◌≡◌, refl, sym, ap, ◌∙◌, subst}
use mathlib.Core.List.{List, map}
use Prim.Native.Nat.{ℕ, ◌+◌, ◌≤◌}
use native.Mathlib.Omega.{arith}
use lib.ListN.{length, take}
use lib.Seq.{length-take-le}
use Rattle.number.specs.declared.Fault.{Fault}
use Rattle.number.specs.Counts.{stmt_no, halt_no}
use Rattle.limits.specs.Limits.{max_statements, max_cells}
use Rattle.sheet.specs.declared.Counts.{Counts}
use Rattle.sheet.specs.Read.{Sheet, SheetOutcome, sheet, faulty, read_sheet}
use Rattle.sheet.specs.Rows.{lay, Holds}
use Rattle.sheet.specs.Answer.{sheet_answer}
use Rattle.sheet.specs.Contract.{SheetLaid, DidSheet}
use Rattle.sheet.proofs.ProperRead.{proper}
use Rattle.sheet.proofs.Walk.{holds_proper}
use Rattle.cells.specs.Words.{word, cells_of}
use Rattle.cells.specs.Needs.{Closed}
use Rattle.cells.proofs.Within.{AllWithin, all_wider}
use Rattle.cells.proofs.Needing.{closed}
use Rattle.cells.proofs.Words.{stored_cells}
use Rattle.builder.specs.Netlist.{sheet_netlist}
use Rattle.builder.proofs.Format.{stored_whole, sheet_closed}
use Rattle.compiler.specs.Check.{judged, judge, refused, cyclic, accepted}
use Rattle.compiler.specs.Compile.{ReadAs, SomeRead, built_of, Judges, JudgesRead, Finishes, found, cycle, Compiles, compiled_of, DidCompile}
use Rattle.compiler.proofs.Passing.{faulty_sheet, passed}
use Rattle.std.specs.Prelude.{Result, Ok, Err}
use Rattle.sets.specs.declared.Entry.{Entry}
use Rattle.sheet.specs.declared.Row.{Row}

-- the bytes were read as a sheet, which the rows hold
pub record WasRead (s : List ℕ) (rows : List Row) (c : Counts) : Type 0 where
  pub w : Sheet
  pub read : read_sheet s ≡ sheet w
  pub is : ReadAs rows c w

module _ {s : List ℕ} {before after : List Row} (room : max_statements ≤ length before) where
  was_read : (o : SheetOutcome) {c : Counts} → read_sheet s ≡ o → DidSheet o (Ok c) before after → WasRead s after c
  unfolding sheet_answer SheetLaid
  was_read (faulty f) e did = cc
  was_read (sheet w) e did =
      let counts = did.answer in
      let ok = proper s w e in
      let laid : List Row = lay before (stmt_no 0) (halt_no 0) w.root in
      let held : Holds laid (stmt_no 0) (halt_no 0) w.root = holds_proper w.inputs w.outputs before w.root ok room in
      record { w = w; read = e; is = record { proper = ok; counts = cc; holds = rw did.rows held } }

  pub sheet_was_read : {r : Result Counts Fault} {c : Counts} → DidSheet (read_sheet s) r before after → r ≡ Ok c → WasRead s after c
  sheet_was_read did e = was_read (read_sheet s) refl (rw e at did)

-- a fault of the first eleven
module _ {s : List ℕ} {rows : List Row} {statics : List Entry} {cells : List ℕ} {f : Fault} where
  pub did_refuse : judge s ≡ faulty f → DidCompile s (Err f) rows statics cells
  unfolding compiled_of
  did_refuse e = record { outcome = faulty f; checks = refused e; answer = refl; columns = λ w z. faulty_sheet z }

not_read : (o : SheetOutcome) {f : Fault} → Err f ≡ sheet_answer o → o ≡ faulty f
unfolding sheet_answer
not_read (faulty f) e = cc
not_read (sheet w) e = cc

not_built : (o : SheetOutcome) {f : Fault} → Err f ≡ built_of o → o ≡ faulty f
unfolding built_of
not_built (faulty f) e = cc
not_built (sheet w) e = cc

pub sheet_refused : {s : List ℕ} {before after rows : List Row} {statics : List Entry} {cells : List ℕ} {r : Result Counts Fault} {f : Fault}
    → DidSheet (read_sheet s) r before after → r ≡ Err f → DidCompile s (Err f) rows statics cells
unfolding judge judged
sheet_refused {s} did e = did_refuse (ap judged (not_read (read_sheet s) (sym e ∙ did.answer)))

-- what is built is the sheet's own netlist
pub record IsBuilt (w : Sheet) (n : ℕ) : Type 0 where
  pub judged_as : judged (sheet w) ≡ sheet w
  pub count : n ≡ length (sheet_netlist w)
  pub few : length (sheet_netlist w) ≤ max_cells

is_built : (w : Sheet) (o : SheetOutcome) {n : ℕ} → judged (sheet w) ≡ o → Ok n ≡ built_of o → IsBuilt w n
unfolding built_of
is_built w (faulty f) e built = cc
is_built w (sheet v) {n} e built =
    let p = passed w e in
    let own : v ≡ w = sym p.same in
    let count : n ≡ length (sheet_netlist v) = cc in
    record { judged_as = e ∙ ap sheet own; count = count ∙ ap (λ (u : Sheet). length (sheet_netlist u)) own; few = p.few }

module _ {s : List ℕ} {rows : List Row} {c : Counts} (was : WasRead s rows c) where
  pub some_read : SomeRead rows c
  some_read = record { read = was.w; is = was.is }

  judged_sheet : judge s ≡ judged (sheet was.w)
  unfolding judge
  judged_sheet = ap judged was.read

  module _ {statics' : List Entry} {cells cells' : List ℕ} {r : Result ℕ Fault} (did : JudgesRead rows c r statics' cells cells') where
    judges : Judges was.w r statics' cells cells'
    judges = did.judges was.w was.is

    pub judge_refused : {f : Fault} {rows : List Row} {statics : List Entry} {cells : List ℕ} → r ≡ Err f → DidCompile s (Err f) rows statics cells
    judge_refused e = did_refuse (judged_sheet ∙ not_built (judged (sheet was.w)) (sym e ∙ judges.answer))

    module _ {n : ℕ} (built_n : r ≡ Ok n) (room : max_cells ≤ length cells) where
      built : IsBuilt was.w n
      built = is_built was.w (judged (sheet was.w)) refl (sym built_n ∙ judges.answer)

      within : AllWithin (1 + was.w.inputs) (length (sheet_netlist was.w)) (sheet_netlist was.w)
      within = sheet_closed was.is.proper

      -- its numbers have sixteen bits
      small : AllWithin 65536 65536 (sheet_netlist was.w)
      small =
          all_wider (1 + was.w.inputs) (length (sheet_netlist was.w)) 65536 65536 (sheet_netlist was.w) (omega (arith, was.is.proper.header))
          (omega (arith, built.few)) within

      -- the words of the first n cells mean the netlist
      pub cells_are : cells_of (take n cells') ≡ sheet_netlist was.w
      cells_are =
          rw (built.count, judges.stored built.judged_as)
          (stored_cells (sheet_netlist was.w) cells small (omega (arith, built.few)))

      pub cells_closed : Closed (cells_of (take n cells'))
      cells_closed = rw cells_are (closed (1 + was.w.inputs) within)

      n_few : n ≤ max_cells
      n_few = omega (arith, built.count, built.few)

      -- .. and there are n of them, not too many
      module _ (kept : length cells' ≡ length cells) where
        pub n_long : n ≤ length cells'
        n_long = omega (arith, n_few, room)

        pub prefix_long : n ≡ length (take n cells')
        prefix_long = sym (length-take-le n cells' n_long)

        pub prefix_few : length (take n cells') ≤ max_cells
        prefix_few = omega (arith, n_few, prefix_long)

      stored_words : take (length (sheet_netlist was.w)) cells' ≡ map word (sheet_netlist was.w)
      stored_words = rw (judges.stored built.judged_as) (stored_whole (sheet_netlist was.w) cells (omega (arith, built.few)))

      meaning : cells_of (take (length (sheet_netlist was.w)) cells') ≡ sheet_netlist was.w
      meaning = ap (λ (k : ℕ). cells_of (take k cells')) (sym built.count) ∙ cells_are

      finish : {r : Result (Counts × ℕ) Fault} → Finishes (sheet_netlist was.w) c r → DidCompile s r rows statics' cells'
      unfolding compiled_of
      finish (found {order} ordered) =
          record {
            outcome = sheet was.w;
            checks = accepted order (judged_sheet ∙ built.judged_as) ordered;
            answer = ap (λ (k : Counts). Ok (k, length (sheet_netlist was.w))) was.is.counts;
            columns = λ v e. let own : was.w ≡ v = cc in
                subst (λ (u : Sheet). Compiles u rows statics' cells') own
                (record { holds = was.is.holds; kept = judges.kept; stored = stored_words; means = meaning });
          }
      finish (cycle lowest) =
          record {
            outcome = _;
            checks = cyclic (judged_sheet ∙ built.judged_as) lowest;
            answer = refl;
            columns = λ v e. faulty_sheet e;
          }

      pub did_finish : {r : Result (Counts × ℕ) Fault} → Finishes (cells_of (take n cells')) c r → DidCompile s r rows statics' cells'
      did_finish f = finish (rw cells_are at f)
