-- A file in a lent buffer, and what is printed of it.
use Prim.Native.Nat.{ℕ, ◌≤◌, min}
use mathlib.Core.Path.{◌≡◌, refl, sym, ap, ◌∙◌}
use mathlib.Core.Bool.{Bool, true, false}
use mathlib.Core.List.{List}
use native.Mathlib.Omega.{arith}
use borrow.Author.Tests.{le-leb, lt-leb, le-ltb, ltb-true, ltb-false}
use lib.Dec.{leb, ltb}
use lib.ListN.{length, take}
use lib.Seq.{sets, length-sets, length-take-le}
use Rattle.number.specs.declared.Fault.{Fault}
use Rattle.number.specs.declared.Refusal.TheVariants.{Buffer}
use Rattle.number.specs.Number.{pick}
use Rattle.number.specs.Refusals.{fault}
use Rattle.sheet.specs.declared.Counts.{Counts}
use Rattle.sheet.specs.Read.{sheet, faulty}
use Rattle.limits.specs.Limits.{max_cells}
use Rattle.cells.specs.Words.{cells_of}
use Rattle.builder.specs.Netlist.{sheet_netlist, sheet_file}
use Rattle.cells.specs.Netlist.{Netlist, netlist_of}
use Rattle.files.specs.File.{file_bytes}
use Rattle.files.specs.Read.{netlist}
use Rattle.netlists.specs.Write.{file_length, file_written, buffer_written, DidWrite}
use Rattle.compiler.specs.Check.{Checks}
use Rattle.interpreter.proofs.Interpreting.{Compiled_as}
use Rattle.verdicts.specs.declared.Answer.{Answer}
use Rattle.verdicts.specs.Answers.{verdict, refusal, acceptance}
use Rattle.netlist_entries.specs.Netlists.{net_verdict}
use Rattle.netlist_entries.specs.Files.{file_of, write_verdict}
use Rattle.netlist_entries.proofs.CellEntries.{laid_front}
use Rattle.netlist_entries.proofs.FileEntries.{filed_refused}
use Rattle.sheet_entries.specs.Sheets.{sheet_accepted}
use Rattle.sheet_entries.proofs.SheetEntries.{counts_are}
use Rattle.compile_entries.specs.Compile.{sheet_net}
use Rattle.compile_entries.proofs.CompileEntries.{prefix_long}
use Rattle.texts.specs.declared.Page.{Page}
use Rattle.texts.specs.Puts.{Writes}
use Rattle.answers.specs.Questions.{room, write}
use Rattle.answers.specs.Texts.{file_text, no_file_text, written_text}
use Rattle.answers.specs.Answering.{Lends, is_written}
use Rattle.answers.specs.Code.{Says, FileSaid}
use Rattle.answers.proofs.Saying.{said}
use Rattle.std.specs.Prelude.{Ok, Err}
use Rattle.sets.specs.declared.Entry.{Entry}
use Rattle.sheet.specs.declared.Row.{Row}

module _ {w : Netlist} {lent lent' : List ℕ} where
  -- BUFFER: the buffer is too short
  pub too_short : {f : Fault} (a : Answer) → DidWrite w (Err f) lent lent'
      → written_text (write_verdict (netlist w) (file_bytes w) lent) a (file_bytes w) ≡ no_file_text a
  unfolding write_verdict verdict net_verdict pick written_text file_written
  too_short {f} a did = rw (by_room (ltb (length lent) (file_length w)) refl)
    where
      by_room : (b : Bool) → ltb (length lent) (file_length w) ≡ b → leb (length (file_bytes w)) (length lent) ≡ false
      by_room true is = lt-leb (length (file_bytes w)) (length lent) (ltb-true (length lent) (file_length w) is)
      by_room false is =
          let z : Err f ≡ Ok (file_length w) = did.answer ∙ rw is in
          let y : ◌≡◌ {A = ℕ} 0 1 = cc in
          absurd (omega arith)

  -- the file is there
  module _ {n : ℕ} (did : DidWrite w (Ok n) lent lent') where
    fits : length (file_bytes w) ≤ length lent
    unfolding file_written pick
    fits = by_room (ltb (length lent) (file_length w)) refl
      where
        by_room : (b : Bool) → ltb (length lent) (file_length w) ≡ b → length (file_bytes w) ≤ length lent
        by_room true is =
            let z : Ok n ≡ Err (fault Buffer (file_length w)) = did.answer ∙ rw is in
            let y : ◌≡◌ {A = ℕ} 0 1 = cc in
            absurd (omega arith)
        by_room false is = ltb-false (length lent) (file_length w) is

    long : n ≡ file_length w
    unfolding file_written pick
    long = let z : Ok n ≡ Ok (file_length w) = did.answer ∙ rw (le-ltb (length lent) (file_length w) fits) in cc

    laid : lent' ≡ sets lent 0 (file_bytes w)
    unfolding buffer_written pick
    laid = did.left ∙ rw (le-ltb (length lent) (file_length w) fits)

    pub file_within : n ≤ length lent'
    file_within = omega (arith, long, fits, ap length laid, length-sets lent 0 (file_bytes w))

    pub file_there : take n lent' ≡ file_bytes w
    file_there = rw (long, laid) (laid_front lent (file_bytes w) fits)

    pub has_file : (a : Answer) → written_text (write_verdict (netlist w) (file_bytes w) lent) a (file_bytes w) ≡ file_text a (file_bytes w)
    unfolding write_verdict verdict net_verdict pick written_text
    has_file a = rw (le-leb (length (file_bytes w)) (length lent) fits)

-- a sheet that is refused
pub wrote_none : {s : List ℕ} (lent : List ℕ) {f : Fault} {n : ℕ} {p p' : Page} → Checks s (faulty f) → Lends n lent
    → Writes (no_file_text (refusal f)) p p' → Says (write s n) p p'
unfolding write_verdict verdict net_verdict written_text sheet_net
wrote_none lent {f} was lends w =
    said
    (is_written {buffer = lent} {buffer' = lent} {r = refusal f} lends
    (record { outcome = faulty f; checks = was; filed = filed_refused }))
    w

-- the netlist of one that is accepted
module _ {s : List ℕ} {rows : List Row} {statics : List Entry} {cells : List ℕ} {c : Counts} {n : ℕ} (a : Compiled_as s c n rows statics cells)
    (enough : length cells ≡ max_cells) where
  cells_are : cells_of (take n cells) ≡ sheet_netlist a.read
  cells_are = ap (λ (k : ℕ). cells_of (take k cells)) a.count ∙ a.own.means

  file_is : netlist_of c.inputs c.outputs (take n cells) ≡ sheet_file a.read
  file_is = rw (a.counts, cells_are)

  counted : acceptance c.statements (length (take n cells)) ≡ sheet_accepted (sheet a.read)
  counted = ap (acceptance c.statements) (sym (prefix_long a enough)) ∙ counts_are a

  pub wrote_file : (lent : List ℕ) {p p' : Page} {m : ℕ}
      → FileSaid (netlist_of c.inputs c.outputs (take n cells)) (acceptance c.statements (length (take n cells))) lent p p'
      → Lends m lent
      → Says (write s m) p p'
  unfolding sheet_net file_of
  wrote_file lent told lends =
      said
      (is_written {buffer = lent} {buffer' = told.left} {r = told.answer} lends
      (record { outcome = sheet a.read; checks = a.accepts; filed = rw (file_is, counted) at told.filed }))
      (rw file_is at told.written)

-- what is lent of a buffer
pub lent_part : (buffer : List ℕ) (n : ℕ) {end : ℕ} → length buffer ≡ room → end ≡ min n room → Lends n (take end buffer)
lent_part buffer n {end} long is = length-take-le end buffer (omega arith) ∙ is
