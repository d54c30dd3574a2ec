-- A compiled sheet's netlist is well formed, and its column has the words of its cells: so what is filed and what is handed out are the entries' answers.
use mathlib.Core.Path.{◌≡◌, sym, ap, ◌∙◌}
use mathlib.Core.List.{List, map}
use Prim.Native.Nat.{ℕ, ◌≤◌}
use native.Mathlib.Omega.{arith}
use lib.ListN.{length, take}
use lib.Seq.{length-take-le}
use Rattle.number.specs.declared.Fault.{Fault}
use Rattle.limits.specs.Limits.{max_cells}
use Rattle.cells.specs.Words.{word, cells_of}
use Rattle.cells.specs.Netlist.{netlist_of, WellFormed}
use Rattle.sheet.specs.declared.Counts.{Counts}
use Rattle.sheet.specs.Read.{Sheet, sheet, faulty}
use Rattle.builder.specs.Netlist.{sheet_netlist, sheet_file}
use Rattle.files.specs.Read.{netlist}
use Rattle.compiler.proofs.OfSheets.{built_well_formed}
use Rattle.compiler.specs.Check.{Checks, Accepted, accepted}
use Rattle.compiler.proofs.Passing.{judged_read}
use Rattle.interpreter.proofs.Interpreting.{Compiled_as, accepted_proper}
use Rattle.verdicts.specs.declared.Answer.{Answer}
use Rattle.verdicts.specs.declared.Listing.{Listing}
use Rattle.verdicts.specs.Answers.{refusal, acceptance, with_signals}
use Rattle.sheet_entries.specs.Sheets.{sheet_accepted}
use Rattle.sheet_entries.proofs.SheetEntries.{counts_are}
use Rattle.netlist_entries.specs.Files.{Filed}
use Rattle.netlist_entries.specs.Cells.{Handed}
use Rattle.netlist_entries.proofs.FileEntries.{filed_refused}
use Rattle.netlist_entries.proofs.CellEntries.{handed_refused}
use Rattle.compile_entries.specs.Compile.{sheet_net, Written, Listed}
use Rattle.sets.specs.declared.Entry.{Entry}
use Rattle.sheet.specs.declared.Row.{Row}

-- an accepted sheet has no more cells than there may be
pub accepted_few : {s : List ℕ} {w : Sheet} → Accepted s w → length (sheet_netlist w) ≤ max_cells
accepted_few (accepted order judged ordered) = (judged_read judged).passes.few

-- the sheet's own fault: nothing is written
module _ {s : List ℕ} {f : Fault} (was : Checks s (faulty f)) where
  pub written_refused : {buffer : List ℕ} → Written s (refusal f) buffer buffer
  unfolding sheet_net
  written_refused = record { outcome = faulty f; checks = was; filed = filed_refused }

  pub listed_refused : {words : List ℕ} → Listed s (with_signals (refusal f) 0 0) words words
  unfolding sheet_net
  listed_refused = record { outcome = faulty f; checks = was; handed = handed_refused }

-- the compiled cells are a well-formed netlist, that of the sheet, and the column has their words
module _ {s : List ℕ} {rows : List Row} {statics : List Entry} {cells : List ℕ} {c : Counts} {n : ℕ} (a : Compiled_as s c n rows statics cells) where
  few : length (sheet_netlist a.read) ≤ max_cells
  few = accepted_few a.accepts

  pub n_few : n ≤ max_cells
  n_few = omega (arith, a.count, few)

  cells_are : cells_of (take n cells) ≡ sheet_netlist a.read
  cells_are = ap (λ (k : ℕ). cells_of (take k cells)) a.count ∙ a.own.means

  file_is : netlist_of c.inputs c.outputs (take n cells) ≡ sheet_file a.read
  file_is = rw (a.counts, cells_are)

  pub sheet_well_formed : WellFormed (netlist_of c.inputs c.outputs (take n cells))
  sheet_well_formed = rw file_is (built_well_formed a.read (accepted_proper a.accepts) few)

  pub sheet_packed : map word (cells_of (take n cells)) ≡ take n cells
  sheet_packed = ap (map word) cells_are ∙ sym a.own.stored ∙ ap (λ (k : ℕ). take k cells) (sym a.count)

  module _ (long : length cells ≡ max_cells) where
    pub prefix_long : n ≡ length (take n cells)
    prefix_long = sym (length-take-le n cells (omega (arith, n_few)))

    counted : acceptance c.statements (length (take n cells)) ≡ sheet_accepted (sheet a.read)
    counted = ap (acceptance c.statements) (sym prefix_long) ∙ counts_are a

    -- what was filed, or handed out, is what the entry promises
    pub written_accepted : {r : Answer} {buffer buffer' : List ℕ}
        → Filed (netlist (netlist_of c.inputs c.outputs (take n cells))) (acceptance c.statements (length (take n cells))) r buffer buffer'
        → Written s r buffer buffer'
    unfolding sheet_net
    written_accepted filed = record { outcome = sheet a.read; checks = a.accepts; filed = rw (file_is, counted) at filed }

    pub listed_accepted : {r : Listing} {words words' : List ℕ}
        → Handed (netlist (netlist_of c.inputs c.outputs (take n cells))) (acceptance c.statements (length (take n cells))) r words words'
        → Listed s r words words'
    unfolding sheet_net
    listed_accepted handed = record { outcome = sheet a.read; checks = a.accepts; handed = rw (file_is, counted) at handed }
