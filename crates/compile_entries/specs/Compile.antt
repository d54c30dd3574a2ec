-- The entries that compile a sheet: the netlist's file, or its cells.
use Rattle.std.specs.Prelude.{List, ℕ}
use Rattle.sheet.specs.Read.{SheetOutcome, sheet, faulty as faulty_sheet}
use Rattle.compiler.specs.Check.{Checks}
use Rattle.builder.specs.Netlist.{sheet_file}
use Rattle.files.specs.Read.{FileOutcome, netlist, faulty}
use Rattle.verdicts.specs.declared.Answer.{Answer}
use Rattle.verdicts.specs.declared.Listing.{Listing}
use Rattle.sheet_entries.specs.Sheets.{sheet_accepted}
use Rattle.netlist_entries.specs.Files.{Filed}
use Rattle.netlist_entries.specs.Cells.{Handed}

-- the netlist of an accepted sheet, or the sheet's fault
unfoldable pub sheet_net : SheetOutcome → FileOutcome
sheet_net (faulty_sheet f) = faulty f
sheet_net (sheet w) = netlist (sheet_file w)

-- Compile a sheet to a file.
pub record Written (s : List ℕ) (r : Answer) (buffer buffer' : List ℕ) : Type 0 where
  pub outcome : SheetOutcome
  pub checks : Checks s outcome
  pub filed : Filed (sheet_net outcome) (sheet_accepted outcome) r buffer buffer'

-- Compile a sheet to cells.
pub record Listed (s : List ℕ) (r : Listing) (words words' : List ℕ) : Type 0 where
  pub outcome : SheetOutcome
  pub checks : Checks s outcome
  pub handed : Handed (sheet_net outcome) (sheet_accepted outcome) r words words'
