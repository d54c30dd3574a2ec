-- What the reader answers, in the paper's numbers.
use Rattle.sheet_entries.proofs.SheetEntries.{read_refused, read_counts}
use Rattle.sheet_entries.proofs.read.Goals as goal

pub returns-in-Err : goal.returns-in-Err
returns-in-Err c =
    read_refused _ c.read_sheet.ensures.answer c.in-Err.is c.from.ensures

pub returns-in-Ok : goal.returns-in-Ok
returns-in-Ok c =
    read_counts _ c.read_sheet.ensures.answer c.in-Ok.is
