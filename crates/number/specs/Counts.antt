-- "Signals, halts, statements and cells are each counted from 0, and a number of one count must never serve as a number of another."
-- These are the conversions; no other definition makes or opens a typed number.
use Rattle.std.specs.Prelude.{ℕ}
use Rattle.number.specs.declared.SignalNo.{SignalNo}
use Rattle.number.specs.declared.HaltNo.{HaltNo}
use Rattle.number.specs.declared.StmtNo.{StmtNo}
use Rattle.number.specs.declared.CellNo.{CellNo}

abbrev pub signal_no : ℕ → SignalNo
signal_no n = record { 0 = n }

abbrev pub of_signal : SignalNo → ℕ
of_signal s = s.0

abbrev pub halt_no : ℕ → HaltNo
halt_no n = record { 0 = n }

abbrev pub of_halt : HaltNo → ℕ
of_halt h = h.0

abbrev pub stmt_no : ℕ → StmtNo
stmt_no n = record { 0 = n }

abbrev pub of_stmt : StmtNo → ℕ
of_stmt t = t.0

abbrev pub cell_no : ℕ → CellNo
cell_no n = record { 0 = n }

abbrev pub of_cell : CellNo → ℕ
of_cell c = c.0
