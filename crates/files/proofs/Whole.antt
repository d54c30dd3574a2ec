-- What the functions that read the header and the body answer, at each of their returns.
use Prim.Native.Nat.{ℕ, ◌+◌, ◌≤◌, ◌<◌}
use mathlib.Core.Path.{◌≡◌, refl, sym, ◌∙◌}
use mathlib.Core.Bool.{false}
use mathlib.Core.List.{List, map}
use native.Mathlib.Omega.{arith}
use lib.ListN.{length}
use lib.Seq.{sets}
use borrow.Author.Tests.{ltb-false, lt-ltb, le-ltb}
use Rattle.number.specs.declared.Fault.{Fault}
use Rattle.number.specs.declared.Refusal.TheVariants.{Extra}
use Rattle.number.specs.Counts.{cell_no}
use Rattle.number.specs.Number.{pick}
use Rattle.number.specs.Refusals.{fault}
use Rattle.limits.specs.Limits.{max_signals, many_signals}
use Rattle.cells.specs.declared.Cell.{Cell}
use Rattle.cells.specs.Words.{word}
use Rattle.files.specs.Read.{CellsOutcome, got, refused, read_cells, FileOutcome, faulty, ended, body_at}
use Rattle.files.specs.Answer.{file_answer, cells_answer, CellsLaid, DidCells, FileLaid, DidFile}
use Rattle.files.proofs.Standing.{cells_stand}
use Rattle.std.specs.Prelude.{Result, Ok, Err}

-- too many signals are refused, so there are few
pub few_signals : (I O : ℕ) → many_signals I O ≡ false → 1 + I + O ≤ max_signals
few_signals I O e = ltb-false max_signals (1 + I + O) e

pub file_stop : {o : FileOutcome} {f : Fault} {column column' : List ℕ} → o ≡ faulty f → DidFile o (Err f) column column'
unfolding file_answer FileLaid
file_stop e = rw e (record { answer = refl; laid = tt })

-- The cells were read or refused.
stopped : (o : CellsOutcome) {f : Fault} → Err f ≡ cells_answer o → o ≡ refused f
unfolding cells_answer
stopped (refused g) e = cc
stopped (got cs at) e = cc

record Got (o : CellsOutcome) (end : ℕ) (column column' : List ℕ) : Type 0 where
  cells : List Cell
  is : o ≡ got cells end
  laid : column' ≡ sets column 0 (map word cells)

passed : (o : CellsOutcome) {end : ℕ} {column column' : List ℕ} → DidCells o (Ok end) column column' → Got o end column column'
unfolding cells_answer CellsLaid
passed (refused g) d = let e = d.answer in cc
passed (got cs at) {end} d = let e : Ok end ≡ Ok at = d.answer in record { cells = cs; is = cc; laid = d.laid }

module _ (s : List ℕ) (I O m at : ℕ) {column column' : List ℕ} where
  pub body_stop : {f : Fault} {r : Result ℕ Fault} → DidCells (read_cells m s I m (cell_no 0) 0 at) r column column' → r ≡ Err f
      → DidFile (body_at s I O m at) (Err f) column column'
  unfolding body_at ended
  body_stop d e = file_stop (rw (stopped (read_cells m s I m (cell_no 0) 0 at) (sym e ∙ d.answer)))

  module _ {end : ℕ} {r : Result ℕ Fault} (d : DidCells (read_cells m s I m (cell_no 0) 0 at) r column column') (e : r ≡ Ok end) where
    read_cells_lem : Got (read_cells m s I m (cell_no 0) 0 at) end column column'
    read_cells_lem = passed (read_cells m s I m (cell_no 0) 0 at) (rw e at d)

    pub body_extra : end < length s → DidFile (body_at s I O m at) (Err (fault Extra end)) column column'
    unfolding body_at ended pick
    body_extra more = file_stop (rw read_cells_lem.is (rw (lt-ltb end (length s) more)))

    pub body_read : length s ≤ end → DidFile (body_at s I O m at) (Ok (record { inputs = I; outputs = O; cells = m })) column column'
    unfolding body_at ended pick file_answer FileLaid
    body_read none =
        let count : length read_cells_lem.cells ≡ m = (cells_stand m s I m (cell_no 0) 0 at read_cells_lem.is).count in
        rw read_cells_lem.is (rw (le-ltb end (length s) none) record { answer = rw count refl; laid = read_cells_lem.laid })
