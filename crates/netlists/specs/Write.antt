-- Not to be believed: what the code keeps to; the proofs check it.
-- Writing a netlist file: "BUFFER too short for the file", at the "length needed"; "A lent buffer is written only on acceptance, and only as far as the file
-- reaches."
use Rattle.std.specs.Prelude.{◌≡◌, Bool, List, [], ◌∷◌, ℕ, ◌+◌, ◌<◌, ◌≤◌, ltb, length, Result, Ok, Err}
use Rattle.std.proofs.lemmas.List.Edits.{sets}
use Rattle.number.specs.declared.CellNo.{CellNo}
use Rattle.number.specs.Counts.{of_cell, of_signal}
use Rattle.number.specs.declared.Refusal.TheVariants.{Buffer}
use Rattle.number.specs.Number.{pick}
use Rattle.number.specs.Refusals.{fault}
use Rattle.cells.specs.declared.Cell.{Cell}
use Rattle.cells.specs.declared.Cell.TheVariants.{Low, High, Input, Gate, Register}
use Rattle.cells.specs.Netlist.{Netlist}
use Rattle.files.specs.File.{file_bytes}
use Rattle.number.specs.declared.Fault.{Fault}
use Rattle.netlists.specs.declared.writer.Writer.{Writer}

abbrev pub file_length : Netlist → ℕ
file_length w = length (file_bytes w)

abbrev pub too_short : List ℕ → Netlist → Bool
too_short buffer w = ltb (length buffer) (file_length w)

-- the answer
unfoldable pub file_written : List ℕ → Netlist → Result ℕ Fault
file_written buffer w = pick (too_short buffer w) (Err (fault Buffer (file_length w))) (Ok (file_length w))

-- what the buffer holds after it
unfoldable pub buffer_written : List ℕ → Netlist → List ℕ
buffer_written buffer w = pick (too_short buffer w) buffer (sets buffer 0 (file_bytes w))

pub record DidWrite (w : Netlist) (r : Result ℕ Fault) (buffer buffer' : List ℕ) : Type 0 where
  pub answer : r ≡ file_written buffer w
  pub left : buffer' ≡ buffer_written buffer w

-- For the methods behind `write_file`: from the writer's place on there is room for the bytes.
pub record HasRoom (bytes : List ℕ) (w : Writer) : Type 0 where
  pub fits : w.at + length bytes ≤ length w.buffer.now

-- the bytes are laid from the writer's place on, in the buffer that it was lent, and its place is past them
pub record Lays (bytes : List ℕ) (w w' : Writer) : Type 0 where
  pub lent : w'.buffer.ghost_name ≡ w.buffer.ghost_name
  pub past : w'.at ≡ w.at + length bytes
  pub laid : w'.buffer.now ≡ sets w.buffer.now w.at bytes

-- operands that a number of a file can hold
abbrev pub SmallPair : CellNo → CellNo → Type 0
SmallPair x y = (of_cell x < 16384) × (of_cell y < 16384)

abbrev pub SmallCell : Cell → Type 0
SmallCell Low = Unit
SmallCell High = Unit
SmallCell (Input s) = of_signal s < 16384
SmallCell (Gate g x y) = SmallPair x y
SmallCell (Register x) = of_cell x < 16384

unfoldable pub SmallCells : List Cell → Type 0
SmallCells [] = Unit
SmallCells (c ∷ cs) = SmallCell c × SmallCells cs
