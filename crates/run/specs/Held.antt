-- What it is for the cells to have exactly one solution, while some of them are held at given values.
use Rattle.std.specs.Prelude.{◌≡◌, Bool, false, List, ℕ}
use Rattle.number.specs.Number.{pick}
use Rattle.number.specs.declared.CellNo.{CellNo}
use Rattle.number.specs.declared.SignalNo.{SignalNo}
use Rattle.cells.specs.declared.Cell.{Cell}
use Rattle.cells.specs.Cells.{cell_at}
use Rattle.cells.specs.Values.{before, value}

-- a net that is held has its value of h, and every other the value that its cell asks for
abbrev pub SolvesHeld : (CellNo → Bool) → (CellNo → Bool) → (SignalNo → Bool) → (ℕ → Bool) → List Cell → (CellNo → Bool) → Type 0
SolvesHeld hold h J S cells v = (x : CellNo) → v x ≡ pick (hold x) (h x) (value J (S (before cells x)) v (cell_at cells x))

-- no net is held: then `SolvesHeld` is `Solves`
abbrev pub none : CellNo → Bool
none x = false

-- there is a solution, and no other
pub record OneSolution (hold h : CellNo → Bool) (J : SignalNo → Bool) (S : ℕ → Bool) (cells : List Cell) : Type 0 where
  pub values : CellNo → Bool
  pub solves : SolvesHeld hold h J S cells values
  pub only : (v : CellNo → Bool) → SolvesHeld hold h J S cells v → (x : CellNo) → v x ≡ values x
