-- Not to be believed: what the code keeps to; the proofs check it.
-- What the functions ensure that make a statement's own cells. A statement is taken apart by how many parts it has: the cells that are made before
-- its parts, and after. The walk that comes to the parts is of the crate `builder`.
use Rattle.std.specs.Prelude.{◌≡◌, Bool, List, [], ◌∷◌, ◌++◌, map, ℕ, ◌+◌, ◌<◌}
use Rattle.number.specs.declared.CellNo.{CellNo}
use Rattle.number.specs.Counts.{cell_no, of_signal}
use Rattle.limits.specs.Limits.{max_signals}
use Rattle.sheet.specs.declared.Leaf.{Leaf}
use Rattle.sheet.specs.declared.Leaf.TheVariants.{Nothing, Halt, Emit, Exit}
use Rattle.sheet.specs.declared.Unary.{Unary}
use Rattle.sheet.specs.declared.Unary.TheVariants.{Loop, Watching, Trap, Signal}
use Rattle.sheet.specs.declared.Binary.{Binary}
use Rattle.sheet.specs.declared.Binary.TheVariants.{Sequence, Present, Parallel}
use Rattle.cells.specs.declared.Cell.{Cell}
use Rattle.cells.specs.declared.Gate.TheVariants.{Or}
use Rattle.cells.specs.declared.Cell.TheVariants.{Gate}
use Rattle.cells.specs.Cells.{low, signal_cell}
use Rattle.gates.specs.Folding.{New, and_at, butnot_at}
use Rattle.gates.specs.Rows.{code}
use Rattle.gates.specs.Store.{parallel_cells, WroteCells}
use Rattle.gates.specs.declared.Column.{Column}
use Rattle.parts.specs.declared.Wires.{Wires}
use Rattle.parts.specs.declared.Returned.{Returned}
use Rattle.parts.specs.declared.Opened.{Opened}
use Rattle.parts.specs.Equations.{Built, past, Joined, build_sequence, build_loop, build_present, build_watching, build_parallel, build_trap}

-- a statement makes at most so many cells besides those of its parts: two before them, as a present, and sel and the codes after them, as a parallel
abbrev pub own_cells : ℕ
own_cells = 2 + 1 + parallel_cells

-- the nets that a column of numbers has
abbrev pub nets : List ℕ → List CellNo
nets ls = map cell_no ls

-- a statement was built: its cells are stored, and the lists' column, sel and codes are its own
pub record Builds (o : Built) (c c' : Column) (ls' : List ℕ) (b : Returned) : Type 0 where
  pub wrote : WroteCells c c' o.cells
  pub lists : nets ls' ≡ o.lists
  pub sel : b.sel ≡ o.sel
  pub codes : b.codes ≡ o.codes

-- the cells before the parts, and what the parts get: go (the second part's: other), resume, kill
pub record Opening : Type 0 where
  pub cells : List Cell
  pub go : CellNo
  pub other : CellNo
  pub res : CellNo
  pub kill : CellNo

-- "A child gets g, r and i unless another is named."
abbrev pub plain : CellNo → CellNo → CellNo → Opening
plain g r i = record { cells = []; go = g; other = g; res = r; kill = i }

abbrev pub open_one : Unary → ℕ → CellNo → CellNo → CellNo → Opening
open_one Loop n g r i = record { cells = Gate Or g low ∷ []; go = cell_no n; other = g; res = r; kill = i }
open_one (Watching s) n g r i =
    let a : New = butnot_at n r (signal_cell s) in record { cells = a.cells; go = g; other = g; res = a.net; kill = i }
open_one Trap n g r i = plain g r i
open_one (Signal s) n g r i = plain g r i

abbrev pub open_two : Binary → ℕ → CellNo → CellNo → CellNo → Opening
open_two Sequence n g r i = plain g r i
open_two (Present s) n g r i =
    let x : New = and_at n g (signal_cell s) in
    let y : New = butnot_at (past n x) g (signal_cell s) in
    record { cells = x.cells ++ y.cells; go = x.net; other = y.net; res = r; kill = i }
open_two Parallel n g r i = record { cells = Gate Or i low ∷ []; go = g; other = g; res = r; kill = cell_no n }

-- the second part's go, ks being the first one's codes: "q with go p's code 0"
abbrev pub go_of : Binary → CellNo → List CellNo → CellNo
go_of Sequence other ks = code ks 0
go_of (Present s) other ks = other
go_of Parallel other ks = other

-- the statement, made of its parts; it began at n
abbrev pub close_one : Unary → ℕ → CellNo → CellNo → Built → Built
close_one Loop n g r p = build_loop g p
close_one (Watching s) n g r p = let a : New = butnot_at n r (signal_cell s) in build_watching s (past n a) r a p
close_one Trap n g r p = build_trap n p
close_one (Signal s) n g r p = p

abbrev pub close_two : Binary → (ℕ → Bool) → ℕ → CellNo → CellNo → Built → Built → Built
close_two Sequence keep n g i p q = build_sequence n p q
close_two (Present s) keep n g i p q =
    let x : New = and_at n g (signal_cell s) in
    let y : New = butnot_at (past n x) g (signal_cell s) in
    build_present (past (past n x) y) x y p q
close_two Parallel keep n g i p q = build_parallel n i keep p q

-- what is so when the one part is to be built, and when the two are
pub record Opens (o : Opening) (c c' : Column) (w : Wires) : Type 0 where
  pub wrote : WroteCells c c' o.cells
  pub go_is : w.go ≡ o.go
  pub res_is : w.res ≡ o.res
  pub kill_is : w.kill ≡ o.kill

pub record OpensTwo (o : Opening) (c c' : Column) (w : Opened) : Type 0 where
  pub opens : Opens o c c' w.first
  pub other_is : w.other ≡ o.other

-- What closing ensures: whatever was opened from n on, and whose parts are built, is the statement. So a reserved cell that is filled, cells that
-- follow, and a statement that adds none have one form.
pub record ClosesOne (u : Unary) (n : CellNo) (w : Wires) (c₂ c₃ : Column) (p b : Returned) : Type 0 where
  pub same : c₃.cells.ghost_name ≡ c₂.cells.ghost_name
  pub closes : (c c₁ : Column) (ls : List ℕ) (i : CellNo) (x : Built) → n ≡ cell_no c.count
      → WroteCells c c₁ (open_one u c.count w.go w.res i).cells → Builds x c₁ c₂ ls p → Builds (close_one u c.count w.go w.res x) c c₃ ls b

pub record ClosesTwo (b : Binary) (keep : ℕ → Bool) (n : CellNo) (w : Wires) (c₃ c₄ : Column) (p q s : Returned) : Type 0 where
  pub same : c₄.cells.ghost_name ≡ c₃.cells.ghost_name
  pub closes : (c c₁ c₂ : Column) (ls₁ ls₂ : List ℕ) (r : CellNo) (x y : Built) → n ≡ cell_no c.count
      → WroteCells c c₁ (open_two b c.count w.go r w.kill).cells → Builds x c₁ c₂ ls₁ p → Builds y c₂ c₃ ls₂ q
      → Builds (close_two b keep c.count w.go w.kill x y) c c₄ ls₂ s

-- the or's of two parts are made
pub record Joins (j : Joined) (c c' : Column) (b : Returned) : Type 0 where
  pub wrote : WroteCells c c' j.cells
  pub sel : b.sel ≡ j.sel
  pub codes : b.codes ≡ j.codes

-- the signals that a statement names have a list, and a cell
abbrev pub LeafNamed : Leaf → Type 0
LeafNamed Nothing = Unit
LeafNamed (Halt h) = Unit
LeafNamed (Emit s) = of_signal s < max_signals
LeafNamed (Exit k) = Unit

abbrev pub UnaryNamed : Unary → Type 0
UnaryNamed Loop = Unit
UnaryNamed (Watching s) = of_signal s < max_signals
UnaryNamed Trap = Unit
UnaryNamed (Signal s) = Unit

abbrev pub BinaryNamed : Binary → Type 0
BinaryNamed Sequence = Unit
BinaryNamed (Present s) = of_signal s < max_signals
BinaryNamed Parallel = Unit
