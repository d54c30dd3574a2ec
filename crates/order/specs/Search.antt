-- Not to be believed: what the code keeps to; the proofs check it.
-- What the functions behind `order_cells` keep to while they search. Only their contracts cite it: what `order_cells` promises stands in `Paths`.
use Rattle.std.specs.Prelude.{◌≡◌, Bool, true, false, List, [], ◌∷◌, ◌⊎◌, ℕ, suc, zero, ◌+◌, ◌-◌, ◌*◌, ◌<◌, ◌≤◌, length, get_or, set, Option, Some, None}
use Rattle.number.specs.Counts.{cell_no, of_cell}
use Rattle.number.specs.declared.CellNo.{CellNo}
use Rattle.cells.specs.declared.Cell.{Cell}
use Rattle.cells.specs.Needs.{IsCell, Needs}
use Rattle.order.specs.declared.Next.{Next}
use Rattle.order.specs.declared.Next.TheVariants.{Fresh, Back, Clear}
use Rattle.order.specs.declared.Mark.{Mark}
use Rattle.order.specs.declared.Mark.TheVariants.{New, Open, Placed}
use Rattle.order.specs.Paths.{Reaches, OnCycle, placed, Ordered}

-- the work columns have an entry for each cell, whose number sixteen bits hold
pub record WorkRoom (cells : List Cell) (marks : List Mark) (stack : List ℕ) : Type 0 where
  pub few : length cells ≤ 65536
  pub wide : length cells ≤ length marks
  pub deep : length cells ≤ length stack

-- how far a search has come with a cell, as a number
abbrev pub reached : Mark → ℕ
reached New = 0
reached Open = 1
reached Placed = 2

abbrev pub progress : List Mark → CellNo → ℕ
progress marks x = reached (get_or marks (of_cell x) New)

-- no cell is marked
abbrev pub IsUnmarked : List Mark → Type 0
IsUnmarked marks = (i : ℕ) → reached (get_or marks i New) ≡ 0

-- a cell that a search has met
abbrev pub Seen : List Mark → CellNo → Type 0
Seen marks x = 0 < progress marks x

-- in the search for an order a cell is open while what it needs is looked at, and done after that
abbrev pub IsOpen : List Mark → CellNo → Type 0
IsOpen marks x = progress marks x ≡ 1

abbrev pub IsDone : List Mark → CellNo → Type 0
IsDone marks x = 1 < progress marks x

-- x has a place among the first n
pub record HasPlace (column : List ℕ) (n : ℕ) (x : CellNo) : Type 0 where
  pub place : ℕ
  pub low : place < n
  pub is : placed column place ≡ x

-- how many of the first n cells no search has met
unfoldable pub unmet : ℕ → List Mark → ℕ
unmet zero marks = 0
unmet (suc n) [] = 0
unmet (suc n) (m ∷ marks) = (1 - reached m) + unmet n marks

-- the cell at depth k of the stack, from 1 on: in the search for an order the stack grows down from the end of the order's own column
abbrev pub waiting : List ℕ → ℕ → CellNo
waiting order k = placed order (length order - k)

-- x waits on a stack of top cells
pub record Waits (order : List ℕ) (top : ℕ) (x : CellNo) : Type 0 where
  pub depth : ℕ
  pub some : 0 < depth
  pub low : depth ≤ top
  pub is : waiting order depth ≡ x

-- the search for an order: the open cells are those on the stack, each needed by the one below it; the done cells are those placed, each after what
-- it needs; "placed and waiting cells are never more than all cells"
pub record Searching (cells : List Cell) (marks : List Mark) (order : List ℕ) (top count : ℕ) : Type 0 where
  pub stacked : (x : CellNo) → IsOpen marks x → Waits order top x
  pub opened : (k : ℕ) → 0 < k → k ≤ top → IsOpen marks (waiting order k)
  pub apart : (i k : ℕ) → 0 < i → i < k → k ≤ top → waiting order i ≡ waiting order k → ⊥
  pub way : (k : ℕ) → 0 < k → k < top → Needs cells (waiting order k) (waiting order (k + 1))
  pub listed : (x : CellNo) → IsDone marks x → HasPlace order count x
  pub done : (j : ℕ) → j < count → IsDone marks (placed order j)
  pub once : (i j : ℕ) → i < j → j < count → placed order i ≡ placed order j → ⊥
  pub after : (j : ℕ) (y : CellNo) → j < count → Needs cells (placed order j) y → HasPlace order j y
  pub within : (x : CellNo) → Seen marks x → IsCell cells x
  pub room : count + (top + unmet (length cells) marks) ≡ length cells
  pub lent : WorkRoom cells marks order

-- what is next for an open cell x: an operand that is new, one that is open, or x can be placed
abbrev pub IsNext : List Cell → List Mark → CellNo → Next → Type 0
IsNext cells marks x (Fresh y) = Needs cells x y × (progress marks y ≡ 0)
IsNext cells marks x Back = (y : CellNo) × Needs cells x y × IsOpen marks y
IsNext cells marks x Clear = (y : CellNo) → Needs cells x y → IsDone marks y

-- a cell is on a cycle
abbrev pub HasCycle : List Cell → Type 0
HasCycle cells = (x : CellNo) × OnCycle cells x

-- what the search has left to do: a new cell is opened and placed, an open one is placed
abbrev pub left : List Cell → List Mark → ℕ → ℕ
left cells marks top = 2 * unmet (length cells) marks + top

-- the search has gone one step on
pub record Went (cells : List Cell) (marks marks' : List Mark) (order : List ℕ) (top top' count : ℕ) : Type 0 where
  pub searching : Searching cells marks' order top' count
  pub less : left cells marks' top' < left cells marks top
  pub still : (x : CellNo) → Seen marks x → Seen marks' x

-- one step, from the marks before to the columns after
abbrev pub Stepped : List Cell → List Mark → ℕ → List Mark → List ℕ → Option (ℕ × ℕ) → Type 0
Stepped cells marks top marks' order (Some (top', count)) = Went cells marks marks' order top top' count
Stepped cells marks top marks' order None = HasCycle cells

-- a cell and all that it needs is placed
pub record Through (cells : List Cell) (marks marks' : List Mark) (order : List ℕ) (x : CellNo) (count : ℕ) : Type 0 where
  pub searching : Searching cells marks' order 0 count
  pub seen : Seen marks' x
  pub still : (y : CellNo) → Seen marks y → Seen marks' y

abbrev pub Visited : List Cell → List Mark → List Mark → List ℕ → CellNo → Option ℕ → Type 0
Visited cells marks marks' order x (Some count) = Through cells marks marks' order x count
Visited cells marks marks' order x None = HasCycle cells

-- the search has been through all cells
abbrev pub AllVisited : List Cell → List ℕ → Option ℕ → Type 0
AllVisited cells order (Some count) = Ordered cells order
AllVisited cells order None = HasCycle cells

-- the search for what the cell c reaches: all that is seen is reached, and what a seen cell needs is seen, unless that cell waits on the stack or is e
pub record Hunting (cells : List Cell) (c : CellNo) (marks : List Mark) (stack : List ℕ) (top : ℕ) (e : CellNo) : Type 0 where
  pub sound : (x : CellNo) → Seen marks x → Reaches cells c x
  pub closed : (x y : CellNo) → Seen marks x → Needs cells x y → Seen marks y ⊎ (HasPlace stack top x ⊎ (x ≡ e))
  pub waits : (j : ℕ) → j < top → Seen marks (placed stack j)
  pub within : (x : CellNo) → Seen marks x → IsCell cells x
  pub room : top + unmet (length cells) marks ≤ length cells
  pub lent : WorkRoom cells marks stack

-- y is noted: it was seen before, or it is marked and waits on the stack
pub data Noted (marks : List Mark) (stack : List ℕ) (top : ℕ) (y : CellNo) : List Mark → List ℕ → ℕ → Type 0 where
  old : Seen marks y → Noted marks stack top y marks stack top
  new : progress marks y ≡ 0 → Noted marks stack top y (set marks (of_cell y) Open) (set stack top (of_cell y)) (top + 1)

-- all that x needs is seen now, so x is no exception any more: the number of no cell stands for none
pub record Expanded (cells : List Cell) (marks : List Mark) (stack : List ℕ) (top : ℕ) (x : CellNo) (marks' : List Mark) (stack' : List ℕ) (top' : ℕ) : Type 0 where
  pub hunting : (c : CellNo) → Hunting cells c marks stack top x → ((y : CellNo) → Needs cells x y → Reaches cells c y)
      → Hunting cells c marks' stack' top' (cell_no (length cells))
  pub needs : (y : CellNo) → Needs cells x y → Seen marks' y
  pub still : (y : CellNo) → Seen marks y → Seen marks' y
  pub even : top' + unmet (length cells) marks' ≡ top + unmet (length cells) marks

-- The crates above search with columns of numbers: the mark of a cell in such a column, where 0 says that it has none ..
abbrev pub mark : List ℕ → CellNo → ℕ
mark marks x = get_or marks (of_cell x) 0

-- .. that no cell is marked ..
abbrev pub IsBlank : List ℕ → Type 0
IsBlank marks = (i : ℕ) → get_or marks i 0 ≡ 0

-- .. how many of the first n marks are 0 ..
unfoldable pub zeros : ℕ → List ℕ → ℕ
zeros zero marks = 0
zeros (suc n) [] = 0
zeros (suc n) (zero ∷ marks) = suc (zeros n marks)
zeros (suc n) (suc m ∷ marks) = zeros n marks

-- .. and that the test r says whether P holds
pub record Decides (P : Type 0) (r : Bool) : Type 0 where
  pub holds : r ≡ true → P
  pub fails : r ≡ false → P → ⊥
