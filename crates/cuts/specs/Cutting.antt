-- Not to be believed: what the code keeps to; the proofs check it.
-- What the functions that cut a table out keep to.
use Rattle.std.specs.Prelude.{◌≡◌, Bool, true, false, List, ◌⊎◌, ℕ, suc, ◌+◌, ◌-◌, ◌*◌, ◌<◌, ◌≤◌, map, length, get_or, set, Option, Some, None}
use Rattle.number.specs.Counts.{of_cell}
use Rattle.number.specs.declared.CellNo.{CellNo}
use Rattle.number.specs.declared.SignalNo.{SignalNo}
use Rattle.tables.specs.Answering.{pins, settings, bit, setting}
use Rattle.cells.specs.declared.Cell.{Cell}
use Rattle.cells.specs.Cells.{cell_at}
use Rattle.cells.specs.Needs.{IsCell, Needs}
use Rattle.order.specs.Paths.{Reaches, placed, Ordered}
use Rattle.order.specs.Search.{mark, zeros}
use Rattle.run.specs.Held.{SolvesHeld}
use Rattle.cuts.specs.Cut.{Met, is_pin, is_source, pin_at}

-- the cells can be ordered, so that none reaches itself
abbrev pub HasOrder : List Cell → Type 0
HasOrder cells = (order : List ℕ) × Ordered cells order

-- what a struct can keep of it: that there is an order, and not which
abbrev pub CanOrder : List Cell → Type 0
CanOrder cells = ∥ HasOrder cells ∥₁

-- the word w has bit p of each setting b: pin p's value there
pub record PinWord (p w : ℕ) : Type 0 where
  pub bits : (b : ℕ) → b < settings → bit w b ≡ bit b p

-- r has the settings at which the words a and b are alike
pub record AlikeIn (a b r : ℕ) : Type 0 where
  pub on : (k : ℕ) → k < settings → bit r k ≡ true → bit a k ≡ bit b k
  pub all : (k : ℕ) → k < settings → bit a k ≡ bit b k → bit r k ≡ true

-- the columns have an entry for each cell
pub record Lent (cells : List Cell) (marks values stack : List ℕ) : Type 0 where
  pub few : length cells ≤ 65536
  pub wide : length cells ≤ length marks
  pub valued : length cells ≤ length values
  pub deep : length cells ≤ length stack

-- every mark is at most the base
abbrev pub AllNew : ℕ → List ℕ → Type 0
AllNew base marks = (x : CellNo) → mark marks x ≤ base

-- the word w has the value of the net x at each setting of the pins
abbrev pub Tells : List Cell → List CellNo → ℕ → CellNo → Type 0
Tells cells cut w x =
    (h v : CellNo → Bool) (J : SignalNo → Bool) (S : ℕ → Bool) → SolvesHeld (is_pin cut) h J S cells v → bit w (setting h cut) ≡ v x

-- of the first n pins those of one net are alike at setting b
abbrev pub Alike : List CellNo → ℕ → ℕ → Type 0
Alike cut n b = (p q : ℕ) → p < n → q < n → pin_at cut p ≡ pin_at cut q → bit b p ≡ bit b q

-- the settings that count for the first n pins
pub record Counted (cut : List CellNo) (n counts : ℕ) : Type 0 where
  pub on : (b : ℕ) → b < settings → bit counts b ≡ true → Alike cut n b
  pub all : (b : ℕ) → b < settings → Alike cut n b → bit counts b ≡ true

-- the first n pins are marked, and no other cell is
pub record Pinned (cut : List CellNo) (base : ℕ) (marks values : List ℕ) (n counts : ℕ) : Type 0 where
  pub each : (p : ℕ) → p < n → mark marks (pin_at cut p) ≡ base + 1
  pub only : (x : CellNo) → base < mark marks x → (p : ℕ) × (p < n) × (pin_at cut p ≡ x) × PinWord p (get_or values (of_cell x) 0)
  pub counted : Counted cut n counts

-- one pin more, the net x with the word w
pub data PinSet (base : ℕ) (marks values : List ℕ) (x : CellNo) (w : ℕ) : List ℕ → List ℕ → ℕ → Type 0 where
  again : {r : ℕ} → base < mark marks x → AlikeIn (get_or values (of_cell x) 0) w r → PinSet base marks values x w marks values r
  first : {r : ℕ} → mark marks x ≤ base → ((k : ℕ) → k < settings → bit r k ≡ true)
      → PinSet base marks values x w (set marks (of_cell x) (base + 1)) (set values (of_cell x) w) r

-- a mark past the base fits its word
abbrev pub Roomy : ℕ → Type 0
Roomy base = base + 2 < 18446744073709551616

-- the net's word is known, and if it is a pin's it was met
abbrev pub Known : ℕ → List ℕ → CellNo → Type 0
Known base marks x = base + 1 < mark marks x

-- whether the word of x is there; then it is met
pub data Meets (base : ℕ) (marks : List ℕ) (x : CellNo) : List ℕ → Bool → Type 0 where
  new : mark marks x ≤ base → Meets base marks x marks false
  known : base < mark marks x → Meets base marks x (set marks (of_cell x) (base + 2)) true

-- the pins are marked, and the words of these nets are there
pub record Ready (cells : List Cell) (cut : List CellNo) (base : ℕ) (marks values : List ℕ) : Type 0 where
  pub long : length cut ≡ pins
  pub marked : (x : CellNo) → is_pin cut x ≡ true → mark marks x ≡ base + 1
  pub only : (x : CellNo) → base < mark marks x → is_pin cut x ≡ true
  pub tells : (x : CellNo) → base < mark marks x → Tells cells cut (get_or values (of_cell x) 0) x

-- how many words are not known
abbrev pub unknown : List Cell → ℕ → List ℕ → ℕ
unknown cells base marks = zeros (length cells) (map (λ (m : ℕ). m - (base + 1)) marks)

-- the way down from the cell c: the cells on the stack reach each other downwards, and what is known below c has all that it needs known,
-- up to the pins
pub record Cutting (cells : List Cell) (cut : List CellNo) (c : CellNo) (base : ℕ) (marks values stack : List ℕ) (top : ℕ) : Type 0 where
  pub long : length cut ≡ pins
  pub own : is_source (cell_at cells c) ≡ false
  pub lent : Lent cells marks values stack
  pub marked : (x : CellNo) → is_pin cut x ≡ true → base < mark marks x
  pub waits : (x : CellNo) → mark marks x ≡ base + 1 → is_pin cut x ≡ true
  pub limit : AllNew (base + 2) marks
  pub met : (x : CellNo) → Known base marks x → (x ≡ c) ⊎ Met cells cut c x
  pub closed : (x : CellNo) → Known base marks x → is_pin cut x ≡ false → is_source (cell_at cells x) ≡ false
  pub needs : (x y : CellNo) → Known base marks x → is_pin cut x ≡ false → Needs cells x y → Known base marks y
  pub tells : (x : CellNo) → base < mark marks x → Tells cells cut (get_or values (of_cell x) 0) x
  pub fresh : (j : ℕ) → j < top → mark marks (placed stack j) ≤ base
  pub cell : (j : ℕ) → j < top → IsCell cells (placed stack j)
  pub ways : (j : ℕ) → j < top → (placed stack j ≡ c) ⊎ Met cells cut c (placed stack j)
  pub down : (i j : ℕ) → i < j → j < top → Reaches cells (placed stack i) (placed stack j)
  pub root : Known base marks c ⊎ ((0 < top) × (placed stack 0 ≡ c))

-- some way down is gone
abbrev pub Going : List Cell → ℕ → List ℕ → List ℕ → List ℕ → ℕ → Type 0
Going cells base marks values stack top = (cut : List CellNo) × (c : CellNo) × Cutting cells cut c base marks values stack top

-- what is left to do: a word becomes known, or the way goes deeper
abbrev pub left : List Cell → ℕ → List ℕ → ℕ → ℕ
left cells base marks top = unknown cells base marks * suc (length cells) + (length cells - top)

-- a step
pub record Went (cells : List Cell) (cut : List CellNo) (c : CellNo) (base : ℕ) (marks marks' values' stack' : List ℕ)
    (top top' : ℕ) : Type 0 where
  pub cutting : Cutting cells cut c base marks' values' stack' top'
  pub less : left cells base marks' top' < left cells base marks top

-- the way meets a register or an input that is no pin
pub record Strays (cells : List Cell) (cut : List CellNo) (c : CellNo) : Type 0 where
  pub at : CellNo
  pub met : Met cells cut c at
  pub source : is_source (cell_at cells at) ≡ true
  pub no_pin : is_pin cut at ≡ false

pub data Stepped (cells : List Cell) (cut : List CellNo) (c : CellNo) (base : ℕ) (marks marks' values' stack' : List ℕ)
    (top : ℕ) : Option ℕ → Type 0 where
  on : {top' : ℕ} → Went cells cut c base marks marks' values' stack' top top'
      → Stepped cells cut c base marks marks' values' stack' top (Some top')
  stray : Strays cells cut c → Stepped cells cut c base marks marks' values' stack' top None

-- the way down from the cell c was gone to its end, or it strays
pub record CutOut (cells : List Cell) (cut : List CellNo) (c : CellNo) (base : ℕ) (marks' values' stack' : List ℕ) (r : Bool) : Type 0 where
  pub through : r ≡ true → Cutting cells cut c base marks' values' stack' 0
  pub strays : r ≡ false → Strays cells cut c
