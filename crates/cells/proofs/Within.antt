-- Operands and signals that are below a bound.
use Prim.Native.Nat.{ℕ, zero, suc, ◌≤◌, ◌<◌}
use mathlib.Core.List.{List, [], ◌∷◌, ◌++◌}
use native.Mathlib.Omega.{arith}
use lib.ListN.{get_or}
use Rattle.number.specs.Counts.{of_cell, of_signal}
use Rattle.cells.specs.declared.Cell.{Cell}
use Rattle.cells.specs.declared.Cell.TheVariants.{Low, High, Input, Gate, Register}

-- an input's signal is below s, any operand is below m
abbrev pub Within : ℕ → ℕ → Cell → Type 0
Within s m Low = Unit
Within s m High = Unit
Within s m (Input i) = of_signal i < s
Within s m (Gate g x y) = (of_cell x < m) × (of_cell y < m)
Within s m (Register x) = of_cell x < m

unfoldable pub AllWithin : ℕ → ℕ → List Cell → Type 0
AllWithin s m [] = Unit
AllWithin s m (c ∷ cs) = Within s m c × AllWithin s m cs

module _ (s m : ℕ) where
  pub none_within : AllWithin s m []
  unfolding AllWithin
  none_within = tt

  pub append_within : (u v : List Cell) → AllWithin s m u → AllWithin s m v → AllWithin s m (u ++ v)
  unfolding AllWithin
  append_within [] v p q = q
  append_within (c ∷ u) v p q = (p.0, append_within u v p.1 q)

  -- the cell at any place, low past the end
  pub within_at : (cs : List Cell) → AllWithin s m cs → (k : ℕ) → Within s m (get_or cs k Low)
  unfolding AllWithin
  within_at [] h k = tt
  within_at (c ∷ cs) h zero = h.0
  within_at (c ∷ cs) h (suc k) = within_at cs h.1 k

-- and so below any larger bound
pub within_wider : (s m s' m' : ℕ) (c : Cell) → s ≤ s' → m ≤ m' → Within s m c → Within s' m' c
within_wider s m s' m' Low hs hm h = tt
within_wider s m s' m' High hs hm h = tt
within_wider s m s' m' (Input i) hs hm h = omega (arith, h)
within_wider s m s' m' (Gate g x y) hs hm h = (omega (arith, h.0), omega (arith, h.1))
within_wider s m s' m' (Register x) hs hm h = omega (arith, h)

pub all_wider : (s m s' m' : ℕ) (cs : List Cell) → s ≤ s' → m ≤ m' → AllWithin s m cs → AllWithin s' m' cs
unfolding AllWithin
all_wider s m s' m' [] hs hm h = tt
all_wider s m s' m' (c ∷ cs) hs hm h = (within_wider s m s' m' c hs hm h.0, all_wider s m s' m' cs hs hm h.1)
