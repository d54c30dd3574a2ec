-- The laws of settings: which number a setting is, and which numbers are settings. A table answers the truth table's bit at its pins' setting,
-- which is the definition of `answers`; these are what covers need besides.
use mathlib.Core.Path.{◌≡◌, refl, ap, ◌∙◌}
use mathlib.Core.Bool.{Bool, true, false}
use mathlib.Core.List.{List, [], ◌∷◌, map}
use Prim.Native.Nat.{ℕ, zero, suc, ◌^◌, ◌<◌}
use native.Mathlib.Nat.{le_of_suc-le-suc, not-suc-le-zero}
use native.Mathlib.Omega.{arith}
use lib.Dec.{eqb}
use lib.ListN.{length, get_or, length-map}
use borrow.Author.Tests.{eqb-true, eqb-false}
use Rattle.number.specs.declared.CellNo.{CellNo}
use Rattle.number.specs.Counts.{cell_no, of_cell}
use Rattle.number.specs.Number.{pick}
use Rattle.tables.specs.Answering.{bit, setting}
use Rattle.tables.proofs.Tabulated.{mapped}
use Rattle.tables.proofs.Bits.{weigh_bit, weigh_small, same_bits}

-- the cell at pin p
abbrev pub cell_at : List CellNo → ℕ → CellNo
cell_at cells p = get_or cells p (cell_no 0)

-- the settings of n pins are numbers below 2 ^ n
pub setting_small : (v : CellNo → Bool) (cells : List CellNo) → setting v cells < 2 ^ length cells
unfolding setting
setting_small v cells = rw length-map at (weigh_small (map v cells))

-- bit p of a setting is the value of the cell at pin p
pub setting_bit : (v : CellNo → Bool) (cells : List CellNo) (p : ℕ) → p < length cells → bit (setting v cells) p ≡ v (cell_at cells p)
unfolding setting
setting_bit v cells p h = weigh_bit (map v cells) p true (rw (length-map cells v) h) ∙ mapped v cells p (cell_no 0) true h

-- and the setting is the only such number
pub setting_is : (v : CellNo → Bool) (cells : List CellNo) (b : ℕ) → b < 2 ^ length cells
    → ((p : ℕ) → p < length cells → v (cell_at cells p) ≡ bit b p) → setting v cells ≡ b
setting_is v cells b small same =
    same_bits (length cells) (setting v cells) b (setting_small v cells) small (λ p h. setting_bit v cells p h ∙ same p h)

-- Each number below 2 ^ n is the setting of some values, where a cell that stands at two pins has the same bit at both: `reached`.

-- the first pin that has the cell x
unfoldable pub pin_of : CellNo → List CellNo → ℕ
pin_of x [] = 0
pin_of x (c ∷ cs) = pick (eqb (of_cell c) (of_cell x)) 0 (suc (pin_of x cs))

-- the value that setting b gives the cell x
unfoldable pub value_in : List CellNo → ℕ → CellNo → Bool
value_in cells b x = bit b (pin_of x cells)

-- x stands at its first pin
abbrev Stands : CellNo → List CellNo → Type 0
Stands x cells = (pin_of x cells < length cells) × (cell_at cells (pin_of x cells) ≡ x)

-- it does in a list of pins whose first one is its own, or behind which it does
first : (x c : CellNo) (cs : List CellNo) (b : Bool) → eqb (of_cell c) (of_cell x) ≡ b → (b ≡ false → Stands x cs) → Stands x (c ∷ cs)
unfolding pin_of pick
first x c cs true same behind = rw same (omega arith, ap cell_no (eqb-true (of_cell c) (of_cell x) same))
first x c cs false differs behind = let at = behind refl in rw differs (omega (arith, at.0), at.1)

-- so it does if it stands at any
found : (x : CellNo) (cells : List CellNo) (p : ℕ) → p < length cells → cell_at cells p ≡ x → Stands x cells
found x [] p h e = absurd (not-suc-le-zero h)
found x (c ∷ cs) zero h e =
    let alike : (eqb (of_cell c) (of_cell x) ≡ false) → ⊥ = λ differs. eqb-false (of_cell c) (of_cell x) differs (ap of_cell e) in
    first x c cs (eqb (of_cell c) (of_cell x)) refl (λ differs. absurd (alike differs))
found x (c ∷ cs) (suc p) h e =
    first x c cs (eqb (of_cell c) (of_cell x)) refl (λ differs. found x cs p (le_of_suc-le-suc h) e)

pub reached : (cells : List CellNo) (b : ℕ) → b < 2 ^ length cells
    → ((p q : ℕ) → p < length cells → q < length cells → cell_at cells p ≡ cell_at cells q → bit b p ≡ bit b q)
    → setting (value_in cells b) cells ≡ b
unfolding value_in
reached cells b small alike =
    setting_is (value_in cells b) cells b small
    (λ p h. let at = found (cell_at cells p) cells p h refl in alike (pin_of (cell_at cells p) cells) p at.0 h at.1)
