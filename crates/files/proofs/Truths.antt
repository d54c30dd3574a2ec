-- The truth tables of the three gates: which numbers they are, and that each is its gate's.
use Prim.Native.Nat.{ℕ, ◌≤◌}
use mathlib.Core.Path.{◌≡◌, refl, sym}
use mathlib.Core.Bool.{Bool, true, false, ◌||◌}
use mathlib.Core.List.{[], ◌∷◌}
use native.Mathlib.Omega.{arith}
use lib.Dec.{eqb}
use borrow.Author.Tests.{eqb-true}
use Rattle.number.specs.Number.{pick}
use Rattle.tables.specs.Answering.{bit, weigh}
use Rattle.cells.specs.declared.Gate as gate
use Rattle.cells.specs.declared.Gate.TheVariants.{Or, And, Butnot}
use Rattle.cells.specs.Cells.{truth}
use Rattle.files.specs.File.{truth_table}
use Rattle.files.specs.Read.{is_truth_table, gate_with}

-- The truth table is the gate's: as a table's, with x at pin 0 and y at pin 1.
pub same_truth : (g : gate.Gate) (x y : Bool) → bit (truth_table g) (weigh (x ∷ y ∷ [])) ≡ truth g x y
unfolding bit weigh
same_truth Or true true = refl
same_truth Or true false = refl
same_truth Or false true = refl
same_truth Or false false = refl
same_truth And true true = refl
same_truth And true false = refl
same_truth And false true = refl
same_truth And false false = refl
same_truth Butnot true true = refl
same_truth Butnot true false = refl
same_truth Butnot false true = refl
same_truth Butnot false false = refl

pub table_small : (g : gate.Gate) → truth_table g ≤ 14
table_small Or = omega arith
table_small And = omega arith
table_small Butnot = omega arith

pub is_table : (g : gate.Gate) → is_truth_table (truth_table g) ≡ true
is_table Or = refl
is_table And = refl
is_table Butnot = refl

pub with_table : (g : gate.Gate) → gate_with (truth_table g) ≡ g
unfolding pick
with_table Or = refl
with_table And = refl
with_table Butnot = refl

pub table_with : (t : ℕ) → is_truth_table t ≡ true → truth_table (gate_with t) ≡ t
unfolding pick
table_with t = go (eqb t 14) refl (eqb t 8) refl (eqb t 2) refl
  where
    go : (a : Bool) → eqb t 14 ≡ a → (b : Bool) → eqb t 8 ≡ b → (c : Bool) → eqb t 2 ≡ c → (a || (b || c)) ≡ true
        → truth_table (pick a Or (pick b And Butnot)) ≡ t
    go true p b q c r e = sym (eqb-true t 14 p)
    go false p true q c r e = sym (eqb-true t 8 q)
    go false p false q true r e = sym (eqb-true t 2 r)
    go false p false q false r e = cc
