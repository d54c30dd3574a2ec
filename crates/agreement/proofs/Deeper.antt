-- The parts of the root, one step deeper each: what a part is built with, and that its cells stand in the netlist.
use mathlib.Core.Path.{◌≡◌, refl, sym, ◌∙◌, subst}
use mathlib.Core.Bool.{Bool}
use mathlib.Core.List.{List, ◌++◌}
use Prim.Native.Nat.{ℕ}
use lib.ListN.{length, length-set}
use Rattle.number.specs.Counts.{of_signal}
use Rattle.number.specs.declared.CellNo.{CellNo}
use Rattle.sheet.specs.declared.Leaf.TheVariants.{Nothing, Halt, Emit, Exit}
use Rattle.sheet.specs.declared.Unary.{Unary}
use Rattle.sheet.specs.declared.Unary.TheVariants.{Loop, Watching, Trap, Signal}
use Rattle.sheet.specs.declared.Binary.{Binary}
use Rattle.sheet.specs.declared.Binary.TheVariants.{Sequence, Present, Parallel}
use Rattle.sheet.specs.Stmt.{Stmt, leaf, one, two}
use Rattle.rules.specs.Rules.{Signals}
use Rattle.rules.specs.States.{State}
use Rattle.cells.specs.declared.Cell.{Cell}
use Rattle.parts.specs.Equations.{build_emit, build_halt, build, build_sequence, build_loop, build_present, build_watching, build_parallel, build_trap}
use Rattle.builder.proofs.Places.{built, Part, itself, in_one, in_left, in_right, part_stands, Takes, one_takes, left_takes, right_takes}
use Rattle.agreement.proofs.Nets.{Solved, solved_left, solved_right}

-- t, built with w, is a part of the root, which is built with x
pub record Inside (root : Stmt) (x : Takes) (t : Stmt) (w : Takes) : Type 0 where
  pub halts : ℕ
  pub part : Part root x t w halts

pub whole : (t : Stmt) (w : Takes) → Inside t w t w
whole t w = record { halts = 0; part = itself t w }

deeper_one : {r p : Stmt} {u : Unary} {x w : Takes} {k : ℕ} → Part r x (one u p) w k → Inside r x p (one_takes u w)
deeper_one (itself t w) = record { halts = _; part = in_one (itself _ _) }
deeper_one (in_one s) = let d = deeper_one s in record { halts = _; part = in_one d.part }
deeper_one (in_left s) = let d = deeper_one s in record { halts = _; part = in_left d.part }
deeper_one (in_right s) = let d = deeper_one s in record { halts = _; part = in_right d.part }

deeper_left : {r p q : Stmt} {b : Binary} {x w : Takes} {k : ℕ} → Part r x (two b p q) w k → Inside r x p (left_takes b w)
deeper_left (itself t w) = record { halts = _; part = in_left (itself _ _) }
deeper_left (in_one s) = let d = deeper_left s in record { halts = _; part = in_one d.part }
deeper_left (in_left s) = let d = deeper_left s in record { halts = _; part = in_left d.part }
deeper_left (in_right s) = let d = deeper_left s in record { halts = _; part = in_right d.part }

deeper_right : {r p q : Stmt} {b : Binary} {x w : Takes} {k : ℕ} → Part r x (two b p q) w k → Inside r x q (right_takes b p w)
deeper_right (itself t w) = record { halts = _; part = in_right (itself _ _) }
deeper_right (in_one s) = let d = deeper_right s in record { halts = _; part = in_one d.part }
deeper_right (in_left s) = let d = deeper_right s in record { halts = _; part = in_left d.part }
deeper_right (in_right s) = let d = deeper_right s in record { halts = _; part = in_right d.part }

module _ {r : Stmt} {x w : Takes} where
  pub inside_one : {u : Unary} {p : Stmt} → Inside r x (one u p) w → Inside r x p (one_takes u w)
  inside_one s = deeper_one s.part

  pub inside_left : {b : Binary} {p q : Stmt} → Inside r x (two b p q) w → Inside r x p (left_takes b w)
  inside_left s = deeper_left s.part

  pub inside_right : {b : Binary} {p q : Stmt} → Inside r x (two b p q) w → Inside r x q (right_takes b p w)
  inside_right s = deeper_right s.part

-- where the root's cells are solved so are the part's
module _ (cells : List Cell) (J : Signals) (S : State) (v : CellNo → Bool) where
  pub part_solved : {r t : Stmt} {x w : Takes} → Solved cells J S v x.first (built r x).cells → Inside r x t w
      → Solved cells J S v w.first (built t w).cells
  part_solved {r} {t} {x} {w} h s =
      let k = part_stands s.part in
      let own : List Cell = (built t w).cells in
      let all : Solved cells J S v x.first (k.earlier ++ (own ++ k.later)) =
      subst (λ (cs : List Cell). Solved cells J S v x.first cs) k.is h in
      solved_left cells J S v own k.later w.first
      (subst (λ (n : ℕ). Solved cells J S v n (own ++ k.later)) (sym k.place) (solved_right cells J S v k.earlier (own ++ k.later) x.first all))

-- the signals' lists stay as many
pub lists_length : (t : Stmt) (n : ℕ) (g r i : CellNo) (L : List CellNo) → length (build t n g r i L).lists ≡ length L
unfolding build build_halt build_emit build_sequence build_loop build_present build_watching build_parallel build_trap
lists_length (leaf Nothing) n g r i L = refl
lists_length (leaf (Halt h)) n g r i L = refl
lists_length (leaf (Emit s)) n g r i L = length-set L (of_signal s) _
lists_length (leaf (Exit k)) n g r i L = refl
lists_length (one Loop p) n g r i L = lists_length p _ _ _ _ _
lists_length (one (Watching s) p) n g r i L = lists_length p _ _ _ _ _
lists_length (one Trap p) n g r i L = lists_length p _ _ _ _ _
lists_length (one (Signal s) p) n g r i L = lists_length p _ _ _ _ _
lists_length (two Sequence p q) n g r i L = lists_length q _ _ _ _ _ ∙ lists_length p _ _ _ _ _
lists_length (two (Present s) p q) n g r i L = lists_length q _ _ _ _ _ ∙ lists_length p _ _ _ _ _
lists_length (two Parallel p q) n g r i L = lists_length q _ _ _ _ _ ∙ lists_length p _ _ _ _ _
