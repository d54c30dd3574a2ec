-- By induction on the statement: wherever the root's cells are solved, each part of the root is right.
use mathlib.Core.Path.{◌≡◌, subst, subst⁻¹}
use mathlib.Core.Bool.{Bool, false}
use mathlib.Core.List.{List}
use Prim.Native.Nat.{ℕ, ◌+◌}
use lib.ListN.{length}
use Rattle.number.specs.Counts.{halt_no}
use Rattle.number.specs.declared.CellNo.{CellNo}
use Rattle.sheet.specs.declared.Leaf.{Leaf}
use Rattle.sheet.specs.declared.Leaf.TheVariants.{Nothing, Halt, Emit, Exit}
use Rattle.sheet.specs.declared.Unary.{Unary}
use Rattle.sheet.specs.declared.Unary.TheVariants.{Loop, Watching, Trap, Signal}
use Rattle.sheet.specs.declared.Binary.{Binary}
use Rattle.sheet.specs.declared.Binary.TheVariants.{Sequence, Present, Parallel}
use Rattle.sheet.specs.Stmt.{Stmt, leaf, one, two}
use Rattle.sheet.proofs.Notions.{Numbered}
use Rattle.rules.specs.Rules.{Signals, Halts}
use Rattle.rules.specs.States.{State, halts_of}
use Rattle.rules.proofs.Again.{Disjoint, sides_disjoint}
use Rattle.cells.specs.declared.Cell.{Cell}
use Rattle.cells.specs.Cells.{low}
use Rattle.parts.specs.Equations.{Built, given, build}
use Rattle.parts.specs.Contract.{Opening, close_one, open_two, close_two, go_of}
use Rattle.parts.proofs.Parts.{build_one, build_two}
use Rattle.builder.specs.Netlist.{netlist}
use Rattle.builder.proofs.Places.{built, Takes, one_takes, left_takes, right_takes}
use Rattle.builder.proofs.Format.{halt_register, root_takes}
use Rattle.agreement.proofs.Sound.{Sound, sound_one, sound_left, sound_right}
use Rattle.agreement.proofs.Nets.{Solved}
use Rattle.agreement.proofs.Deeper.{Inside, whole, inside_one, inside_left, inside_right, part_solved, lists_length}
use Rattle.agreement.proofs.Right.{Right, nothing_right, exit_right, emit_right, halt_right, loop_right, watching_right, trap_right, signal_right}
use Rattle.agreement.proofs.Right.{sequence_right, present_right, parallel_right}

-- the sides of a sound statement have no halt in common
disjoint : (H : Halts) (b : Binary) (p q : Stmt) → Sound H (two b p q) → Disjoint p q
unfolding Numbered
disjoint H b p q w = sides_disjoint w.first p q w.numbered.0 w.numbered.1

module _ (I U : ℕ) (root : Stmt) (numbered : Numbered (halt_no 0) root) (J : Signals) (S : State) (v : CellNo → Bool) (zero_low : v low ≡ false)
    (solved : Solved (netlist I U root) J S v (root_takes (1 + I + U)).first (built root (root_takes (1 + I + U))).cells) where
  abbrev cells : List Cell
  cells = netlist I U root

  abbrev H : Halts
  H = halts_of S

  abbrev top : Takes
  top = root_takes (1 + I + U)

  abbrev IsRight : Stmt → Takes → Built → Type 0
  IsRight t w b = Right cells J S v zero_low t w.go w.res w.kill w.lists b

  abbrev Holds : Stmt → Type 0
  Holds t = (w : Takes) → Inside root top t w → Sound H t → IsRight t w (built t w)

  own_cells : (t : Stmt) (w : Takes) → Inside root top t w → Solved cells J S v w.first (built t w).cells
  own_cells t w s = part_solved cells J S v solved s

  leaf_holds : (l : Leaf) → Holds (leaf l)
  unfolding build
  leaf_holds Nothing w s k = nothing_right cells J S v zero_low w.go w.res w.kill w.lists
  leaf_holds (Exit x) w s k = exit_right cells J S v zero_low x w.go w.res w.kill w.lists
  leaf_holds (Emit x) w s k =
      emit_right cells J S v zero_low x w.first w.go w.res w.kill w.lists (own_cells (leaf (Emit x)) w s)
  leaf_holds (Halt x) w s k =
      halt_right cells J S v zero_low x w.first w.go w.res w.kill w.lists (halt_register I U root numbered s.part).bit
      (own_cells (leaf (Halt x)) w s)

  -- a statement with one part, from the part as it is built
  one_closed : (u : Unary) (p : Stmt) (w : Takes) (a : Built) → Sound H (one u p) → IsRight p (one_takes u w) a
      → Solved cells J S v w.first (close_one u w.first w.go w.res a).cells → IsRight (one u p) w (close_one u w.first w.go w.res a)
  one_closed Loop p w a k rp h = loop_right cells J S v zero_low p w.first w.go w.res w.kill w.lists a k rp h
  one_closed (Watching s) p w a k rp h = watching_right cells J S v zero_low p w.first w.go w.res w.kill w.lists a s rp h
  one_closed Trap p w a k rp h = trap_right cells J S v zero_low p w.first w.go w.res w.kill w.lists a rp h
  one_closed (Signal s) p w a k rp h = signal_right cells J S v zero_low p w.first w.go w.res w.kill w.lists a s rp

  one_holds : (u : Unary) (p : Stmt) → Holds p → Holds (one u p)
  one_holds u p ip w s k =
      let a : Built = built p (one_takes u w) in
      let e : built (one u p) w ≡ close_one u w.first w.go w.res a = build_one u p w.first w.go w.res w.kill w.lists in
      subst⁻¹ (IsRight (one u p) w) e
      (one_closed u p w a k (ip (one_takes u w) (inside_one s) (sound_one H u p k))
      (subst (λ (b : Built). Solved cells J S v w.first b.cells) e (own_cells (one u p) w s)))

  -- a statement with two parts, likewise
  two_closed : (b : Binary) (p q : Stmt) (w : Takes) (x y : Built) → let o : Opening = open_two b w.first w.go w.res w.kill in
      let t : Built = close_two b (given (two b p q)) w.first w.go w.kill x y in
      length x.lists ≡ length w.lists → Sound H (two b p q) → IsRight p (left_takes b w) x
      → Right cells J S v zero_low q (go_of b o.other x.codes) o.res o.kill x.lists y
      → Solved cells J S v w.first t.cells → IsRight (two b p q) w t
  two_closed Sequence p q w x y as_many k rp rq h =
      sequence_right cells J S v zero_low p q w.first w.go w.res w.kill w.lists x y as_many (disjoint H Sequence p q k) k rp rq h
  two_closed (Present s) p q w x y as_many k rp rq h =
      present_right cells J S v zero_low p q w.first w.go w.res w.kill w.lists x y as_many s (disjoint H (Present s) p q k) k rp rq h
  two_closed Parallel p q w x y as_many k rp rq h =
      parallel_right cells J S v zero_low p q w.first w.go w.res w.kill w.lists x y as_many (disjoint H Parallel p q k) k rp rq h

  two_holds : (b : Binary) (p q : Stmt) → Holds p → Holds q → Holds (two b p q)
  two_holds b p q ip iq w s k =
      let l : Takes = left_takes b w in
      let x : Built = built p l in
      let y : Built = built q (right_takes b p w) in
      let t : Built = close_two b (given (two b p q)) w.first w.go w.kill x y in
      let e : built (two b p q) w ≡ t = build_two b p q w.first w.go w.res w.kill w.lists in
      subst⁻¹ (IsRight (two b p q) w) e
      (two_closed b p q w x y (lists_length p l.first l.go l.res l.kill l.lists) k
      (ip l (inside_left s) (sound_left H b p q k)) (iq (right_takes b p w) (inside_right s) (sound_right H b p q k))
      (subst (λ (z : Built). Solved cells J S v w.first z.cells) e (own_cells (two b p q) w s)))

  parts_right : (t : Stmt) → Holds t
  parts_right (leaf l) = leaf_holds l
  parts_right (one u p) = one_holds u p (parts_right p)
  parts_right (two b p q) = two_holds b p q (parts_right p) (parts_right q)

  pub root_right : Sound H root → IsRight root top (built root top)
  root_right k = parts_right root top (whole root top) k
