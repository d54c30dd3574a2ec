-- A statement's cells are of kinds 3 to 6: or, and, butnot, register.
use mathlib.Core.Path.{◌≡◌, refl, ◌∙◌, ap}
use mathlib.Core.Bool.{Bool, true, false, ◌&&◌}
use mathlib.Core.List.{List, [], ◌∷◌, ◌++◌}
use Prim.Native.Nat.{ℕ, suc, ◌+◌}
use lib.ListN.{length}
use Rattle.number.specs.Counts.{cell_no}
use Rattle.number.specs.declared.CellNo.{CellNo}
use Rattle.number.specs.declared.SignalNo.{SignalNo}
use Rattle.number.proofs.Bools.{taut}
use Rattle.sheet.specs.declared.Leaf.TheVariants.{Nothing, Halt, Emit, Exit}
use Rattle.sheet.specs.declared.Unary.TheVariants.{Loop, Watching, Trap, Signal}
use Rattle.sheet.specs.declared.Binary.TheVariants.{Sequence, Present, Parallel}
use Rattle.sheet.specs.Stmt.{Stmt, leaf, one, two}
use Rattle.cells.specs.declared.Cell.{Cell}
use Rattle.cells.specs.declared.Cell.TheVariants.{Low, High, Input, Gate, Register}
use Rattle.cells.specs.declared.Gate.TheVariants.{Or, And, Butnot}
use Rattle.cells.specs.Cells.{signal_cell}
use Rattle.cells.specs.declared.Gate as gate
use Rattle.gates.specs.Folding.{New, gate_at, or_at, and_at, butnot_at}
use Rattle.gates.specs.Rows.{code, or_row, only_if, highest, parallel_row}
use Rattle.gates.proofs.Laws.{by_folding}
use Rattle.parts.specs.Equations.{Built, list_of, past, given, build_emit, build_halt, build, build_sequence, build_loop, build_present, build_watching, build_parallel}
use Rattle.parts.specs.Equations.{build_trap}

-- kinds 3 to 6
abbrev pub is_gate : Cell → Bool
is_gate Low = false
is_gate High = false
is_gate (Input s) = false
is_gate (Gate g x y) = true
is_gate (Register x) = true

unfoldable pub gates_only : List Cell → Bool
gates_only [] = true
gates_only (c ∷ cs) = is_gate c && gates_only cs

abbrev pub Gates : List Cell → Type 0
Gates cs = gates_only cs ≡ true

pub gates_cons : (c : Cell) (cs : List Cell) → is_gate c ≡ true → Gates cs → Gates (c ∷ cs)
unfolding gates_only
gates_cons c cs h k = rw (h, k) refl

pub gates_nil : Gates []
unfolding gates_only
gates_nil = refl

and_assoc : (a b c : Bool) → (a && (b && c)) ≡ ((a && b) && c)
and_assoc = taut 3 0 _ _ _ tt

both : (xs ys : List Cell) → gates_only (xs ++ ys) ≡ (gates_only xs && gates_only ys)
unfolding gates_only
both [] ys = refl
both (c ∷ xs) ys = ap (λ (b : Bool). is_gate c && b) (both xs ys) ∙ and_assoc (is_gate c) (gates_only xs) (gates_only ys)

pub gates_append : (xs ys : List Cell) → Gates xs → Gates ys → Gates (xs ++ ys)
gates_append xs ys h k = both xs ys ∙ rw (h, k) refl

gate_gates : (g : gate.Gate) (n : ℕ) (x y : CellNo) → Gates (gate_at g n x y).cells
unfolding gates_only
gate_gates g n x y = by_folding (λ (w : New). Gates w.cells) g n x y (λ e. refl) (λ e. refl) refl

if_gates : (b : Bool) (n : ℕ) (x y : CellNo) → Gates (only_if b (butnot_at n x y)).cells
if_gates true n x y = gate_gates Butnot n x y
if_gates false n x y = gates_nil

row_gates : (xs ys : List CellNo) (n : ℕ) → Gates (or_row n xs ys).cells
unfolding or_row
row_gates [] ys n = gates_nil
row_gates (x ∷ xs) [] n = gates_nil
row_gates (x ∷ xs) (y ∷ ys) n = simp (both, gate_gates, row_gates xs ys (n + length (or_at n x y).cells))

highest_gates : (cs : List (CellNo × CellNo)) (n : ℕ) (keep : ℕ → Bool) → Gates (highest n keep cs).cells
unfolding highest
highest_gates [] n keep = gates_nil
highest_gates (c ∷ cs) n keep = simp (both, highest_gates cs n (λ j. keep (suc j)), gate_gates, if_gates)

parallel_row_gates : (cs : List (CellNo × CellNo)) (n : ℕ) (keep : ℕ → Bool) → Gates (parallel_row n keep cs).cells
unfolding parallel_row
parallel_row_gates [] n keep = gates_nil
parallel_row_gates (c ∷ cs) n keep = simp (both, highest_gates cs n (λ j. keep (suc j)), gate_gates, if_gates)

emit_gates : (s : SignalNo) (n : ℕ) (g : CellNo) (L : List CellNo) → Gates (build_emit s n g L).cells
unfolding build_emit
emit_gates s n g L = gate_gates Or n (list_of L s) g

halt_gates : (n : ℕ) (g r i : CellNo) (L : List CellNo) → Gates (build_halt n g r i L).cells
unfolding build_halt
halt_gates n g r i L = gates_cons _ _ refl (simp (both, gate_gates))

module _ (p : Built) (hp : Gates p.cells) where
  loop_gates : (g : CellNo) → Gates (build_loop g p).cells
  unfolding build_loop
  loop_gates g = gates_cons _ p.cells refl hp

  watching_gates : (s : SignalNo) (n : ℕ) (r : CellNo) (a : New) → Gates a.cells → Gates (build_watching s n r a p).cells
  unfolding build_watching
  watching_gates s n r a ha = simp (both, ha, hp, gate_gates)

  trap_gates : (n : ℕ) → Gates (build_trap n p).cells
  unfolding build_trap
  trap_gates n = simp (both, hp, gate_gates)

  module _ (q : Built) (hq : Gates q.cells) where
    sequence_gates : (n : ℕ) → Gates (build_sequence n p q).cells
    unfolding build_sequence
    sequence_gates n = simp (both, hp, hq, gate_gates, row_gates)

    present_gates : (n : ℕ) (x y : New) → Gates x.cells → Gates y.cells → Gates (build_present n x y p q).cells
    unfolding build_present
    present_gates n x y hx hy = simp (both, hx, hy, hp, hq, gate_gates, row_gates)

    parallel_gates : (n : ℕ) (i : CellNo) (keep : ℕ → Bool) → Gates (build_parallel n i keep p q).cells
    unfolding build_parallel
    parallel_gates n i keep = gates_cons _ _ refl (simp (both, hp, hq, gate_gates, parallel_row_gates))

pub build_gates : (t : Stmt) (n : ℕ) (g r i : CellNo) (L : List CellNo) → Gates (build t n g r i L).cells
unfolding build
build_gates (leaf Nothing) n g r i L = gates_nil
build_gates (leaf (Exit k)) n g r i L = gates_nil
build_gates (leaf (Emit s)) n g r i L = emit_gates s n g L
build_gates (leaf (Halt h)) n g r i L = halt_gates n g r i L
build_gates (two Sequence p q) n g r i L =
    let a : Built = build p n g r i L in
    let b : Built = build q (n + length a.cells) (code a.codes 0) r i a.lists in
    sequence_gates a (build_gates p n g r i L) b (build_gates q (n + length a.cells) (code a.codes 0) r i a.lists) n
build_gates (one Loop p) n g r i L = loop_gates (build p (suc n) (cell_no n) r i L) (build_gates p (suc n) (cell_no n) r i L) g
build_gates (two (Present s) p q) n g r i L =
    let x : New = and_at n g (signal_cell s) in
    let y : New = butnot_at (past n x) g (signal_cell s) in
    let n₁ : ℕ = past (past n x) y in
    let a : Built = build p n₁ x.net r i L in
    let b : Built = build q (n₁ + length a.cells) y.net r i a.lists in
    present_gates a (build_gates p n₁ x.net r i L) b (build_gates q (n₁ + length a.cells) y.net r i a.lists) n₁ x y
    (gate_gates And n g (signal_cell s)) (gate_gates Butnot (past n x) g (signal_cell s))
build_gates (one (Watching s) p) n g r i L =
    let a : New = butnot_at n r (signal_cell s) in
    watching_gates (build p (past n a) g a.net i L) (build_gates p (past n a) g a.net i L) s (past n a) r a (gate_gates Butnot n r (signal_cell s))
build_gates (two Parallel p q) n g r i L =
    let a : Built = build p (suc n) g r (cell_no n) L in
    let b : Built = build q (suc n + length a.cells) g r (cell_no n) a.lists in
    parallel_gates a (build_gates p (suc n) g r (cell_no n) L) b (build_gates q (suc n + length a.cells) g r (cell_no n) a.lists) n i
    (given (two Parallel p q))
build_gates (one Trap p) n g r i L = trap_gates (build p n g r i L) (build_gates p n g r i L) n
build_gates (one (Signal s) p) n g r i L = build_gates p n g r i L
