-- "one net for each code up to 1+d, d enclosing traps": the nets above 1+d are 0. Once, over d.
use Prim.Native.Nat.{ℕ, suc, ◌+◌}
use mathlib.Core.Path.{subst}
use mathlib.Core.Bool.{Bool}
use mathlib.Core.List.{List}
use native.Mathlib.Omega.{arith}
use native.Mathlib.Numerals.{add-one}
use lib.ListN.{length}
use Rattle.number.specs.Counts.{cell_no}
use Rattle.number.specs.declared.CellNo.{CellNo}
use Rattle.number.specs.declared.SignalNo.{SignalNo}
use Rattle.sheet.specs.declared.Leaf.TheVariants.{Nothing, Halt, Emit, Exit}
use Rattle.sheet.specs.declared.Unary.TheVariants.{Loop, Watching, Trap, Signal}
use Rattle.sheet.specs.declared.Binary.TheVariants.{Sequence, Present, Parallel}
use Rattle.sheet.specs.Stmt.{Stmt, leaf, one, two}
use Rattle.sheet.proofs.Notions.{Exits}
use Rattle.cells.specs.Cells.{low, signal_cell}
use Rattle.gates.specs.Folding.{New, and_at, butnot_at}
use Rattle.gates.specs.Rows.{code, with_code0}
use Rattle.gates.proofs.LowAbove.{LowAbove, only_low, with_code0_low, trap_low, or_row_low, parallel_low}
use Rattle.parts.specs.Equations.{Built, past, given, build_emit, build_halt, build, build_sequence, build_loop, build_present, build_watching, build_parallel}
use Rattle.parts.specs.Equations.{build_trap}

module _ (d : ℕ) where
  emit_low : (s : SignalNo) (n : ℕ) (g : CellNo) (L : List CellNo) → LowAbove d (build_emit s n g L).codes
  unfolding build_emit
  emit_low s n g L = only_low d 0 g (omega arith)

  halt_low : (n : ℕ) (g r i : CellNo) (L : List CellNo) → LowAbove d (build_halt n g r i L).codes
  unfolding build_halt
  halt_low n g r i L = only_low d 1 _ (omega arith)

  module _ (p : Built) (hp : LowAbove d p.codes) where
    loop_low : (g : CellNo) → LowAbove d (build_loop g p).codes
    unfolding build_loop
    loop_low g = with_code0_low d low p.codes hp

    watching_low : (s : SignalNo) (n : ℕ) (r : CellNo) (a : New) → LowAbove d (build_watching s n r a p).codes
    unfolding build_watching
    watching_low s n r a = with_code0_low d _ p.codes hp

    module _ (q : Built) (hq : LowAbove d q.codes) where
      sequence_low : (n : ℕ) → LowAbove d (build_sequence n p q).codes
      unfolding build_sequence
      sequence_low n = or_row_low d _ (with_code0 low p.codes) q.codes (with_code0_low d low p.codes hp) hq

      present_low : (n : ℕ) (x y : New) → LowAbove d (build_present n x y p q).codes
      unfolding build_present
      present_low n x y = or_row_low d _ p.codes q.codes hp hq

      both_low : (n : ℕ) (i : CellNo) (keep : ℕ → Bool) → LowAbove d (build_parallel n i keep p q).codes
      unfolding build_parallel
      both_low n i keep = parallel_low d _ keep p.codes q.codes hp hq

-- a trap has one enclosing trap less than its part
caught_low : (d n : ℕ) (p : Built) → LowAbove (d + 1) p.codes → LowAbove d (build_trap n p).codes
unfolding build_trap
caught_low d n p hp = trap_low d _ p.codes (subst (λ (k : ℕ). LowAbove k p.codes) (add-one d) hp)

pub codes_low : (d : ℕ) (t : Stmt) (n : ℕ) (g r i : CellNo) (L : List CellNo) → Exits d t → LowAbove d (build t n g r i L).codes
unfolding build Exits
codes_low d (leaf Nothing) n g r i L h = only_low d 0 g (omega arith)
codes_low d (leaf (Exit k)) n g r i L h = only_low d k g h.1
codes_low d (leaf (Emit s)) n g r i L h = emit_low d s n g L
codes_low d (leaf (Halt k)) n g r i L h = halt_low d n g r i L
codes_low d (two Sequence p q) n g r i L h =
    let a : Built = build p n g r i L in
    let b : Built = build q (n + length a.cells) (code a.codes 0) r i a.lists in
    sequence_low d a (codes_low d p n g r i L h.0) b (codes_low d q (n + length a.cells) (code a.codes 0) r i a.lists h.1) n
codes_low d (one Loop p) n g r i L h = loop_low d (build p (suc n) (cell_no n) r i L) (codes_low d p (suc n) (cell_no n) r i L h.1) g
codes_low d (two (Present s) p q) n g r i L h =
    let x : New = and_at n g (signal_cell s) in
    let y : New = butnot_at (past n x) g (signal_cell s) in
    let n₁ : ℕ = past (past n x) y in
    let a : Built = build p n₁ x.net r i L in
    let b : Built = build q (n₁ + length a.cells) y.net r i a.lists in
    present_low d a (codes_low d p n₁ x.net r i L h.0) b (codes_low d q (n₁ + length a.cells) y.net r i a.lists h.1) n₁ x y
codes_low d (one (Watching s) p) n g r i L h =
    let a : New = butnot_at n r (signal_cell s) in
    watching_low d (build p (past n a) g a.net i L) (codes_low d p (past n a) g a.net i L h.1) s (past n a) r a
codes_low d (two Parallel p q) n g r i L h =
    let a : Built = build p (suc n) g r (cell_no n) L in
    let b : Built = build q (suc n + length a.cells) g r (cell_no n) a.lists in
    both_low d a (codes_low d p (suc n) g r (cell_no n) L h.0) b (codes_low d q (suc n + length a.cells) g r (cell_no n) a.lists h.1) n i
    (given (two Parallel p q))
codes_low d (one Trap p) n g r i L h = caught_low d n (build p n g r i L) (codes_low (d + 1) p n g r i L h.1)
codes_low d (one (Signal s) p) n g r i L h = codes_low d p n g r i L h.1
