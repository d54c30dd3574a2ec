-- A statement's cells are few, and it has a net for each code. A parallel makes the most: Q, sel and three for each code above 0, two for code 0.
use Prim.Native.Nat.{ℕ, suc, ◌+◌, ◌*◌, ◌-◌, ◌≤◌, ◌<◌}
use mathlib.Core.Path.{◌≡◌, refl, sym, ap, ◌∙◌}
use mathlib.Core.Bool.{Bool, true, false}
use mathlib.Core.List.{List, [], ◌∷◌, ◌++◌}
use native.Mathlib.Omega.{arith}
use lib.ListN.{length, drop, length-append, length-drop, length-replicate}
use Rattle.number.specs.Counts.{cell_no}
use Rattle.number.specs.declared.CellNo.{CellNo}
use Rattle.number.specs.declared.SignalNo.{SignalNo}
use Rattle.limits.specs.Limits.{max_codes}
use Rattle.sheet.specs.declared.Leaf.TheVariants.{Nothing, Halt, Emit, Exit}
use Rattle.sheet.specs.declared.Unary.TheVariants.{Loop, Watching, Trap, Signal}
use Rattle.sheet.specs.declared.Binary.TheVariants.{Sequence, Present, Parallel}
use Rattle.sheet.specs.Stmt.{Stmt, leaf, one, two, size}
use Rattle.sets.specs.Words.{Low}
use Rattle.cells.specs.declared.Gate.TheVariants.{Or, And, Butnot}
use Rattle.cells.specs.Cells.{low, signal_cell}
use Rattle.cells.specs.declared.Gate as gate
use Rattle.gates.specs.Folding.{New, gate_at, or_at, and_at, butnot_at}
use Rattle.gates.specs.Rows.{code, only, with_code0, trap_row, NewRow, or_row, pairs, only_if, NewCode, level_at, last_at, NewCodes, highest, parallel_row}
use Rattle.gates.proofs.Laws.{by_folding}
use Rattle.gates.proofs.ParallelRow.{pairs_length}
use Rattle.parts.specs.Contract.{own_cells}
use Rattle.parts.specs.Equations.{Built, list_of, past, given, build_exit, build_emit, build_halt, build, build_sequence, build_loop, build_present, build_watching}
use Rattle.parts.specs.Equations.{build_parallel, build_trap}

-- a gate makes one cell at most
pub gate_few : (g : gate.Gate) (n : ℕ) (x y : CellNo) → length (gate_at g n x y).cells ≤ 1
gate_few g n x y = by_folding (λ (w : New). length w.cells ≤ 1) g n x y (λ e. omega arith) (λ e. omega arith) (omega arith)

-- rows: as many nets as codes
only_long : (k : ℕ) (g : CellNo) → k < max_codes → length (only k g) ≡ max_codes
only_long k g h = simp (length-append, length-replicate) (omega arith)

with_code0_long : (y : CellNo) (ks : List CellNo) → length ks ≡ max_codes → length (with_code0 y ks) ≡ max_codes
with_code0_long y ks h = omega (arith, length-drop 1 ks)

trap_long : (o : CellNo) (ks : List CellNo) → length ks ≡ max_codes → length (trap_row o ks) ≡ max_codes
trap_long o ks h = omega (arith, length-append (drop 3 ks) (low ∷ []), length-drop 3 ks)

or_row_few : (ps qs : List CellNo) (n : ℕ) → length (or_row n ps qs).cells ≤ length ps
unfolding or_row
or_row_few [] qs n = omega arith
or_row_few (p ∷ ps) [] n = omega arith
or_row_few (p ∷ ps) (q ∷ qs) n =
    let o : New = or_at n p q in
    let r : NewRow = or_row (past n o) ps qs in
    omega (arith, length-append o.cells r.cells, gate_few Or n p q, or_row_few ps qs (past n o))

or_row_long : (ps qs : List CellNo) (n : ℕ) → length ps ≡ length qs → length (or_row n ps qs).nets ≡ length ps
unfolding or_row
or_row_long [] [] n e = refl
or_row_long [] (q ∷ qs) n e = absurd (omega arith)
or_row_long (p ∷ ps) [] n e = refl
or_row_long (p ∷ ps) (q ∷ qs) n e = ap suc (or_row_long ps qs (past n (or_at n p q)) (omega arith))

only_if_few : (keep : Bool) (w : New) → length w.cells ≤ 1 → length (only_if keep w).cells ≤ 1
only_if_few true w h = h
only_if_few false w h = omega arith

level_few : (n : ℕ) (keep : Bool) (p q x : CellNo) → length (level_at n keep p q x).cells ≤ 3
level_few n keep p q x =
    let m : New = or_at n p q in
    let b : New = only_if keep (butnot_at (past n m) m.net x) in
    let y : New = or_at (past (past n m) b) x m.net in
    omega (
      arith,
      length-append m.cells (b.cells ++ y.cells),
      length-append b.cells y.cells,
      gate_few Or n p q,
      only_if_few keep (butnot_at (past n m) m.net x) (gate_few Butnot (past n m) m.net x),
      gate_few Or (past (past n m) b) x m.net,
    )

last_few : (n : ℕ) (keep : Bool) (p q x : CellNo) → length (last_at n keep p q x).cells ≤ 2
last_few n keep p q x =
    let m : New = or_at n p q in
    let b : New = only_if keep (butnot_at (past n m) m.net x) in
    omega (
      arith,
      length-append m.cells b.cells,
      gate_few Or n p q,
      only_if_few keep (butnot_at (past n m) m.net x) (gate_few Butnot (past n m) m.net x),
    )

-- at most m cells, and k nets
record HighestFew (m k : ℕ) (h : NewCodes) : Type 0 where
  few : length h.cells ≤ m
  long : length h.nets ≡ k

highest_few : (cs : List (CellNo × CellNo)) (n : ℕ) (keep : ℕ → Bool) → HighestFew (3 * length cs) (length cs) (highest n keep cs)
unfolding highest
highest_few [] n keep = record { few = omega arith; long = refl }
highest_few (c ∷ cs) n keep =
    let r : NewCodes = highest n (λ j. keep (suc j)) cs in
    let v : NewCode = level_at (n + length r.cells) (keep 0) c.0 c.1 (code r.above 0) in
    let rest = highest_few cs n (λ j. keep (suc j)) in
    record {
      few = omega (arith, length-append r.cells v.cells, rest.few, level_few (n + length r.cells) (keep 0) c.0 c.1 (code r.above 0));
      long = ap suc rest.long;
    }

row_few : (cs : List (CellNo × CellNo)) (n : ℕ) (keep : ℕ → Bool) → HighestFew (3 * length cs - 1) (length cs) (parallel_row n keep cs)
unfolding parallel_row
row_few [] n keep = record { few = omega arith; long = refl }
row_few (c ∷ cs) n keep =
    let r : NewCodes = highest n (λ j. keep (suc j)) cs in
    let v : New = last_at (n + length r.cells) (keep 0) c.0 c.1 (code r.above 0) in
    let rest = highest_few cs n (λ j. keep (suc j)) in
    record {
      few = omega (arith, length-append r.cells v.cells, rest.few, last_few (n + length r.cells) (keep 0) c.0 c.1 (code r.above 0));
      long = ap suc rest.long;
    }

-- at most k cells, and a net for each code
pub record Sized (k : ℕ) (o : Built) : Type 0 where
  pub few : length o.cells ≤ k
  pub long : length o.codes ≡ max_codes

-- Each kind, from its parts.
exit_sized : (k : ℕ) (g : CellNo) (L : List CellNo) → k < max_codes → Sized own_cells (build_exit k g L)
exit_sized k g L h = record { few = omega arith; long = only_long k g h }

emit_sized : (s : SignalNo) (n : ℕ) (g : CellNo) (L : List CellNo) → Sized own_cells (build_emit s n g L)
unfolding build_emit
emit_sized s n g L = record { few = omega (arith, gate_few Or n (list_of L s) g); long = only_long 0 g (omega arith) }

halt_sized : (n : ℕ) (g r i : CellNo) (L : List CellNo) → Sized own_cells (build_halt n g r i L)
unfolding build_halt
halt_sized n g r i L =
    let x : New = and_at (suc n) r (cell_no n) in
    let v : New = or_at (past (suc n) x) g x.net in
    let w : New = butnot_at (past (past (suc n) x) v) v.net i in
    record {
      few = omega (
        arith,
        length-append x.cells (v.cells ++ w.cells),
        length-append v.cells w.cells,
        gate_few And (suc n) r (cell_no n),
        gate_few Or (past (suc n) x) g x.net,
        gate_few Butnot (past (past (suc n) x) v) v.net i,
      );
      long = only_long 1 v.net (omega arith);
    }

loop_sized : (k : ℕ) (g : CellNo) (p : Built) → Sized k p → Sized (k + own_cells) (build_loop g p)
unfolding build_loop
loop_sized k g p h = record { few = omega (arith, h.few); long = with_code0_long low p.codes h.long }

watching_sized : (k : ℕ) (s : SignalNo) (n : ℕ) (r : CellNo) (a : New) (p : Built) → length a.cells ≤ 1 → Sized k p
    → Sized (k + own_cells) (build_watching s n r a p)
unfolding build_watching
watching_sized k s n r a p ha h =
    let n₂ : ℕ = n + length p.cells in
    let x : New = and_at n₂ r p.sel in
    let y : New = and_at (past n₂ x) x.net (signal_cell s) in
    let o : New = or_at (past (past n₂ x) y) (code p.codes 0) y.net in
    record {
      few = omega (
        arith,
        length-append a.cells (p.cells ++ (x.cells ++ (y.cells ++ o.cells))),
        length-append p.cells (x.cells ++ (y.cells ++ o.cells)),
        length-append x.cells (y.cells ++ o.cells),
        length-append y.cells o.cells,
        h.few,
        gate_few And n₂ r p.sel,
        gate_few And (past n₂ x) x.net (signal_cell s),
        gate_few Or (past (past n₂ x) y) (code p.codes 0) y.net,
      );
      long = with_code0_long o.net p.codes h.long;
    }

trap_sized : (k n : ℕ) (p : Built) → Sized k p → Sized (k + own_cells) (build_trap n p)
unfolding build_trap
trap_sized k n p h =
    let o : New = or_at (n + length p.cells) (code p.codes 0) (code p.codes 2) in
    record {
      few = omega (arith, length-append p.cells o.cells, h.few, gate_few Or (n + length p.cells) (code p.codes 0) (code p.codes 2));
      long = trap_long o.net p.codes h.long;
    }

sequence_sized : (k m n : ℕ) (p q : Built) → Sized k p → Sized m q → Sized (k + m + own_cells) (build_sequence n p q)
unfolding build_sequence
sequence_sized k m n p q hp hq =
    let n₂ : ℕ = n + length p.cells + length q.cells in
    let s : New = or_at n₂ p.sel q.sel in
    let ps : List CellNo = with_code0 low p.codes in
    let whole : length ps ≡ max_codes = with_code0_long low p.codes hp.long in
    let c : NewRow = or_row (past n₂ s) ps q.codes in
    record {
      few = omega (
        arith,
        length-append p.cells (q.cells ++ (s.cells ++ c.cells)),
        length-append q.cells (s.cells ++ c.cells),
        length-append s.cells c.cells,
        hp.few,
        hq.few,
        gate_few Or n₂ p.sel q.sel,
        or_row_few ps q.codes (past n₂ s),
      );
      long = or_row_long ps q.codes (past n₂ s) (whole ∙ sym hq.long) ∙ whole;
    }

present_sized : (k m n : ℕ) (x y : New) (p q : Built) → length x.cells ≤ 1 → length y.cells ≤ 1 → Sized k p → Sized m q
    → Sized (k + m + own_cells) (build_present n x y p q)
unfolding build_present
present_sized k m n x y p q hx hy hp hq =
    let n₂ : ℕ = n + length p.cells + length q.cells in
    let s : New = or_at n₂ p.sel q.sel in
    let c : NewRow = or_row (past n₂ s) p.codes q.codes in
    record {
      few = omega (
        arith,
        length-append x.cells (y.cells ++ (p.cells ++ (q.cells ++ (s.cells ++ c.cells)))),
        length-append y.cells (p.cells ++ (q.cells ++ (s.cells ++ c.cells))),
        length-append p.cells (q.cells ++ (s.cells ++ c.cells)),
        length-append q.cells (s.cells ++ c.cells),
        length-append s.cells c.cells,
        hp.few,
        hq.few,
        hp.long,
        gate_few Or n₂ p.sel q.sel,
        or_row_few p.codes q.codes (past n₂ s),
      );
      long = or_row_long p.codes q.codes (past n₂ s) (hp.long ∙ sym hq.long) ∙ hp.long;
    }

parallel_sized : (k m n : ℕ) (i : CellNo) (keep : ℕ → Bool) (p q : Built) → Sized k p → Sized m q
    → Sized (k + m + own_cells) (build_parallel n i keep p q)
unfolding build_parallel
parallel_sized k m n i keep p q hp hq =
    let n₂ : ℕ = suc n + length p.cells + length q.cells in
    let s : New = or_at n₂ p.sel q.sel in
    let cs : List (CellNo × CellNo) = pairs p.codes q.codes in
    let whole : length cs ≡ max_codes = pairs_length p.codes q.codes (hp.long ∙ sym hq.long) ∙ hp.long in
    let c : NewCodes = parallel_row (past n₂ s) keep cs in
    let row = row_few cs (past n₂ s) keep in
    record {
      few = omega (
        arith,
        length-append p.cells (q.cells ++ (s.cells ++ c.cells)),
        length-append q.cells (s.cells ++ c.cells),
        length-append s.cells c.cells,
        hp.few,
        hq.few,
        gate_few Or n₂ p.sel q.sel,
        row.few,
      );
      long = row.long ∙ whole;
    }

more : {a b : ℕ} {o : Built} → a ≤ b → Sized a o → Sized b o
more h s = record { few = omega (arith, s.few); long = s.long }

-- at most `own_cells` for each statement in it
pub sized : (t : Stmt) (n : ℕ) (g r i : CellNo) (L : List CellNo) → Low t → Sized (own_cells * size t) (build t n g r i L)
unfolding build size Low
sized (leaf Nothing) n g r i L h = exit_sized 0 g L (omega arith)
sized (leaf (Exit k)) n g r i L h = exit_sized k g L h
sized (leaf (Emit s)) n g r i L h = emit_sized s n g L
sized (leaf (Halt k)) n g r i L h = halt_sized n g r i L
sized (two Sequence p q) n g r i L h =
    let a : Built = build p n g r i L in
    more (omega arith) (sequence_sized (own_cells * size p) (own_cells * size q) n a (build q (n + length a.cells) (code a.codes 0) r i a.lists)
    (sized p n g r i L h.0) (sized q (n + length a.cells) (code a.codes 0) r i a.lists h.1))
sized (one Loop p) n g r i L h =
    more (omega arith) (loop_sized (own_cells * size p) g (build p (suc n) (cell_no n) r i L) (sized p (suc n) (cell_no n) r i L h))
sized (two (Present s) p q) n g r i L h =
    let x : New = and_at n g (signal_cell s) in
    let y : New = butnot_at (past n x) g (signal_cell s) in
    let n₁ : ℕ = past (past n x) y in
    let a : Built = build p n₁ x.net r i L in
    more (omega arith) (present_sized (own_cells * size p) (own_cells * size q) n₁ x y a (build q (n₁ + length a.cells) y.net r i a.lists)
    (gate_few And n g (signal_cell s)) (gate_few Butnot (past n x) g (signal_cell s)) (sized p n₁ x.net r i L h.0)
    (sized q (n₁ + length a.cells) y.net r i a.lists h.1))
sized (one (Watching s) p) n g r i L h =
    let a : New = butnot_at n r (signal_cell s) in
    more (omega arith) (watching_sized (own_cells * size p) s (past n a) r a (build p (past n a) g a.net i L) (gate_few Butnot n r (signal_cell s))
    (sized p (past n a) g a.net i L h))
sized (two Parallel p q) n g r i L h =
    let a : Built = build p (suc n) g r (cell_no n) L in
    more (omega arith) (parallel_sized (own_cells * size p) (own_cells * size q) n i (given (two Parallel p q)) a
    (build q (suc n + length a.cells) g r (cell_no n) a.lists) (sized p (suc n) g r (cell_no n) L h.0)
    (sized q (suc n + length a.cells) g r (cell_no n) a.lists h.1))
sized (one Trap p) n g r i L h = more (omega arith) (trap_sized (own_cells * size p) n (build p n g r i L) (sized p n g r i L h))
sized (one (Signal s) p) n g r i L h = more (omega arith) (sized p n g r i L h)
