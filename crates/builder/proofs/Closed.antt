-- Every operand is a cell: where what is handed in is below m, and the cells end by m, the operands and what is returned are below m.
use Prim.Native.Nat.{ℕ, zero, suc, ◌+◌, ◌≤◌, ◌<◌}
use mathlib.Core.Path.{◌≡◌, refl}
use mathlib.Core.Bool.{Bool}
use mathlib.Core.List.{List, [], ◌∷◌, ◌++◌}
use native.Mathlib.Omega.{arith}
use lib.ListN.{length, set, length-append}
use Rattle.number.specs.Counts.{cell_no, of_cell, of_signal}
use Rattle.number.specs.declared.CellNo.{CellNo}
use Rattle.number.specs.declared.SignalNo.{SignalNo}
use Rattle.sheet.specs.declared.Leaf.TheVariants.{Nothing, Halt, Emit, Exit}
use Rattle.sheet.specs.declared.Unary.TheVariants.{Loop, Watching, Trap, Signal}
use Rattle.sheet.specs.declared.Binary.TheVariants.{Sequence, Present, Parallel}
use Rattle.sheet.specs.Stmt.{Stmt, leaf, one, two}
use Rattle.sheet.proofs.Notions.{Scoped}
use Rattle.cells.specs.declared.Cell.{Cell}
use Rattle.cells.specs.Cells.{low, signal_cell}
use Rattle.cells.specs.declared.Gate.TheVariants.{Or, And, Butnot}
use Rattle.cells.proofs.Within.{AllWithin, none_within, append_within}
use Rattle.gates.specs.Folding.{New, or_at, and_at, butnot_at}
use Rattle.gates.specs.Rows.{code, with_code0, NewRow, or_row, pairs, NewCodes, parallel_row}
use Rattle.gates.proofs.Operands.{NetsBelow, gate_within, only_within, with_code0_within, trap_within, or_row_within, parallel_row_within}
use Rattle.parts.specs.Equations.{Built, list_of, past, given, build_exit, build_emit, build_halt, build, build_sequence, build_loop, build_present, build_watching}
use Rattle.parts.specs.Equations.{build_parallel, build_trap}

pub record BuiltWithin (s m : ℕ) (o : Built) : Type 0 where
  pub operands : AllWithin s m o.cells
  pub sel : of_cell o.sel < m
  pub codes : NetsBelow m o.codes
  pub lists : NetsBelow m o.lists

module _ (s m : ℕ) where
  set_below : (L : List CellNo) (k : ℕ) (x : CellNo) → NetsBelow m L → of_cell x < m → NetsBelow m (set L k x)
  set_below [] k x h hx j = h j
  set_below (y ∷ L) zero x h hx zero = hx
  set_below (y ∷ L) zero x h hx (suc j) = h (suc j)
  set_below (y ∷ L) (suc k) x h hx zero = h 0
  set_below (y ∷ L) (suc k) x h hx (suc j) = set_below L k x (λ i. h (suc i)) hx j

  exit_within : (k : ℕ) (g : CellNo) (L : List CellNo) → of_cell g < m → NetsBelow m L → BuiltWithin s m (build_exit k g L)
  exit_within k g L hg h_l = record { operands = none_within s m; sel = omega arith; codes = only_within s m k g hg; lists = h_l }

  emit_within : (e : SignalNo) (n : ℕ) (g : CellNo) (L : List CellNo) → of_cell g < m → NetsBelow m L → n + length (build_emit e n g L).cells ≤ m
      → BuiltWithin s m (build_emit e n g L)
  unfolding build_emit
  emit_within e n g L hg h_l h =
      let o = gate_within s m Or n (list_of L e) g (h_l (of_signal e)) hg h in
      record { operands = o.operands; sel = omega arith; codes = only_within s m 0 g hg; lists = set_below L (of_signal e) _ h_l o.net }

  halt_within : (n : ℕ) (g r i : CellNo) (L : List CellNo) → of_cell g < m → of_cell r < m → of_cell i < m → NetsBelow m L
      → n + length (build_halt n g r i L).cells ≤ m → BuiltWithin s m (build_halt n g r i L)
  unfolding build_halt AllWithin
  halt_within n g r i L hg hr hi h_l h =
      let x : New = and_at (suc n) r (cell_no n) in
      let v : New = or_at (past (suc n) x) g x.net in
      let w : New = butnot_at (past (past (suc n) x) v) v.net i in
      let l₁ : length (x.cells ++ (v.cells ++ w.cells)) ≡ length x.cells + length (v.cells ++ w.cells) = length-append x.cells
      (v.cells ++ w.cells) in
      let l₂ : length (v.cells ++ w.cells) ≡ length v.cells + length w.cells = length-append v.cells w.cells in
      let wx = gate_within s m And (suc n) r (cell_no n) hr (omega arith) (omega arith) in
      let wv = gate_within s m Or (past (suc n) x) g x.net hg wx.net (omega arith) in
      let ww = gate_within s m Butnot (past (past (suc n) x) v) v.net i wv.net hi (omega arith) in
      record {
        operands = (
          ww.net,
          append_within s m x.cells (v.cells ++ w.cells) wx.operands
              (append_within s m v.cells w.cells wv.operands ww.operands),
        );
        sel = omega arith;
        codes = only_within s m 1 v.net wv.net;
        lists = h_l;
      }

  loop_within : (g : CellNo) (p : Built) → of_cell g < m → BuiltWithin s m p → BuiltWithin s m (build_loop g p)
  unfolding build_loop AllWithin
  loop_within g p hg hp =
      record {
        operands = ((hg, hp.codes 0), hp.operands);
        sel = hp.sel;
        codes = with_code0_within s m low p.codes (omega (arith, hg)) hp.codes;
        lists = hp.lists;
      }

  watching_within : (e : SignalNo) (k n : ℕ) (r : CellNo) (a : New) (p : Built) → of_cell (signal_cell e) < m → of_cell r < m
      → AllWithin s m a.cells
      → n ≡ past k a → (n + length p.cells ≤ m → BuiltWithin s m p) → k + length (build_watching e n r a p).cells ≤ m
      → BuiltWithin s m (build_watching e n r a p)
  unfolding build_watching
  watching_within e k n r a p he hr ha place f h =
      let n₂ : ℕ = n + length p.cells in
      let x : New = and_at n₂ r p.sel in
      let y : New = and_at (past n₂ x) x.net (signal_cell e) in
      let o : New = or_at (past (past n₂ x) y) (code p.codes 0) y.net in
      let l₁ : length (a.cells ++ (p.cells ++ (x.cells ++ (y.cells ++ o.cells)))) ≡ length a.cells + length
      (p.cells ++ (x.cells ++ (y.cells ++ o.cells))) =
      length-append a.cells (p.cells ++ (x.cells ++ (y.cells ++ o.cells))) in
      let l₂ : length (p.cells ++ (x.cells ++ (y.cells ++ o.cells))) ≡ length p.cells + length (x.cells ++ (y.cells ++ o.cells)) =
      length-append p.cells (x.cells ++ (y.cells ++ o.cells)) in
      let l₃ : length (x.cells ++ (y.cells ++ o.cells)) ≡ length x.cells + length (y.cells ++ o.cells) = length-append x.cells
      (y.cells ++ o.cells) in
      let l₄ : length (y.cells ++ o.cells) ≡ length y.cells + length o.cells = length-append y.cells o.cells in
      let hp : BuiltWithin s m p = f (omega arith) in
      let wx = gate_within s m And n₂ r p.sel hr hp.sel (omega arith) in
      let wy = gate_within s m And (past n₂ x) x.net (signal_cell e) wx.net he (omega arith) in
      let wo = gate_within s m Or (past (past n₂ x) y) (code p.codes 0) y.net (hp.codes 0) wy.net (omega arith) in
      record {
        operands = append_within s m a.cells (p.cells ++ (x.cells ++ (y.cells ++ o.cells))) ha
            (append_within s m p.cells (x.cells ++ (y.cells ++ o.cells)) hp.operands
            (append_within s m x.cells (y.cells ++ o.cells) wx.operands (append_within s m y.cells o.cells wy.operands wo.operands)));
        sel = hp.sel;
        codes = with_code0_within s m o.net p.codes wo.net hp.codes;
        lists = hp.lists;
      }

  trap_built : (n : ℕ) (p : Built) → (n + length p.cells ≤ m → BuiltWithin s m p) → n + length (build_trap n p).cells ≤ m
      → BuiltWithin s m (build_trap n p)
  unfolding build_trap
  trap_built n p f h =
      let o : New = or_at (n + length p.cells) (code p.codes 0) (code p.codes 2) in
      let l₁ : length (p.cells ++ o.cells) ≡ length p.cells + length o.cells = length-append p.cells o.cells in
      let hp : BuiltWithin s m p = f (omega arith) in
      let wo = gate_within s m Or (n + length p.cells) (code p.codes 0) (code p.codes 2) (hp.codes 0) (hp.codes 2) (omega arith) in
      record {
        operands = append_within s m p.cells o.cells hp.operands wo.operands;
        sel = hp.sel;
        codes = trap_within s m o.net p.codes wo.net hp.codes;
        lists = hp.lists;
      }

  sequence_within : (n : ℕ) (p q : Built) → (n + length p.cells ≤ m → BuiltWithin s m p)
      → (n + length p.cells + length q.cells ≤ m → BuiltWithin s m p → BuiltWithin s m q) → n + length (build_sequence n p q).cells ≤ m
      → BuiltWithin s m (build_sequence n p q)
  unfolding build_sequence
  sequence_within n p q f f' h =
      let n₂ : ℕ = n + length p.cells + length q.cells in
      let z : New = or_at n₂ p.sel q.sel in
      let ps : List CellNo = with_code0 low p.codes in
      let c : NewRow = or_row (past n₂ z) ps q.codes in
      let l₁ : length (p.cells ++ (q.cells ++ (z.cells ++ c.cells))) ≡ length p.cells + length (q.cells ++ (z.cells ++ c.cells)) =
      length-append p.cells (q.cells ++ (z.cells ++ c.cells)) in
      let l₂ : length (q.cells ++ (z.cells ++ c.cells)) ≡ length q.cells + length (z.cells ++ c.cells) = length-append q.cells
      (z.cells ++ c.cells) in
      let l₃ : length (z.cells ++ c.cells) ≡ length z.cells + length c.cells = length-append z.cells c.cells in
      let hp : BuiltWithin s m p = f (omega arith) in
      let hq : BuiltWithin s m q = f' (omega arith) hp in
      let wz = gate_within s m Or n₂ p.sel q.sel hp.sel hq.sel (omega arith) in
      let wc = or_row_within s m ps q.codes (past n₂ z) (with_code0_within s m low p.codes (omega (arith, hp.sel)) hp.codes) hq.codes
      (omega arith) in
      record {
        operands = append_within s m p.cells (q.cells ++ (z.cells ++ c.cells)) hp.operands
            (append_within s m q.cells (z.cells ++ c.cells) hq.operands (append_within s m z.cells c.cells wz.operands wc.operands));
        sel = wz.net;
        codes = wc.nets;
        lists = hq.lists;
      }

  present_within : (k n : ℕ) (x y : New) (p q : Built) → AllWithin s m x.cells → AllWithin s m y.cells → n ≡ past (past k x) y
      → (n + length p.cells ≤ m → BuiltWithin s m p) → (n + length p.cells + length q.cells ≤ m → BuiltWithin s m p → BuiltWithin s m q)
      → k + length (build_present n x y p q).cells ≤ m → BuiltWithin s m (build_present n x y p q)
  unfolding build_present
  present_within k n x y p q hx hy place f f' h =
      let n₂ : ℕ = n + length p.cells + length q.cells in
      let z : New = or_at n₂ p.sel q.sel in
      let c : NewRow = or_row (past n₂ z) p.codes q.codes in
      let rest : List Cell = q.cells ++ (z.cells ++ c.cells) in
      let l₀ : length (x.cells ++ (y.cells ++ (p.cells ++ rest))) ≡ length x.cells + length (y.cells ++ (p.cells ++ rest)) =
      length-append x.cells (y.cells ++ (p.cells ++ rest)) in
      let l₁ : length (y.cells ++ (p.cells ++ rest)) ≡ length y.cells + length (p.cells ++ rest) = length-append y.cells (p.cells ++ rest) in
      let l₂ : length (p.cells ++ rest) ≡ length p.cells + length rest = length-append p.cells rest in
      let l₃ : length rest ≡ length q.cells + length (z.cells ++ c.cells) = length-append q.cells (z.cells ++ c.cells) in
      let l₄ : length (z.cells ++ c.cells) ≡ length z.cells + length c.cells = length-append z.cells c.cells in
      let hp : BuiltWithin s m p = f (omega arith) in
      let hq : BuiltWithin s m q = f' (omega arith) hp in
      let wz = gate_within s m Or n₂ p.sel q.sel hp.sel hq.sel (omega arith) in
      let wc = or_row_within s m p.codes q.codes (past n₂ z) hp.codes hq.codes (omega arith) in
      record {
        operands = append_within s m x.cells (y.cells ++ (p.cells ++ rest)) hx (append_within s m y.cells (p.cells ++ rest) hy
            (append_within s m p.cells rest hp.operands (append_within s m q.cells (z.cells ++ c.cells) hq.operands
            (append_within s m z.cells c.cells wz.operands wc.operands))));
        sel = wz.net;
        codes = wc.nets;
        lists = hq.lists;
      }

  parallel_within : (n : ℕ) (i : CellNo) (keep : ℕ → Bool) (p q : Built) → of_cell i < m → (suc n + length p.cells ≤ m → BuiltWithin s m p)
      → (suc n + length p.cells + length q.cells ≤ m → BuiltWithin s m p → BuiltWithin s m q)
      → n + length (build_parallel n i keep p q).cells ≤ m → BuiltWithin s m (build_parallel n i keep p q)
  unfolding build_parallel AllWithin
  parallel_within n i keep p q hi f f' h =
      let n₂ : ℕ = suc n + length p.cells + length q.cells in
      let z : New = or_at n₂ p.sel q.sel in
      let c : NewCodes = parallel_row (past n₂ z) keep (pairs p.codes q.codes) in
      let l₁ : length (p.cells ++ (q.cells ++ (z.cells ++ c.cells))) ≡ length p.cells + length (q.cells ++ (z.cells ++ c.cells)) =
      length-append p.cells (q.cells ++ (z.cells ++ c.cells)) in
      let l₂ : length (q.cells ++ (z.cells ++ c.cells)) ≡ length q.cells + length (z.cells ++ c.cells) = length-append q.cells
      (z.cells ++ c.cells) in
      let l₃ : length (z.cells ++ c.cells) ≡ length z.cells + length c.cells = length-append z.cells c.cells in
      let hp : BuiltWithin s m p = f (omega arith) in
      let hq : BuiltWithin s m q = f' (omega arith) hp in
      let wz = gate_within s m Or n₂ p.sel q.sel hp.sel hq.sel (omega arith) in
      let wc = parallel_row_within s m p.codes q.codes (past n₂ z) keep hp.codes hq.codes (omega arith) in
      record {
        operands = (
          (hi, wc.above 1),
          append_within s m p.cells (q.cells ++ (z.cells ++ c.cells)) hp.operands
              (append_within s m q.cells (z.cells ++ c.cells) hq.operands (append_within s m z.cells c.cells wz.operands wc.operands)),
        );
        sel = wz.net;
        codes = wc.nets;
        lists = hq.lists;
      }

-- the net of the signal that a statement names is below m where m is past the cells of all signals
module _ (s m i N : ℕ) (signals : suc N ≤ m) where
  -- what is made before a part ends by m
  loop_fits : (n : ℕ) (g : CellNo) (a : Built) → n + length (build_loop g a).cells ≤ m → suc n + length a.cells ≤ m
  unfolding build_loop
  loop_fits n g a h = omega arith

  present_fits : (n n₁ : ℕ) (x y : New) (a b : Built) → n₁ ≡ past (past n x) y → n + length (build_present n₁ x y a b).cells ≤ m → n₁ ≤ m
  unfolding build_present
  present_fits n n₁ x y a b e h = omega (arith, simp (length-append) at h)

  watching_fits : (e : SignalNo) (n : ℕ) (r : CellNo) (a : New) (b : Built) → n + length (build_watching e (past n a) r a b).cells ≤ m
      → past n a ≤ m
  unfolding build_watching
  watching_fits e n r a b h = omega (arith, simp (length-append) at h)

  parallel_fits : (n : ℕ) (k : CellNo) (keep : ℕ → Bool) (a b : Built) → n + length (build_parallel n k keep a b).cells ≤ m → n < m
  unfolding build_parallel
  parallel_fits n k keep a b h = omega arith

  pub build_within : (t : Stmt) (n : ℕ) (g r k : CellNo) (L : List CellNo) → Scoped i N t → of_cell g < m → of_cell r < m → of_cell k < m
      → NetsBelow m L
      → n + length (build t n g r k L).cells ≤ m → BuiltWithin s m (build t n g r k L)
  unfolding build Scoped
  build_within (leaf Nothing) n g r k L c hg hr hk h_l h = exit_within s m 0 g L hg h_l
  build_within (leaf (Exit x)) n g r k L c hg hr hk h_l h = exit_within s m x g L hg h_l
  build_within (leaf (Emit e)) n g r k L c hg hr hk h_l h = emit_within s m e n g L hg h_l h
  build_within (leaf (Halt x)) n g r k L c hg hr hk h_l h = halt_within s m n g r k L hg hr hk h_l h
  build_within (two Sequence p q) n g r k L c hg hr hk h_l h =
      let a : Built = build p n g r k L in
      let b : Built = build q (n + length a.cells) (code a.codes 0) r k a.lists in
      sequence_within s m n a b (λ l. build_within p n g r k L c.1 hg hr hk h_l l)
      (λ l wa. build_within q (n + length a.cells) (code a.codes 0) r k a.lists c.2 (wa.codes 0) hr hk wa.lists l) h
  build_within (one Loop p) n g r k L c hg hr hk h_l h =
      let a : Built = build p (suc n) (cell_no n) r k L in
      let fits : suc n + length a.cells ≤ m = loop_fits n g a h in
      loop_within s m g a hg (build_within p (suc n) (cell_no n) r k L c.1 (omega arith) hr hk h_l fits)
  build_within (two (Present e) p q) n g r k L c hg hr hk h_l h =
      let x : New = and_at n g (signal_cell e) in
      let y : New = butnot_at (past n x) g (signal_cell e) in
      let n₁ : ℕ = past (past n x) y in
      let a : Built = build p n₁ x.net r k L in
      let b : Built = build q (n₁ + length a.cells) y.net r k a.lists in
      let fits : n₁ ≤ m = present_fits n n₁ x y a b refl h in
      let he : of_cell (signal_cell e) < m = omega (arith, c.0) in
      let wx = gate_within s m And n g (signal_cell e) hg he (omega arith) in
      let wy = gate_within s m Butnot (past n x) g (signal_cell e) hg he (omega arith) in
      present_within s m n n₁ x y a b wx.operands wy.operands refl (λ l. build_within p n₁ x.net r k L c.1 wx.net hr hk h_l l)
      (λ l wa. build_within q (n₁ + length a.cells) y.net r k a.lists c.2 wy.net hr hk wa.lists l) h
  build_within (one (Watching e) p) n g r k L c hg hr hk h_l h =
      let a : New = butnot_at n r (signal_cell e) in
      let b : Built = build p (past n a) g a.net k L in
      let fits : past n a ≤ m = watching_fits e n r a b h in
      let he : of_cell (signal_cell e) < m = omega (arith, c.0) in
      let wa = gate_within s m Butnot n r (signal_cell e) hr he fits in
      watching_within s m e n (past n a) r a b he hr wa.operands refl (λ l. build_within p (past n a) g a.net k L c.1 hg wa.net hk h_l l) h
  build_within (two Parallel p q) n g r k L c hg hr hk h_l h =
      let a : Built = build p (suc n) g r (cell_no n) L in
      let b : Built = build q (suc n + length a.cells) g r (cell_no n) a.lists in
      let own : of_cell (cell_no n) < m = parallel_fits n k (given (two Parallel p q)) a b h in
      parallel_within s m n k (given (two Parallel p q)) a b hk (λ l. build_within p (suc n) g r (cell_no n) L c.1 hg hr own h_l l)
      (λ l wa. build_within q (suc n + length a.cells) g r (cell_no n) a.lists c.2 hg hr own wa.lists l) h
  build_within (one Trap p) n g r k L c hg hr hk h_l h =
      trap_built s m n (build p n g r k L) (λ l. build_within p n g r k L c.1 hg hr hk h_l l) h
  build_within (one (Signal e) p) n g r k L c hg hr hk h_l h = build_within p n g r k L c.1 hg hr hk h_l h
