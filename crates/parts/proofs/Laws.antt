-- What each kind's code has written, from what the functions that make its cells ensure.
use Prim.Native.Nat.{ℕ, suc, zero, ◌+◌}
use mathlib.Core.Path.{◌≡◌, refl, sym, ap, ◌∙◌}
use mathlib.Core.Bool.{Bool}
use mathlib.Core.List.{List, [], ◌∷◌, ◌++◌, append_assoc}
use native.Mathlib.Omega.{arith}
use native.Mathlib.Numerals.{add-one}
use lib.ListN.{length, set, get_or, length-append}
use Rattle.number.specs.Counts.{cell_no, of_cell, of_signal}
use Rattle.number.specs.declared.CellNo.{CellNo}
use Rattle.number.specs.declared.SignalNo.{SignalNo}
use Rattle.number.specs.declared.HaltNo.{HaltNo}
use Rattle.limits.specs.Limits.{max_codes}
use Rattle.sheet.specs.declared.Leaf.TheVariants.{Nothing, Halt, Emit, Exit}
use Rattle.sheet.specs.declared.Unary.TheVariants.{Loop, Watching, Trap, Signal}
use Rattle.sheet.specs.declared.Binary.TheVariants.{Sequence, Present, Parallel}
use Rattle.sheet.specs.Stmt.{leaf}
use Rattle.cells.specs.declared.Gate.TheVariants.{Or}
use Rattle.cells.specs.declared.Cell.TheVariants.{Gate, Register}
use Rattle.cells.specs.Cells.{low, signal_cell}
use Rattle.gates.specs.Folding.{New, new, or_at, and_at, butnot_at}
use Rattle.gates.specs.Rows.{code, only, with_code0, trap_row, or_row, pairs, parallel_row}
use Rattle.gates.specs.declared.Column.{Column}
use Rattle.gates.specs.Store.{parallel_cells, WroteCells, Fills, Makes, MakesRow, MakesHighest}
use Rattle.gates.proofs.Laws.{wrote_none, wrote_more, wrote_fill}
use Rattle.parts.specs.declared.Returned.{Returned}
use Rattle.parts.specs.declared.Wires.{Wires}
use Rattle.parts.specs.Equations.{past, joined, build_emit, build_halt, build, build_sequence, build_loop, build_present, build_watching, build_parallel}
use Rattle.parts.specs.Equations.{build_trap}
use Rattle.parts.specs.Contract.{nets, Builds, OpensTwo, open_two, ClosesOne, ClosesTwo, Joins}

-- the lists' column, where one list is set or read
nets_set : (ls : List ℕ) (s : ℕ) (x : CellNo) → nets (set ls s (of_cell x)) ≡ set (nets ls) s x
nets_set [] s x = refl
nets_set (y ∷ ls) zero x = refl
nets_set (y ∷ ls) (suc s) x = ap (λ (l : List CellNo). cell_no y ∷ l) (nets_set ls s x)

pub nets_at : (ls : List ℕ) (s : ℕ) → code (nets ls) s ≡ cell_no (get_or ls s 0)
nets_at [] s = refl
nets_at (y ∷ ls) zero = refl
nets_at (y ∷ ls) (suc s) = nets_at ls s

-- what is built
abbrev returned : CellNo → List CellNo → Returned
returned s ks = record { sel = s; codes = ks }

-- Statements without parts.
pub nothing_builds : {ks : List CellNo} (c : Column) (ls : List ℕ) (g r i : CellNo) → ks ≡ only 0 g
    → Builds (build (leaf Nothing) c.count g r i (nets ls)) c c ls (returned low ks)
unfolding build
nothing_builds c ls g r i e = record { wrote = wrote_none c; lists = refl; sel = refl; codes = e }

pub exit_builds : {ks : List CellNo} (k : ℕ) (c : Column) (ls : List ℕ) (g r i : CellNo) → ks ≡ only k g
    → Builds (build (leaf (Exit k)) c.count g r i (nets ls)) c c ls (returned low ks)
unfolding build
exit_builds k c ls g r i e = record { wrote = wrote_none c; lists = refl; sel = refl; codes = e }

pub halt_leaf : (h : HaltNo) (n : ℕ) (g r i : CellNo) (L : List CellNo) → build (leaf (Halt h)) n g r i L ≡ build_halt n g r i L
unfolding build
halt_leaf h n g r i L = refl

pub emit_leaf : (s : SignalNo) (n : ℕ) (g r i : CellNo) (L : List CellNo) → build (leaf (Emit s)) n g r i L ≡ build_emit s n g L
unfolding build
emit_leaf s n g r i L = refl

-- the register h is reserved; x, v and its operand d follow, and it is filled
pub halt_builds : {c c₁ c₂ c₃ c₄ c₅ : Column} {h x v d : CellNo} {ks : List CellNo} (ls : List ℕ) (g r i : CellNo)
    → Makes 1 (new c.count (Register low)) c c₁ h → Makes 1 (and_at c₁.count r h) c₁ c₂ x → Makes 1 (or_at c₂.count g x) c₂ c₃ v
    → Makes 1 (butnot_at c₃.count v i) c₃ c₄ d → Fills h (Register d) c₄ c₅ → ks ≡ only 1 v
    → Builds (build_halt c.count g r i (nets ls)) c c₅ ls (returned h ks)
unfolding build_halt
halt_builds {c} {c₁} {c₂} {c₃} {c₄} {c₅} {h} {x} {v} {d} ls g r i mh mx mv md mf ek =
    let eh : h ≡ cell_no c.count = mh.is in
    let next : suc c.count ≡ c₁.count = sym (add-one c.count) ∙ sym mh.wrote.counted in
    let w : WroteCells c c₅
    (Register d ∷ ((and_at c₁.count r h).cells ++ ((or_at c₂.count g x).cells ++ (butnot_at c₃.count v i).cells))) =
    wrote_fill mh.wrote (wrote_more mx.wrote (wrote_more mv.wrote md.wrote)) (rw eh at mf) in
    record {
      wrote = simp (← eh, next, ← mx.is, ← mx.wrote.counted, ← mv.is, ← mv.wrote.counted, ← md.is) w;
      lists = refl;
      sel = eh;
      codes = ek ∙ simp (← eh, next, ← mx.is, ← mx.wrote.counted, ← mv.is);
    }

pub emit_builds : {c c' : Column} {ls' : List ℕ} {w : CellNo} {ks : List CellNo} (ls : List ℕ) (s : SignalNo) (g : CellNo)
    → Makes 1 (or_at c.count (cell_no (get_or ls (of_signal s) 0)) g) c c' w → ls' ≡ set ls (of_signal s) (of_cell w) → ks ≡ only 0 g
    → Builds (build_emit s c.count g (nets ls)) c c' ls' (returned low ks)
unfolding build_emit
emit_builds {w = w} ls s g m el ek =
    record {
      wrote = rw (nets_at ls (of_signal s)) m.wrote;
      lists = ap nets el ∙ nets_set ls (of_signal s) w ∙ rw (nets_at ls (of_signal s), m.is);
      sel = refl;
      codes = ek;
    }

-- Before the parts: a present.
pub opens_present : {c c₁ c₂ : Column} {x y : CellNo} (s : SignalNo) (w : Wires)
    → Makes 1 (and_at c.count w.go (signal_cell s)) c c₁ x → Makes 1 (butnot_at c₁.count w.go (signal_cell s)) c₁ c₂ y
    → OpensTwo (open_two (Present s) c.count w.go w.res w.kill) c c₂ (record { first = record w { go = x }; other = y })
opens_present s w mx my =
    record {
      opens = record { wrote = rw (← mx.wrote.counted) (wrote_more mx.wrote my.wrote); go_is = mx.is; res_is = refl; kill_is = refl };
      other_is = rw (← mx.wrote.counted) my.is;
    }

-- After one part, p.
module _ (n : CellNo) (w : Wires) (p : Returned) where
  pub loop_closes : {c₂ c₃ : Column} {ks : List CellNo} → Fills n (Gate Or w.go (code p.codes 0)) c₂ c₃ → ks ≡ with_code0 low p.codes
      → ClosesOne Loop n w c₂ c₃ p (returned p.sel ks)
  unfolding build_loop
  loop_closes f k =
      record {
        same = f.same;
        closes = λ c c₁ ls i x en o b. record {
          wrote = rw (← b.codes) (wrote_fill o b.wrote (rw en at f));
          lists = b.lists;
          sel = b.sel;
          codes = k ∙ ap (with_code0 low) b.codes;
        };
      }

  pub signal_closes : (s : SignalNo) (c₂ : Column) → ClosesOne (Signal s) n w c₂ c₂ p p
  signal_closes s c₂ =
      record { same = refl; closes = λ c c₁ ls i x en o b. record { wrote = wrote_more o b.wrote; lists = b.lists; sel = b.sel; codes = b.codes } }

  pub trap_closes : {c₂ c₃ : Column} {ks : List CellNo} {a : CellNo} → Makes 1 (or_at c₂.count (code p.codes 0) (code p.codes 2)) c₂ c₃ a
      → ks ≡ trap_row a p.codes → ClosesOne Trap n w c₂ c₃ p (returned p.sel ks)
  unfolding build_trap
  trap_closes {c₂} m k =
      record {
        same = m.wrote.same;
        closes = λ c c₁ ls i x en o b.
            let e : c.count + length x.cells ≡ c₂.count = omega (arith, o.counted, b.wrote.counted) in
            record {
              wrote = rw (e, ← b.codes) (wrote_more o (wrote_more b.wrote m.wrote));
              lists = b.lists;
              sel = b.sel;
              codes = rw (e, ← b.codes, ← m.is) k;
            };
      }

  pub watching_closes : {c₂ c₃ c₄ c₅ : Column} {ks : List CellNo} {x y a : CellNo} (s : SignalNo)
      → Makes 1 (and_at c₂.count w.res p.sel) c₂ c₃ x → Makes 1 (and_at c₃.count x (signal_cell s)) c₃ c₄ y
      → Makes 1 (or_at c₄.count (code p.codes 0) y) c₄ c₅ a → ks ≡ with_code0 a p.codes → ClosesOne (Watching s) n w c₂ c₅ p (returned p.sel ks)
  unfolding build_watching
  watching_closes {c₂} s mx my mo k =
      record {
        same = mo.wrote.same ∙ my.wrote.same ∙ mx.wrote.same;
        closes = λ c c₁ ls i x en o b.
            let a : New = butnot_at c.count w.res (signal_cell s) in
            let e : past c.count a + length x.cells ≡ c₂.count = ap (λ (m : ℕ). m + length x.cells) (sym o.counted) ∙ sym b.wrote.counted in
            record {
              wrote = simp (e, ← b.sel, ← mx.is, ← mx.wrote.counted, ← my.is, ← my.wrote.counted, ← b.codes)
                  (wrote_more o (wrote_more b.wrote (wrote_more mx.wrote (wrote_more my.wrote mo.wrote))));
              lists = b.lists;
              sel = b.sel;
              codes = k ∙ simp (e, ← b.sel, ← mx.is, ← mx.wrote.counted, ← my.is, ← my.wrote.counted, ← b.codes, ← mo.is);
            };
      }

-- After two parts, p and q.
pub joins : {c c₁ c₂ : Column} {s : CellNo} {ks : List CellNo} (p q : CellNo) (a b : List CellNo) → Makes 1 (or_at c.count p q) c c₁ s
    → MakesRow max_codes (or_row c₁.count a b) c₁ c₂ ks → Joins (joined c.count p q a b) c c₂ (returned s ks)
joins p q a b m k =
    record {
      wrote = rw (← m.wrote.counted) (wrote_more m.wrote k.wrote);
      sel = m.is;
      codes = rw (← m.wrote.counted) k.is;
    }

module _ (keep : ℕ → Bool) (n : CellNo) (w : Wires) (p q : Returned) where
  pub sequence_closes : {c₃ c₄ : Column} {s : Returned} → Joins (joined c₃.count p.sel q.sel (with_code0 low p.codes) q.codes) c₃ c₄ s
      → ClosesTwo Sequence keep n w c₃ c₄ p q s
  unfolding build_sequence
  sequence_closes {c₃} j =
      record {
        same = j.wrote.same;
        closes = λ c c₁ c₂ ls₁ ls₂ r x y en o A B.
            let e : c.count + length x.cells + length y.cells ≡ c₃.count = omega (arith, o.counted, A.wrote.counted, B.wrote.counted) in
            record {
              wrote = simp (e, ← A.sel, ← B.sel, ← A.codes, ← B.codes) (wrote_more o (wrote_more A.wrote (wrote_more B.wrote j.wrote)));
              lists = B.lists;
              sel = simp (e, ← A.sel, ← B.sel) j.sel;
              codes = simp (e, ← A.sel, ← B.sel, ← A.codes, ← B.codes) j.codes;
            };
      }

  pub present_closes : {c₃ c₄ : Column} {s : Returned} (sg : SignalNo) → Joins (joined c₃.count p.sel q.sel p.codes q.codes) c₃ c₄ s
      → ClosesTwo (Present sg) keep n w c₃ c₄ p q s
  unfolding build_present
  present_closes {c₃} sg j =
      record {
        same = j.wrote.same;
        closes = λ c c₁ c₂ ls₁ ls₂ r x y en o A B.
            let yes : New = and_at c.count w.go (signal_cell sg) in
            let not : New = butnot_at (past c.count yes) w.go (signal_cell sg) in
            let e : past (past c.count yes) not + length x.cells + length y.cells ≡ c₃.count =
            omega (arith, simp length-append at o.counted, A.wrote.counted, B.wrote.counted) in
            record {
              wrote = simp (e, ← A.sel, ← B.sel, ← A.codes, ← B.codes, ← append_assoc)
                  (simp (← append_assoc) at (wrote_more o (wrote_more A.wrote (wrote_more B.wrote j.wrote))));
              lists = B.lists;
              sel = simp (e, ← A.sel, ← B.sel) j.sel;
              codes = simp (e, ← A.sel, ← B.sel, ← A.codes, ← B.codes) j.codes;
            };
      }

  pub parallel_closes : {c₃ c₄ c₅ c₆ : Column} {s k : CellNo} {ks : List CellNo} → Makes 1 (or_at c₃.count p.sel q.sel) c₃ c₄ s
      → MakesHighest parallel_cells (parallel_row c₄.count keep (pairs p.codes q.codes)) c₄ c₅ ks k → Fills n (Gate Or w.kill k) c₅ c₆
      → ClosesTwo Parallel keep n w c₃ c₆ p q (returned s ks)
  unfolding build_parallel
  parallel_closes {c₃} m h f =
      record {
        same = f.same ∙ h.wrote.same ∙ m.wrote.same;
        closes = λ c c₁ c₂ ls₁ ls₂ r x y en o A B.
            let e : suc c.count + length x.cells + length y.cells ≡ c₃.count = omega (arith, o.counted, A.wrote.counted, B.wrote.counted) in
            record {
              wrote = simp (e, ← A.sel, ← B.sel, ← A.codes, ← B.codes, ← m.wrote.counted, ← h.kill)
                  (wrote_fill o (wrote_more A.wrote (wrote_more B.wrote (wrote_more m.wrote h.wrote))) (rw en at f));
              lists = B.lists;
              sel = simp (e, ← A.sel, ← B.sel) m.is;
              codes = simp (e, ← A.sel, ← B.sel, ← A.codes, ← B.codes, ← m.wrote.counted) h.is;
            };
      }
