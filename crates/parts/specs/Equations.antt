-- "Equations": "Each statement takes go g, resume r, kill i (root: n+2, 1, 0) and returns sel and one net for each code up to 1+d, d enclosing traps;
-- unnamed nets are 0, but p's own for loop, watching, trap and signal. A child gets g, r and i unless another is named." Besides, a statement takes
-- the number n of the next cell and the signals' lists L, and returns its cells, which stand from n on, and the lists after it. No store is known
-- here: a reserved cell, marked *, is the first of its statement's cells, so that its number is known before the parts are built. The netlist's own
-- cells, before and after those of the root, are in `builder`.
use Rattle.std.specs.Prelude.{Bool, ◌||◌, List, [], ◌∷◌, ◌++◌, ℕ, suc, ◌+◌, length, set}
use Rattle.number.specs.declared.CellNo.{CellNo}
use Rattle.number.specs.declared.SignalNo.{SignalNo}
use Rattle.number.specs.Counts.{cell_no, of_signal}
use Rattle.sheet.specs.declared.Leaf.TheVariants.{Nothing, Halt, Emit, Exit}
use Rattle.sheet.specs.declared.Unary.TheVariants.{Loop, Watching, Trap, Signal}
use Rattle.sheet.specs.declared.Binary.TheVariants.{Sequence, Present, Parallel}
use Rattle.sheet.specs.Stmt.{Stmt, leaf, one, two}
use Rattle.sets.specs.Static.{K, R}
use Rattle.cells.specs.declared.Cell.{Cell}
use Rattle.cells.specs.declared.Gate.TheVariants.{Or}
use Rattle.cells.specs.declared.Cell.TheVariants.{Gate, Register}
use Rattle.cells.specs.Cells.{low, signal_cell}
use Rattle.gates.specs.Folding.{New, or_at, and_at, butnot_at}
use Rattle.gates.specs.Rows.{code, only, with_code0, NewRow, or_row, trap_row, pairs, NewCodes, parallel_row, kill_of}

-- what a statement returns
pub record Built : Type 0 where
  pub cells : List Cell
  pub sel : CellNo
  pub codes : List CellNo
  pub lists : List CellNo

-- a signal's list: the net of all that was or'ed to it
abbrev pub list_of : List CellNo → SignalNo → CellNo
list_of L s = code L (of_signal s)

-- the number past the cells of w, which begin at n
abbrev pub past : ℕ → New → ℕ
past n w = n + length w.cells

-- "nothing: code 0 is g. exit k: code k is g."
abbrev pub build_exit : ℕ → CellNo → List CellNo → Built
build_exit k g L = record { cells = []; sel = low; codes = only k g; lists = L }

-- "emit: code 0 is g; the signal's list becomes or(list, g), starting at 0."
unfoldable pub build_emit : SignalNo → ℕ → CellNo → List CellNo → Built
build_emit s n g L =
    let o : New = or_at n (list_of L s) g in
    record { cells = o.cells; sel = low; codes = only 0 g; lists = set L (of_signal s) o.net }

-- "halt: h = register*; x = and(r,h); v = or(g,x); code 1 is v; register's operand butnot(v,i); sel h."
unfoldable pub build_halt : ℕ → CellNo → CellNo → CellNo → List CellNo → Built
build_halt n g r i L =
    let h : CellNo = cell_no n in
    let x : New = and_at (suc n) r h in
    let v : New = or_at (past (suc n) x) g x.net in
    let w : New = butnot_at (past (past (suc n) x) v) v.net i in
    record { cells = Register w.net ∷ (x.cells ++ (v.cells ++ w.cells)); sel = h; codes = only 1 v.net; lists = L }

-- the or'ed sel of two parts, whose cells end before n, and then their or'ed codes
pub record Joined : Type 0 where
  pub cells : List Cell
  pub sel : CellNo
  pub codes : List CellNo

abbrev pub joined : ℕ → CellNo → CellNo → List CellNo → List CellNo → Joined
joined n s₁ s₂ ps qs =
    let s : New = or_at n s₁ s₂ in
    let c : NewRow = or_row (past n s) ps qs in
    record { cells = s.cells ++ c.cells; sel = s.net; codes = c.nets }

-- "sequence: p; q with go p's code 0; sel or; codes from 1 up or'ed (p first), code 0 is q's.": p's cells begin at n
unfoldable pub build_sequence : ℕ → Built → Built → Built
build_sequence n p q =
    let j : Joined = joined (n + length p.cells + length q.cells) p.sel q.sel (with_code0 low p.codes) q.codes in
    record { cells = p.cells ++ (q.cells ++ j.cells); sel = j.sel; codes = j.codes; lists = q.lists }

-- "loop: G = or(g)* ; p with go G; G's last operand is p's code 0, then 0 returned for it."
unfoldable pub build_loop : CellNo → Built → Built
build_loop g p = record { cells = Gate Or g (code p.codes 0) ∷ p.cells; sel = p.sel; codes = with_code0 low p.codes; lists = p.lists }

-- "present: and(g,s), butnot(g,s); p, q; sel or; codes or'ed upward from 0.": x and y are the two gates, p's cells begin at n
unfoldable pub build_present : ℕ → New → New → Built → Built → Built
build_present n x y p q =
    let j : Joined = joined (n + length p.cells + length q.cells) p.sel q.sel p.codes q.codes in
    record { cells = x.cells ++ (y.cells ++ (p.cells ++ (q.cells ++ j.cells))); sel = j.sel; codes = j.codes; lists = q.lists }

-- "watching: a = butnot(r,s); p with resume a; and(r,sel); and(that,s); code 0 = or(p's, that).": p's cells begin at n
unfoldable pub build_watching : SignalNo → ℕ → CellNo → New → Built → Built
build_watching s n r a p =
    let n₂ : ℕ = n + length p.cells in
    let x : New = and_at n₂ r p.sel in
    let y : New = and_at (past n₂ x) x.net (signal_cell s) in
    let o : New = or_at (past (past n₂ x) y) (code p.codes 0) y.net in
    record {
      cells = a.cells ++ (p.cells ++ (x.cells ++ (y.cells ++ o.cells)));
      sel = p.sel;
      codes = with_code0 o.net p.codes;
      lists = p.lists;
    }

-- "parallel: Q = or(i)*; p, q with kill Q; sel or; x = 0; for j from 1+d down to 0: .. Q's last operand is x as it stands after j = 2, or 0 when
-- d = 0.": Q is cell n, and `keep` says which codes are in K or R of the parallel
unfoldable pub build_parallel : ℕ → CellNo → (ℕ → Bool) → Built → Built → Built
build_parallel n i keep p q =
    let n₂ : ℕ = suc n + length p.cells + length q.cells in
    let s : New = or_at n₂ p.sel q.sel in
    let c : NewCodes = parallel_row (past n₂ s) keep (pairs p.codes q.codes) in
    record { cells = Gate Or i (kill_of c) ∷ (p.cells ++ (q.cells ++ (s.cells ++ c.cells))); sel = s.net; codes = c.nets; lists = q.lists }

-- "trap: code 0 = or(p's 0, p's 2); 1 stays; j is p's j+1.": p's cells begin at n
unfoldable pub build_trap : ℕ → Built → Built
build_trap n p =
    let o : New = or_at (n + length p.cells) (code p.codes 0) (code p.codes 2) in
    record { cells = p.cells ++ o.cells; sel = p.sel; codes = trap_row o.net p.codes; lists = p.lists }

-- "in K or R of the parallel"
abbrev pub given : Stmt → ℕ → Bool
given t j = K t j || R t j

unfoldable pub build : Stmt → ℕ → CellNo → CellNo → CellNo → List CellNo → Built
build (leaf Nothing) n g r i L = build_exit 0 g L
build (leaf (Exit k)) n g r i L = build_exit k g L
build (leaf (Emit s)) n g r i L = build_emit s n g L
build (leaf (Halt h)) n g r i L = build_halt n g r i L
build (two Sequence p q) n g r i L =
    let a : Built = build p n g r i L in
    build_sequence n a (build q (n + length a.cells) (code a.codes 0) r i a.lists)
build (one Loop p) n g r i L = build_loop g (build p (suc n) (cell_no n) r i L)
build (two (Present s) p q) n g r i L =
    let x : New = and_at n g (signal_cell s) in
    let y : New = butnot_at (past n x) g (signal_cell s) in
    let n₁ : ℕ = past (past n x) y in
    let a : Built = build p n₁ x.net r i L in
    build_present n₁ x y a (build q (n₁ + length a.cells) y.net r i a.lists)
build (one (Watching s) p) n g r i L =
    let a : New = butnot_at n r (signal_cell s) in
    build_watching s (past n a) r a (build p (past n a) g a.net i L)
build (two Parallel p q) n g r i L =
    let a : Built = build p (suc n) g r (cell_no n) L in
    build_parallel n i (given (two Parallel p q)) a (build q (suc n + length a.cells) g r (cell_no n) a.lists)
build (one Trap p) n g r i L = build_trap n (build p n g r i L)
build (one (Signal s) p) n g r i L = build p n g r i L
