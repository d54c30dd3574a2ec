-- A statement has a register for each of its halts and no other.
use mathlib.Core.Path.{◌≡◌, refl, ◌∙◌}
use mathlib.Core.Bool.{Bool, true, false}
use mathlib.Core.List.{List, [], ◌∷◌}
use Prim.Native.Nat.{ℕ, suc, ◌+◌}
use native.Mathlib.Nat.{add-zero, zero-add}
use lib.ListN.{length}
use Rattle.number.specs.Counts.{cell_no, halt_no, signal_no, of_signal}
use Rattle.number.specs.declared.CellNo.{CellNo}
use Rattle.number.specs.declared.SignalNo.{SignalNo}
use Rattle.number.specs.declared.HaltNo.{HaltNo}
use Rattle.sheet.specs.declared.Leaf.TheVariants.{Nothing, Halt, Emit, Exit}
use Rattle.sheet.specs.declared.Unary.TheVariants.{Loop, Watching, Trap, Signal}
use Rattle.sheet.specs.declared.Binary.TheVariants.{Sequence, Present, Parallel}
use Rattle.sheet.specs.Stmt.{Stmt, leaf, one, two, halt_count}
use Rattle.cells.specs.declared.Cell.{Cell}
use Rattle.cells.specs.declared.Gate.TheVariants.{Or, And, Butnot}
use Rattle.cells.specs.Cells.{signal_cell}
use Rattle.cells.specs.Values.{registers}
use Rattle.cells.specs.declared.Gate as gate
use Rattle.cells.proofs.Counting.{registers_nil, registers_gate, registers_register, registers_append}
use Rattle.gates.specs.Folding.{New, gate_at, or_at, and_at, butnot_at}
use Rattle.gates.specs.Rows.{code, or_row, only_if, highest, parallel_row}
use Rattle.gates.proofs.Laws.{by_folding}
use Rattle.parts.specs.Equations.{Built, given, build_emit, build_halt, build, build_sequence, build_loop, build_present, build_watching, build_parallel, build_trap}

-- gates have no registers
abbrev None : List Cell → Type 0
None cs = registers cs ≡ 0

pub none_gate : (g : gate.Gate) (n : ℕ) (x y : CellNo) → None (gate_at g n x y).cells
unfolding registers
none_gate g n x y = by_folding (λ (w : New). None w.cells) g n x y (λ e. refl) (λ e. refl) refl

none_if : (b : Bool) (n : ℕ) (x y : CellNo) → None (only_if b (butnot_at n x y)).cells
unfolding registers
none_if true n x y = none_gate Butnot n x y
none_if false n x y = refl

none_row : (xs ys : List CellNo) (n : ℕ) → None (or_row n xs ys).cells
unfolding or_row
none_row [] ys n = registers_nil
none_row (x ∷ xs) [] n = registers_nil
none_row (x ∷ xs) (y ∷ ys) n = simp (registers_append, none_gate, none_row xs ys (n + length (or_at n x y).cells))

none_highest : (cs : List (CellNo × CellNo)) (n : ℕ) (keep : ℕ → Bool) → None (highest n keep cs).cells
unfolding highest
none_highest [] n keep = registers_nil
none_highest (c ∷ cs) n keep = simp (registers_append, none_highest cs n (λ j. keep (suc j)), none_gate, none_if)

none_parallel_row : (cs : List (CellNo × CellNo)) (n : ℕ) (keep : ℕ → Bool) → None (parallel_row n keep cs).cells
unfolding parallel_row
none_parallel_row [] n keep = registers_nil
none_parallel_row (c ∷ cs) n keep = simp (registers_append, none_highest cs n (λ j. keep (suc j)), none_gate, none_if)

of_sequence : (n : ℕ) (a b : Built) → registers (build_sequence n a b).cells ≡ registers a.cells + registers b.cells
unfolding build_sequence
of_sequence n a b = simp (registers_append, none_gate, none_row, add-zero)

of_parallel : (n : ℕ) (i : CellNo) (keep : ℕ → Bool) (a b : Built)
    → registers (build_parallel n i keep a b).cells ≡ registers a.cells + registers b.cells
unfolding build_parallel
of_parallel n i keep a b = registers_gate Or i _ _ ∙ simp (registers_append, none_gate, none_parallel_row, add-zero)

of_present : (n : ℕ) (x y : New) (a b : Built) → None x.cells → None y.cells
    → registers (build_present n x y a b).cells ≡ registers a.cells + registers b.cells
unfolding build_present
of_present n x y a b p q = simp (registers_append, p, q, none_gate, none_row, add-zero, zero-add)

of_watching : (s : SignalNo) (n : ℕ) (r : CellNo) (x : New) (a : Built) → None x.cells
    → registers (build_watching s n r x a).cells ≡ registers a.cells
unfolding build_watching
of_watching s n r x a p = simp (registers_append, p, none_gate, add-zero, zero-add)

of_trap : (n : ℕ) (a : Built) → registers (build_trap n a).cells ≡ registers a.cells
unfolding build_trap
of_trap n a = simp (registers_append, none_gate, add-zero)

of_loop : (g : CellNo) (a : Built) → registers (build_loop g a).cells ≡ registers a.cells
unfolding build_loop
of_loop g a = registers_gate Or g _ _

of_halt : (n : ℕ) (g r i : CellNo) (L : List CellNo) → registers (build_halt n g r i L).cells ≡ 1
unfolding build_halt
of_halt n g r i L = simp (registers_register, registers_append, none_gate)

of_emit : (s : SignalNo) (n : ℕ) (g : CellNo) (L : List CellNo) → registers (build_emit s n g L).cells ≡ 0
unfolding build_emit
of_emit s n g L = none_gate Or n (code L (of_signal s)) g

abbrev Many : Stmt → Type 0
Many t = (n : ℕ) (g r i : CellNo) (L : List CellNo) → registers (build t n g r i L).cells ≡ halt_count t

many_sequence : (p q : Stmt) → Many p → Many q → Many (two Sequence p q)
unfolding build halt_count
many_sequence p q ip iq n g r i L =
    let a : Built = build p n g r i L in
    of_sequence n a (build q (n + length a.cells) (code a.codes 0) r i a.lists) ∙ simp (ip, iq)

many_parallel : (p q : Stmt) → Many p → Many q → Many (two Parallel p q)
unfolding build halt_count
many_parallel p q ip iq n g r i L =
    let a : Built = build p (suc n) g r (cell_no n) L in
    of_parallel n i (given (two Parallel p q)) a (build q (suc n + length a.cells) g r (cell_no n) a.lists) ∙ simp (ip, iq)

many_present : (s : SignalNo) (p q : Stmt) → Many p → Many q → Many (two (Present s) p q)
unfolding build halt_count
many_present s p q ip iq n g r i L =
    let x : New = and_at n g (signal_cell s) in
    let m : ℕ = n + length x.cells in
    let y : New = butnot_at m g (signal_cell s) in
    let n₀ : ℕ = m + length y.cells in
    let a : Built = build p n₀ x.net r i L in
    of_present n₀ x y a (build q (n₀ + length a.cells) y.net r i a.lists) (none_gate And n g (signal_cell s))
    (none_gate Butnot m g (signal_cell s)) ∙ simp (ip, iq)

many_watching : (s : SignalNo) (p : Stmt) → Many p → Many (one (Watching s) p)
unfolding build halt_count
many_watching s p ip n g r i L =
    let x : New = butnot_at n r (signal_cell s) in
    let m : ℕ = n + length x.cells in
    of_watching s m r x (build p m g x.net i L) (none_gate Butnot n r (signal_cell s)) ∙ ip m g x.net i L

many_one : (s : SignalNo) (p : Stmt) → Many p → Many (one Loop p) × Many (one Trap p) × Many (one (Signal s) p)
unfolding build halt_count
many_one s p ip =
    ((λ n g r i L. of_loop g (build p (suc n) (cell_no n) r i L) ∙ ip (suc n) (cell_no n) r i L), (λ n g r i L. of_trap n (build p n g r i L) ∙ ip n g r i L), ip)

many_leaf : (h : HaltNo) (s : SignalNo) (k : ℕ) → Many (leaf Nothing) × Many (leaf (Halt h)) × Many (leaf (Emit s)) × Many (leaf (Exit k))
unfolding build halt_count
many_leaf h s k = ((λ n g r i L. registers_nil), of_halt, (λ n g r i L. of_emit s n g L), (λ n g r i L. registers_nil))

pub of_build : (t : Stmt) → Many t
of_build (leaf Nothing) = (many_leaf (halt_no 0) (signal_no 0) 0).0
of_build (leaf (Halt h)) = (many_leaf h (signal_no 0) 0).1
of_build (leaf (Emit s)) = (many_leaf (halt_no 0) s 0).2
of_build (leaf (Exit k)) = (many_leaf (halt_no 0) (signal_no 0) k).3
of_build (two Sequence p q) = many_sequence p q (of_build p) (of_build q)
of_build (one Loop p) = (many_one (signal_no 0) p (of_build p)).0
of_build (two (Present s) p q) = many_present s p q (of_build p) (of_build q)
of_build (one (Watching s) p) = many_watching s p (of_build p)
of_build (two Parallel p q) = many_parallel p q (of_build p) (of_build q)
of_build (one Trap p) = (many_one (signal_no 0) p (of_build p)).1
of_build (one (Signal s) p) = (many_one s p (of_build p)).2
