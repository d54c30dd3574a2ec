-- The whole netlist as the file format and a run want it: the cells 0 to I+1, the kinds of the others, operands, registers, counts.
use mathlib.Core.Path.{◌≡◌, refl, sym, ◌∙◌, ap, subst}
use mathlib.Core.List.{List, ◌∷◌, ◌++◌, map, append_assoc}
use Prim.Native.Nat.{ℕ, zero, suc, ◌+◌, ◌*◌, ◌≤◌, ◌<◌}
use native.Mathlib.Omega.{arith}
use native.Mathlib.Nat.{not-suc-le-zero, le_of_suc-le-suc, add-zero, suc-add, add-suc}
use lib.ListN.{length, get_or, take, drop, length-append, length-map, replicate}
use lib.Seq.{sets, sets-eq, take_at, get_or_at}
use Rattle.number.specs.Counts.{cell_no, signal_no, halt_no, of_halt, of_cell}
use Rattle.number.specs.declared.CellNo.{CellNo}
use Rattle.number.specs.declared.HaltNo.{HaltNo}
use Rattle.limits.specs.Limits.{max_signals, max_registers}
use Rattle.sheet.specs.declared.Leaf.TheVariants.{Halt}
use Rattle.sheet.specs.Stmt.{Stmt, leaf, size, halt_count, local_count}
use Rattle.sheet.specs.Form.{Proper}
use Rattle.sheet.proofs.Notions.{Numbered, Scoped, proper_scoped, proper_exits}
use Rattle.sets.specs.Words.{Low as LowLevels}
use Rattle.sets.proofs.Bounds.{exits_low}
use Rattle.cells.specs.declared.Cell.{Cell}
use Rattle.cells.specs.declared.Cell.TheVariants.{Low, High, Input, Gate, Register}
use Rattle.cells.specs.declared.Gate.TheVariants.{Or, Butnot}
use Rattle.cells.specs.Cells.{low, high, cell_at}
use Rattle.cells.specs.Words.{word}
use Rattle.cells.specs.Values.{registers, before}
use Rattle.cells.proofs.Within.{AllWithin, append_within}
use Rattle.cells.proofs.Counting.{registers_append}
use Rattle.gates.specs.Rows.{code}
use Rattle.gates.proofs.Operands.{NetsBelow}
use Rattle.parts.specs.Equations.{Built, list_of, build_halt, build}
use Rattle.parts.specs.Contract.{own_cells}
use Rattle.builder.specs.Netlist.{input_cells, signal_cells, no_lists, root_of, boot_cells, netlist}
use Rattle.builder.proofs.Ends.{length_inputs, length_signals}
use Rattle.builder.proofs.Gates.{Gates, gates_nil, gates_cons, gates_append, build_gates}
use Rattle.builder.proofs.Closed.{build_within}
use Rattle.builder.proofs.Few.{sized}
use Rattle.builder.proofs.Registers.{of_build}
use Rattle.builder.proofs.Places.{Takes, Part, part_stands, part_number}

-- with n signals the root is built with these
abbrev pub root_takes : ℕ → Takes
root_takes n = record { first = 3 + n; go = cell_no (2 + n); res = high; kill = low; lists = no_lists }

no_lists_lem : (m : ℕ) → 0 < m → NetsBelow m no_lists
no_lists_lem m h j = go max_signals j
  where
    go : (k j : ℕ) → of_cell (code (replicate k low) j) < m
    go zero j = h
    go (suc k) zero = h
    go (suc k) (suc j) = go k j

inputs_none : (s k : ℕ) → registers (input_cells s k) ≡ 0
unfolding input_cells registers
inputs_none s zero = refl
inputs_none s (suc k) = inputs_none (suc s) k

signals_none : (L : List CellNo) (s k : ℕ) → registers (signal_cells L s k) ≡ 0
unfolding signal_cells registers
signals_none L s zero = refl
signals_none L s (suc k) = signals_none L (suc s) k

signals_gates : (L : List CellNo) (s k : ℕ) → Gates (signal_cells L s k)
unfolding signal_cells
signals_gates L s (suc k) = gates_cons (Gate Or (list_of L (signal_no s)) low) (signal_cells L (suc s) k) refl (signals_gates L (suc s) k)
signals_gates L s zero = gates_nil

inputs_within : (m I s k : ℕ) → s + k ≤ 1 + I → AllWithin (1 + I) m (input_cells s k)
unfolding input_cells AllWithin
inputs_within m I s zero h = tt
inputs_within m I s (suc k) h = (omega arith, inputs_within m I (suc s) k (omega arith))

signals_within : (i m : ℕ) (L : List CellNo) (s k : ℕ) → 0 < m → NetsBelow m L → AllWithin i m (signal_cells L s k)
unfolding signal_cells AllWithin
signals_within i m L s zero some h = tt
signals_within i m L s (suc k) some h = ((h s, some), signals_within i m L (suc s) k some h)

inputs_at : (s k j : ℕ) (rest : List Cell) → j < k → get_or (input_cells s k ++ rest) j Low ≡ Input (signal_no (s + j))
unfolding input_cells
inputs_at s zero j rest h = absurd (not-suc-le-zero h)
inputs_at s (suc k) zero rest h = ap (λ (x : ℕ). Input (signal_no x)) (sym (add-zero s))
inputs_at s (suc k) (suc j) rest h =
    inputs_at (suc s) k j rest (le_of_suc-le-suc h) ∙ ap (λ (x : ℕ). Input (signal_no x)) (suc-add s j ∙ sym (add-suc s j))

module _ (I U : ℕ) (t : Stmt) where
  abbrev pub root : Built
  root = root_of (1 + I + U) t

  -- the cells after the inputs, and those before the root's
  unfoldable pub after_inputs : List Cell
  after_inputs = signal_cells root.lists (1 + I) U ++ (boot_cells (1 + I + U) ++ root.cells)

  unfoldable front : List Cell
  front = Low ∷ (High ∷ (input_cells 1 I ++ (signal_cells root.lists (1 + I) U ++ boot_cells (1 + I + U))))

  -- "cell 0 low, 1 high, cells 2..I+1 inputs"
  pub netlist_head : netlist I U t ≡ Low ∷ (High ∷ (input_cells 1 I ++ after_inputs))
  unfolding netlist after_inputs
  netlist_head = refl

  pub input_at : (k : ℕ) → k < I → cell_at (netlist I U t) (cell_no (suc (suc k))) ≡ Input (signal_no (1 + k))
  input_at k h = rw netlist_head (inputs_at 1 I k after_inputs h)

  -- the others are of kinds 3 to 6
  pub netlist_gates : Gates after_inputs
  unfolding after_inputs root_of
  netlist_gates =
      let n : ℕ = 1 + I + U in
      gates_append (signal_cells root.lists (1 + I) U) (boot_cells n ++ root.cells) (signals_gates root.lists (1 + I) U)
      (gates_cons (Register high) (Gate Butnot high (cell_no (1 + n)) ∷ root.cells) refl
      (gates_cons (Gate Butnot high (cell_no (1 + n))) root.cells refl (build_gates t (3 + n) (cell_no (2 + n)) high low no_lists)))

  netlist_front : netlist I U t ≡ front ++ root.cells
  unfolding netlist front
  netlist_front = simp append_assoc

  front_length : length front ≡ 3 + (1 + I + U)
  unfolding front
  front_length =
      omega (
        arith,
        length-append (input_cells 1 I) (signal_cells root.lists (1 + I) U ++ boot_cells (1 + I + U)),
        length-append (signal_cells root.lists (1 + I) U) (boot_cells (1 + I + U)),
        length_inputs 1 I,
        length_signals root.lists (1 + I) U,
      )

  front_registers : registers front ≡ 1
  unfolding front registers
  front_registers = simp (registers_append, inputs_none, signals_none)

  -- at least 2+I+O cells
  pub netlist_length : length (netlist I U t) ≡ 3 + (1 + I + U) + length root.cells
  netlist_length = ap length netlist_front ∙ length-append front root.cells ∙ rw front_length refl

  pub netlist_enough : 2 + I + U ≤ length (netlist I U t)
  netlist_enough = omega (arith, netlist_length)

  -- one register for boot, and one for each halt
  pub netlist_registers : registers (netlist I U t) ≡ 1 + halt_count t
  unfolding root_of
  netlist_registers =
      ap registers netlist_front ∙ registers_append front root.cells
      ∙ rw (front_registers, of_build t (3 + (1 + I + U)) (cell_no (2 + (1 + I + U))) high low no_lists) refl

  -- every operand is a cell, every input one of I
  pub netlist_closed : Scoped I (1 + I + U) t → AllWithin (1 + I) (length (netlist I U t)) (netlist I U t)
  unfolding front root_of AllWithin
  netlist_closed c =
      let n : ℕ = 1 + I + U in
      let m : ℕ = length (netlist I U t) in
      let S : List Cell = signal_cells root.lists (1 + I) U in
      let long : m ≡ 3 + n + length root.cells = netlist_length in
      let some : 0 < m = omega arith in
      let body = build_within (1 + I) m I n (omega arith) t (3 + n) (cell_no (2 + n)) high low no_lists c (omega arith) (omega arith) some (no_lists_lem m some)
      (omega arith) in
      let boot : AllWithin (1 + I) m (boot_cells n) = (omega arith, ((omega arith, omega arith), tt)) in
      let signals : AllWithin (1 + I) m (S ++ boot_cells n) =
      append_within (1 + I) m S (boot_cells n) (signals_within (1 + I) m root.lists (1 + I) U some body.lists) boot in
      let rest : AllWithin (1 + I) m (input_cells 1 I ++ (S ++ boot_cells n)) =
      append_within (1 + I) m (input_cells 1 I) (S ++ boot_cells n) (inputs_within m I 1 I (omega arith)) signals in
      subst (λ (cs : List Cell). AllWithin (1 + I) m cs) (sym netlist_front)
      (append_within (1 + I) m front root.cells (tt, (tt, rest)) body.operands)

  -- the cells from boot on
  pub boot_split : netlist I U t
      ≡ (Low ∷ (High ∷ (input_cells 1 I ++ signal_cells root.lists (1 + I) U))) ++ (Register high ∷ (Gate Butnot high (cell_no (2 + I + U)) ∷ root.cells))
  unfolding netlist
  boot_split =
      let e : 2 + I + U ≡ 1 + (1 + I + U) = omega arith in
      let boot : List Cell = boot_cells (1 + I + U) ++ root.cells in
      rw e (ap (λ (l : List Cell). Low ∷ (High ∷ l)) (sym (append_assoc (input_cells 1 I) (signal_cells root.lists (1 + I) U) boot)))

  -- bit 0 is boot
  pub boot_register : (cell_at (netlist I U t) (cell_no (2 + I + U)) ≡ Register high) × (before (netlist I U t) (cell_no (2 + I + U)) ≡ 0)
  unfolding registers
  boot_register =
      let S : List Cell = signal_cells root.lists (1 + I) U in
      let p : List Cell = Low ∷ (High ∷ (input_cells 1 I ++ S)) in
      let e : netlist I U t ≡ p ++ (Register high ∷ (Gate Butnot high (cell_no (2 + I + U)) ∷ root.cells)) = boot_split in
      let long : length p ≡ 2 + I + U =
      omega (arith, length-append (input_cells 1 I) S, length_inputs 1 I, length_signals root.lists (1 + I) U) in (
        rw e (get_or_at p (Register high) (Gate Butnot high (cell_no (2 + I + U)) ∷ root.cells) Low (2 + I + U) long),
        rw e (ap registers (take_at p (Register high ∷ (Gate Butnot high (cell_no (2 + I + U)) ∷ root.cells)) (2 + I + U) long)
            ∙ simp (registers_append, inputs_none, signals_none)),
      )

-- the register of a halt, and the bit that it is: "bit 1+h halt h"
pub record HaltRegister (cs : List Cell) (h : HaltNo) (x : CellNo) : Type 0 where
  pub operand : CellNo
  pub is : cell_at cs x ≡ Register operand
  pub bit : before cs x ≡ 1 + of_halt h

record Starts (cs : List Cell) : Type 0 where
  operand : CellNo
  rest : List Cell
  is : cs ≡ Register operand ∷ rest

halt_starts : (h : HaltNo) (n : ℕ) (g r i : CellNo) (L : List CellNo) → Starts (build (leaf (Halt h)) n g r i L).cells
unfolding build build_halt
halt_starts h n g r i L = record { operand = _; rest = _; is = refl }

-- registers stand in the order boot, halt 0, halt 1, ..
pub halt_register : (I U : ℕ) (t : Stmt) → Numbered (halt_no 0) t → {h : HaltNo} {w : Takes} {k : ℕ}
    → Part t (root_takes (1 + I + U)) (leaf (Halt h)) w k
    → HaltRegister (netlist I U t) h (cell_no w.first)
unfolding root_of
halt_register I U t numbered {h} {w} {k} part =
    let s = part_stands part in
    let own = halt_starts h w.first w.go w.res w.kill w.lists in
    let p : List Cell = front I U t ++ s.earlier in
    let q : List Cell = own.rest ++ s.later in
    let e : netlist I U t ≡ p ++ (Register own.operand ∷ q) =
    netlist_front I U t ∙ rw (s.is, own.is) (sym (append_assoc (front I U t) s.earlier (Register own.operand ∷ q))) in
    let long : length p ≡ w.first = omega (arith, s.place, length-append (front I U t) s.earlier, front_length I U t) in
    let number : of_halt h ≡ 0 + k = part_number (halt_no 0) part numbered in
    let bits : registers p ≡ 1 + of_halt h =
    registers_append (front I U t) s.earlier ∙ rw (front_registers I U t, s.order) (omega arith) in
    record {
      operand = own.operand;
      is = rw e (get_or_at p (Register own.operand) q Low w.first long);
      bit = rw e (ap registers (take_at p (Register own.operand ∷ q) w.first long) ∙ bits);
    }

-- in a column that is long enough the words are those of the cells
pub stored_whole : (cs : List Cell) (l : List ℕ) → length cs ≤ length l → take (length cs) (sets l 0 (map word cs)) ≡ map word cs
stored_whole cs l h =
    let long : length (map word cs) ≡ length cs = length-map cs word in
    rw (sets-eq (map word cs) l 0 (omega arith)) (take_at (map word cs) (drop (0 + length (map word cs)) l) (length cs) long)

-- Of a sheet: its registers are not too many, it is closed, and it has at most `own_cells` for each statement besides the cells of the signals.
module _ {I O : ℕ} {t : Stmt} (h : Proper I O t) where
  pub few_registers : registers (netlist I (O + local_count t) t) ≤ max_registers
  few_registers = omega (arith, netlist_registers I (O + local_count t) t, h.halts)

  pub sheet_closed : AllWithin (1 + I) (length (netlist I (O + local_count t) t)) (netlist I (O + local_count t) t)
  sheet_closed =
      let all : 1 + I + O + local_count t ≡ 1 + I + (O + local_count t) = omega arith in
      netlist_closed I (O + local_count t) t (subst (λ (n : ℕ). Scoped I n t) all (proper_scoped h))

  pub few_cells : length (netlist I (O + local_count t) t) ≤ 4 + I + (O + local_count t) + own_cells * size t
  unfolding root_of
  few_cells =
      let U : ℕ = O + local_count t in
      let low_exits : LowLevels t = exits_low 0 t (omega arith) (proper_exits h) in
      omega (arith, netlist_length I U t, (sized t (3 + (1 + I + U)) (cell_no (2 + (1 + I + U))) high low no_lists low_exits).few)
