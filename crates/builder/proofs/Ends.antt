-- The head and the foot of the netlist, and the whole from them and the root.
use Prim.Native.Nat.{ℕ, zero, suc, ◌+◌, ◌-◌, ◌<◌, ◌≤◌}
use mathlib.Core.Path.{◌≡◌, refl, sym, ap, ◌∙◌}
use mathlib.Core.Bool.{true, false}
use mathlib.Core.List.{List, [], ◌∷◌, ◌++◌, map}
use native.Mathlib.Omega.{arith}
use native.Mathlib.Numerals.{add-one}
use lib.ListN.{length, set, length-map, length-append, replicate}
use lib.Seq.{sets}
use Rattle.number.specs.Counts.{cell_no, signal_no, stmt_no, halt_no}
use Rattle.number.specs.Number.{pick}
use Rattle.number.specs.Refusals.{fault}
use Rattle.number.specs.declared.CellNo.{CellNo}
use Rattle.number.specs.declared.Refusal.TheVariants.{Room}
use Rattle.limits.specs.Limits.{max_signals, many_cells}
use Rattle.sheet.specs.declared.Leaf.TheVariants.{Nothing, Halt, Emit, Exit}
use Rattle.sheet.specs.declared.Unary.{Unary}
use Rattle.sheet.specs.declared.Unary.TheVariants.{Loop, Watching, Trap, Signal}
use Rattle.sheet.specs.declared.Binary.{Binary}
use Rattle.sheet.specs.declared.Binary.TheVariants.{Sequence, Present, Parallel}
use Rattle.sheet.specs.Stmt.{Stmt, leaf, one, two, local_count}
use Rattle.sheet.proofs.Notions.{UnaryScoped, BinaryScoped, Scoped, proper_scoped, proper_exits}
use Rattle.sets.proofs.Bounds.{exits_low}
use Rattle.cells.specs.declared.Cell.{Cell}
use Rattle.cells.specs.declared.Cell.TheVariants.{Low, High, Input, Gate, Register}
use Rattle.cells.specs.declared.Gate.TheVariants.{Or, Butnot}
use Rattle.cells.specs.Cells.{low, high}
use Rattle.cells.specs.Words.{word}
use Rattle.gates.specs.declared.Column.{Column}
use Rattle.gates.proofs.Laws.{stored_more, set_below}
use Rattle.parts.specs.declared.Returned.{Returned}
use Rattle.parts.specs.Equations.{Built, list_of, build}
use Rattle.parts.specs.Contract.{nets, Builds, UnaryNamed, BinaryNamed}
use Rattle.parts.proofs.Parts.{builds_as}
use Rattle.builder.specs.Netlist.{input_cells, signal_cells, root_of, boot_cells, netlist}
use Rattle.builder.specs.Walking.{Named, InShape, Buildable, Does}
use Rattle.builder.specs.Contract.{OfSheet, SomeSheet, room_for, DoesNetlist}
use Rattle.number.specs.declared.Fault.{Fault}
use Rattle.std.specs.Prelude.{Result, Ok, Err}
use Rattle.sets.specs.declared.Entry.{Entry}
use Rattle.sheet.specs.declared.Row.{Row}

-- The loops: what is left to be written, once written, makes the whole. First that over the inputs, at signal s:
pub record InputLoop (l₀ l : List ℕ) (I s : ℕ) : Type 0 where
  pub least : 1 ≤ s
  pub most : s ≤ I + 1
  pub rest : sets l (suc s) (map word (input_cells s (I + 1 - s))) ≡ sets l₀ 2 (map word (input_cells 1 I))

pub inputs_start : (l : List ℕ) (I : ℕ) → InputLoop l l I 1
inputs_start l I = let all : I + 1 - 1 ≡ I = omega arith in record { least = omega arith; most = omega arith; rest = rw all refl }

one_input : (l : List ℕ) (s k : ℕ)
    → sets (set l (suc s) (word (Input (signal_no s)))) (suc (suc s)) (map word (input_cells (suc s) k)) ≡ sets l (suc s) (map word (input_cells s (suc k)))
unfolding input_cells
one_input l s k = refl

pub inputs_step : {l₀ l l' : List ℕ} {I s : ℕ} → InputLoop l₀ l I s → s ≤ I → l' ≡ set l (suc s) (word (Input (signal_no s))) → InputLoop l₀ l' I (s + 1)
inputs_step {l₀} {l} {l'} {I} {s} h more e =
    let left : I + 1 - s ≡ suc (I - s) = omega arith in
    let next : I + 1 - suc s ≡ I - s = omega arith in
    record {
      least = omega arith;
      most = omega arith;
      rest = rw (add-one s, next, e) (one_input l s (I - s) ∙ (rw left at h.rest));
    }

none_left : (l : List ℕ) (I s : ℕ) → I < s → sets l (suc s) (map word (input_cells s (I + 1 - s))) ≡ l
unfolding input_cells
none_left l I s h = let none : I + 1 - s ≡ 0 = omega arith in rw none refl

pub inputs_end : {l₀ l : List ℕ} {I s : ℕ} → InputLoop l₀ l I s → I < s → l ≡ sets l₀ 2 (map word (input_cells 1 I))
inputs_end {l₀} {l} {I} {s} h past = sym (none_left l I s past) ∙ h.rest

-- then that over the other signals
pub record SignalLoop (L : List CellNo) (l₀ l : List ℕ) (from end s : ℕ) : Type 0 where
  pub rest : sets l (suc s) (map word (signal_cells L s (end - s))) ≡ sets l₀ (suc from) (map word (signal_cells L from (end - from)))

one_signal : (L : List CellNo) (l : List ℕ) (s k : ℕ)
    → sets (set l (suc s) (word (Gate Or (list_of L (signal_no s)) low))) (suc (suc s)) (map word (signal_cells L (suc s) k))
    ≡ sets l (suc s) (map word (signal_cells L s (suc k)))
unfolding signal_cells
one_signal L l s k = refl

no_signal : (L : List CellNo) (l : List ℕ) (end s : ℕ) → end ≤ s → sets l (suc s) (map word (signal_cells L s (end - s))) ≡ l
unfolding signal_cells
no_signal L l end s h = let none : end - s ≡ 0 = omega arith in rw none refl

module _ {L : List CellNo} {l₀ l : List ℕ} {from end s : ℕ} (h : SignalLoop L l₀ l from end s) where
  pub signals_step : {l' : List ℕ} → s < end → l' ≡ set l (suc s) (word (Gate Or (list_of L (signal_no s)) low)) → SignalLoop L l₀ l' from end (s + 1)
  signals_step {l'} more e =
      let left : end - s ≡ suc (end - suc s) = omega arith in
      record { rest = rw (add-one s, e) (one_signal L l s (end - suc s) ∙ (rw left at h.rest)) }

  pub signals_end : end ≤ s → l ≡ sets l₀ (suc from) (map word (signal_cells L from (end - from)))
  signals_end past = sym (no_signal L l end s past) ∙ h.rest

-- how many cells these are
pub length_inputs : (s k : ℕ) → length (input_cells s k) ≡ k
unfolding input_cells
length_inputs s zero = refl
length_inputs s (suc k) = ap suc (length_inputs (suc s) k)

pub length_signals : (L : List CellNo) (s k : ℕ) → length (signal_cells L s k) ≡ k
unfolding signal_cells
length_signals L s zero = refl
length_signals L s (suc k) = ap suc (length_signals L (suc s) k)

-- the same of several stores
sets_first : (l : List ℕ) (j k : ℕ) (u v : List ℕ) → j + length v ≤ k → sets (sets l k u) j v ≡ sets (sets l j v) k u
sets_first l j k u [] h = refl
sets_first l j k u (x ∷ v) h =
    ap (λ (r : List ℕ). sets r (suc j) v) (set_below l j k x u (omega arith)) ∙ sets_first (set l j x) (suc j) k u v (omega arith)

-- the column with the constants and the inputs
abbrev pub with_inputs : ℕ → List ℕ → List ℕ
with_inputs I l = sets l 0 (map word (Low ∷ (High ∷ input_cells 1 I)))

-- the head: constants, inputs, boot
pub head_wrote : (I n : ℕ) (l : List ℕ) {l₁ l₂ l₃ l₄ l₅ : List ℕ} → l₁ ≡ set l 0 (word Low) → l₂ ≡ set l₁ 1 (word High)
    → l₃ ≡ sets l₂ 2 (map word (input_cells 1 I))
    → l₄ ≡ set l₃ (1 + n) (word (Register high)) → l₅ ≡ set l₄ (2 + n) (word (Gate Butnot high (cell_no (1 + n))))
    → l₅ ≡ sets (with_inputs I l) (1 + n) (map word (boot_cells n))
head_wrote I n l e₁ e₂ e₃ e₄ e₅ = let next : 2 + n ≡ suc (1 + n) = omega arith in e₅ ∙ rw (next, e₄, e₃, e₂, e₁) refl

-- the head, the root and the foot
whole_wrote : (I U : ℕ) (t : Stmt) (l : List ℕ) {l₃ ls : List ℕ} {c c' : Column} {b : Returned}
    → c.cells.now ≡ sets (with_inputs I l) (1 + (1 + I + U)) (map word (boot_cells (1 + I + U))) → c.count ≡ 3 + (1 + I + U)
    → Builds (root_of (1 + I + U) t) c c' ls b → l₃ ≡ sets c'.cells.now (2 + I) (map word (signal_cells (nets ls) (1 + I) U))
    → (l₃ ≡ sets l 0 (map word (netlist I U t))) × (c'.count ≡ length (netlist I U t))
unfolding netlist
whole_wrote I U t l {l₃} {ls} {c} {c'} head start b foot =
    let before : List ℕ = with_inputs I l in
    let root : Built = root_of (1 + I + U) t in
    let inputs : List Cell = Low ∷ (High ∷ input_cells 1 I) in
    let signals : List Cell = signal_cells root.lists (1 + I) U in
    let boot : List Cell = boot_cells (1 + I + U) in
    let with_s : List ℕ = sets before (2 + I) (map word signals) in
    let few : 2 + I + length (map word signals) ≤ 1 + (1 + I + U) = omega (arith, length-map signals word, length_signals root.lists (1 + I) U) in
    let rest : c'.cells.now ≡ sets before (1 + (1 + I + U)) (map word (boot ++ root.cells)) =
    stored_more before (1 + (1 + I + U)) boot root.cells head (omega arith) b.wrote.stored in
    let last : l₃ ≡ sets with_s (1 + (1 + I + U)) (map word (boot ++ root.cells)) =
    foot ∙ rw (b.lists, rest) (sets_first before (2 + I) (1 + (1 + I + U)) (map word (boot ++ root.cells)) (map word signals) few) in
    let others : l₃ ≡ sets before (2 + I) (map word (signals ++ (boot ++ root.cells))) =
    stored_more before (2 + I) signals (boot ++ root.cells) refl (omega (arith, length_signals root.lists (1 + I) U)) last in (
      stored_more l 0 inputs (signals ++ (boot ++ root.cells)) refl (omega (arith, length_inputs 1 I)) others,
      omega (
        arith,
        b.wrote.counted,
        length_inputs 1 I,
        length_signals root.lists (1 + I) U,
        length-append (input_cells 1 I) (signals ++ (boot ++ root.cells)),
        length-append signals (boot ++ root.cells),
        length-append boot root.cells,
      ),
    )

-- the answer
pub over : (k : ℕ) → many_cells k ≡ true → Err (fault Room 0) ≡ room_for k
unfolding room_for pick
over k h = rw h refl

pub not_over : (k : ℕ) → many_cells k ≡ false → Ok k ≡ room_for k
unfolding room_for pick
not_over k h = rw h refl

-- What the code asks of a statement is so of a sheet's.
named : (i n : ℕ) (t : Stmt) → n ≤ max_signals → Scoped i n t → Named t
unfolding Scoped Named
named i n (leaf Nothing) h c = tt
named i n (leaf (Halt k)) h c = tt
named i n (leaf (Emit s)) h c = omega (arith, c.1)
named i n (leaf (Exit k)) h c = tt
named i n (one u p) h c = (unary u c.0, named i n p h c.1)
  where
    unary : (u : Unary) → UnaryScoped n u → UnaryNamed u
    unary Loop c = tt
    unary (Watching s) c = omega arith
    unary Trap c = tt
    unary (Signal s) c = tt
named i n (two b p q) h c = (binary b c.0, named i n p h c.1, named i n q h c.2)
  where
    binary : (b : Binary) → BinaryScoped n b → BinaryNamed b
    binary Sequence c = tt
    binary (Present s) c = omega arith
    binary Parallel c = tt

module _ {rows : List Row} {ms : List Entry} {I n O : ℕ} {t : Stmt} (is : OfSheet rows ms I n O t) where
  pub sheet_fit : InShape ms (stmt_no 0) t
  sheet_fit =
      record {
        low = exits_low 0 t (omega arith) (proper_exits is.proper);
        named = named I (1 + I + O + local_count t) t is.proper.signals (proper_scoped is.proper);
        kept = is.kept;
      }

  pub sheet_signals : (I < n) × (n ≤ max_signals)
  sheet_signals = (omega (arith, is.signals), omega (arith, is.signals, is.proper.signals))

pub sheet_ready : {rows : List Row} {ms : List Entry} {ls : List ℕ} {I n : ℕ} (w : SomeSheet rows ms I n) → length ls ≡ max_signals → Buildable rows ms ls (stmt_no 0) (3 + n)
sheet_ready {n = n} w long =
    let few : n ≤ max_signals = (sheet_signals w.is).1 in
    record {
      first = halt_no 0;
      stmt = w.stmt;
      holds = w.is.holds;
      small = omega (arith, w.is.proper.statements);
      fit = sheet_fit w.is;
      lists = long;
      room = omega (arith, w.is.proper.statements);
    }

-- the whole
pub netlist_does : {rows : List Row} {ms : List Entry} {l l₃ l₄ ls : List ℕ} {c c' : Column} {b : Returned} {r : Result ℕ Fault} (I n : ℕ)
    → c.cells.now ≡ sets (with_inputs I l) (1 + n) (map word (boot_cells n)) → c.count ≡ 3 + n
    → Does (record {
      rows = rows;
      statics = ms;
      stmt = stmt_no 0;
      wires = record { go = cell_no (2 + n); res = high; kill = low };
      column = c;
      lists = replicate max_signals 0;
    }) c' ls b
    → l₄ ≡ l₃ → l₃ ≡ sets c'.cells.now (suc (1 + I)) (map word (signal_cells (nets ls) (1 + I) (n - (1 + I)))) → r ≡ room_for c'.count
    → DoesNetlist rows ms I n l l₄ r
unfolding root_of
netlist_does {rows} {ms} {l} {ls = ls} {c = c} {c' = c'} {b = b} I n head start d last foot e = record {
  does = λ O t is.
      let U : ℕ = O + local_count t in
      let all : n ≡ 1 + I + U = omega (arith, is.signals) in
      let others : n - (1 + I) ≡ U = omega arith in
      let next : suc (1 + I) ≡ 2 + I = omega arith in
      let root : Builds (build t (3 + n) (cell_no (2 + n)) high low (nets (replicate max_signals 0))) c c' ls b =
      builds_as (rw start) (d.does (halt_no 0) t is.holds (sheet_fit is)) in
      let w = whole_wrote I U t l (rw all at head) (omega (arith, start, all)) (rw all at root) (rw (others, next) at foot) in
      record { answer = e ∙ ap room_for w.1; stored = last ∙ w.0 };
}
