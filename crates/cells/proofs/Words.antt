-- Kinds and words: a cell that is packed into a word is read back, a word's kind is its cell's, and a column of words holds its cells.
use Prim.Native.Nat.{ℕ, suc, zero, ◌+◌, ◌*◌, ◌%◌, ◌≤◌, ◌<◌}
use mathlib.Core.Path.{◌≡◌, refl, sym, ap, ◌∙◌}
use mathlib.Core.List.{List, [], ◌∷◌, ◌++◌, map}
use native.Mathlib.Omega.{arith}
use native.Mathlib.Nat.{mod-lt}
use lib.Dec.{eqb}
use lib.ListN.{length, get_or, take, drop, length-map, get_or-map}
use lib.Seq.{sets, sets-eq, take_at}
use Rattle.number.specs.Counts.{cell_no, of_cell, signal_no, of_signal}
use Rattle.number.specs.Number.{pick}
use Rattle.number.specs.declared.CellNo.{CellNo}
use Rattle.cells.specs.declared.Gate as gate
use Rattle.cells.specs.declared.Gate.TheVariants.{Or, And, Butnot}
use Rattle.cells.specs.declared.Cell.{Cell}
use Rattle.cells.specs.declared.Cell.TheVariants.{Low, High, Input, Gate, Register}
use Rattle.cells.specs.Cells.{gate_kind, kind_of, cell_at}
use Rattle.cells.specs.Words.{word, first_of, second_of, is_gate_kind, gate_in, cell_in, cells_of}
use Rattle.cells.proofs.Within.{Within, AllWithin}

-- Kinds.
pub gate_kind_low : (g : gate.Gate) → gate_kind g ≤ 5
gate_kind_low Or = omega arith
gate_kind_low And = omega arith
gate_kind_low Butnot = omega arith

pub gate_kind_high : (g : gate.Gate) → 2 < gate_kind g
gate_kind_high Or = omega arith
gate_kind_high And = omega arith
gate_kind_high Butnot = omega arith

pub kind_low : (c : Cell) → kind_of c ≤ 6
kind_low Low = omega arith
kind_low High = omega arith
kind_low (Input s) = omega arith
kind_low (Gate g x y) = omega (arith, gate_kind_low g)
kind_low (Register x) = omega arith

-- a gate is that of its kind ..
pub gate_in_kind : (g : gate.Gate) → gate_in (gate_kind g) ≡ g
unfolding gate_in pick
gate_in_kind Or = refl
gate_in_kind And = refl
gate_in_kind Butnot = refl

-- .. and the kinds 3 to 5 are those of their gates
pub kind_gate_in : (k : ℕ) → 2 < k → k < 6 → gate_kind (gate_in k) ≡ k
unfolding gate_in pick
kind_gate_in zero some few = absurd (omega arith)
kind_gate_in (suc zero) some few = absurd (omega arith)
kind_gate_in (suc (suc zero)) some few = absurd (omega arith)
kind_gate_in (suc (suc (suc zero))) some few = refl
kind_gate_in (suc (suc (suc (suc zero)))) some few = refl
kind_gate_in (suc (suc (suc (suc (suc zero))))) some few = refl
kind_gate_in (suc (suc (suc (suc (suc (suc k)))))) some few = absurd (omega arith)

-- One word.

-- its kind and its operands
record Fields (w k x y : ℕ) : Type 0 where
  kind : w % 8 ≡ k
  first : first_of w ≡ x
  second : second_of w ≡ y

fields : (k x y : ℕ) → k < 8 → x < 65536 → y < 65536 → Fields (k + 8 * x + 524288 * y) k x y
fields k x y hk hx hy = record { kind = omega arith; first = omega arith; second = omega arith }

-- a word has its cell's kind
pub word_kind : (c : Cell) → word c % 8 ≡ kind_of c
word_kind Low = refl
word_kind High = refl
word_kind (Input s) = omega arith
word_kind (Gate g x y) = omega (arith, gate_kind_low g)
word_kind (Register x) = omega arith

-- The arms of `cell_in`, by the kind and the operands of a word.
abbrev cell_by : ℕ → ℕ → ℕ → Cell
cell_by k x y =
    pick (eqb k 1) High
    (pick (eqb k 2) (Input (signal_no x))
    (pick (is_gate_kind k) (Gate (gate_in k) (cell_no x) (cell_no y))
    (pick (eqb k 6) (Register (cell_no x)) Low)))

-- a cell has its word's kind, where that is one
pub kind_in : (w : ℕ) → w % 8 ≤ 6 → kind_of (cell_in w) ≡ w % 8
unfolding cell_in gate_in pick
kind_in w low = go (w % 8) (first_of w) (second_of w) low
  where
    go : (k x y : ℕ) → k ≤ 6 → kind_of (cell_by k x y) ≡ k
    go zero x y h = refl
    go (suc zero) x y h = refl
    go (suc (suc zero)) x y h = refl
    go (suc (suc (suc zero))) x y h = refl
    go (suc (suc (suc (suc zero)))) x y h = refl
    go (suc (suc (suc (suc (suc zero))))) x y h = refl
    go (suc (suc (suc (suc (suc (suc zero)))))) x y h = refl
    go (suc (suc (suc (suc (suc (suc (suc k))))))) x y h = absurd (omega arith)

-- a word of no kind reads as low
pub no_kind : (w : ℕ) → (w % 8 ≡ 0 → ⊥) → (w % 8 ≡ 1 → ⊥) → (w % 8 ≡ 2 → ⊥) → (w % 8 ≡ 3 → ⊥) → (w % 8 ≡ 4 → ⊥) → (w % 8 ≡ 5 → ⊥)
    → (w % 8 ≡ 6 → ⊥) → ◌≡◌ {A = Cell} Low (cell_in w)
unfolding cell_in pick
no_kind w n0 n1 n2 n3 n4 n5 n6 = let e : w % 8 ≡ 7 = seven (w % 8) (four (w % 8) n0 n1 n2 n3) (mod-lt w (omega arith)) n4 n5 n6 in simp e
  where
    four : (k : ℕ) → (k ≡ 0 → ⊥) → (k ≡ 1 → ⊥) → (k ≡ 2 → ⊥) → (k ≡ 3 → ⊥) → 4 ≤ k
    four k n0 n1 n2 n3 = omega arith

    seven : (k : ℕ) → 4 ≤ k → k < 8 → (k ≡ 4 → ⊥) → (k ≡ 5 → ⊥) → (k ≡ 6 → ⊥) → k ≡ 7
    seven k h l n4 n5 n6 = omega arith

-- the numbers of a cell have sixteen bits each
pub cell_in_word : (c : Cell) → Within 65536 65536 c → cell_in (word c) ≡ c
unfolding cell_in gate_in pick
cell_in_word Low h = refl
cell_in_word High h = refl
cell_in_word (Input s) h =
    let w : 2 + 8 * of_signal s ≡ 2 + 8 * of_signal s + 524288 * 0 = omega arith in
    let f = fields 2 (of_signal s) 0 (omega arith) h (omega arith) in
    rw (w, f.kind, f.first)
cell_in_word (Gate g x y) h =
    let f = fields (gate_kind g) (of_cell x) (of_cell y) (omega (arith, gate_kind_low g)) h.0 h.1 in
    rw (f.kind, f.first, f.second) (by_gate g)
  where
    by_gate : (g : gate.Gate) → cell_by (gate_kind g) (of_cell x) (of_cell y) ≡ Gate g x y
    by_gate Or = refl
    by_gate And = refl
    by_gate Butnot = refl
cell_in_word (Register x) h =
    let w : 6 + 8 * of_cell x ≡ 6 + 8 * of_cell x + 524288 * 0 = omega arith in
    let f = fields 6 (of_cell x) 0 (omega arith) h (omega arith) in
    rw (w, f.kind, f.first)

-- A column of words.
pub words_mean : (cs : List Cell) → AllWithin 65536 65536 cs → cells_of (map word cs) ≡ cs
unfolding AllWithin
words_mean [] h = refl
words_mean (c ∷ cs) h = rw (cell_in_word c h.0, words_mean cs h.1)

-- the words that were stored mean the cells
pub stored_cells : (cells : List Cell) (l : List ℕ) → AllWithin 65536 65536 cells → length cells ≤ length l
    → cells_of (take (length cells) (sets l 0 (map word cells))) ≡ cells
stored_cells cells l h room =
    let words : List ℕ = map word cells in
    let long : length words ≡ length cells = length-map cells word in
    let laid : sets l 0 words ≡ words ++ drop (0 + length words) l = sets-eq words l 0 (omega arith) in
    ap (λ (ws : List ℕ). cells_of (take (length cells) ws)) laid
    ∙ ap cells_of (take_at words (drop (0 + length words) l) (length cells) long) ∙ words_mean cells h

pub cells_length : (words : List ℕ) → length (cells_of words) ≡ length words
cells_length words = length-map words cell_in

pub inside : (words : List ℕ) {i : ℕ} → i < length words → i < length (cells_of words)
inside words h = omega (arith, cells_length words)

pub at_end : (words : List ℕ) {i : ℕ} → length words ≤ i → length (cells_of words) ≤ i
at_end words h = omega (arith, cells_length words)

-- the cell of a column of words is that of its word: past the end 0 is read, which is low
pub cell_at_word : (words : List ℕ) (x : CellNo) → cell_at (cells_of words) x ≡ cell_in (get_or words (of_cell x) 0)
unfolding cell_in pick
cell_at_word words x = get_or-map cell_in words (of_cell x) 0

-- so a cell that was read from the column is the cell of the netlist
pub read_cell : (words : List ℕ) (i : ℕ) {c : Cell} {x : CellNo} → x ≡ cell_no i → c ≡ cell_in (get_or words (of_cell x) 0)
    → c ≡ cell_at (cells_of words) (cell_no i)
read_cell words i p q = q ∙ ap (λ (y : CellNo). cell_in (get_or words (of_cell y) 0)) p ∙ sym (cell_at_word words (cell_no i))

-- the same where the word was read by itself
pub word_cell : (words : List ℕ) (i : ℕ) {c : Cell} → c ≡ cell_in (get_or words i 0) → c ≡ cell_at (cells_of words) (cell_no i)
word_cell words i q = read_cell words i refl q
