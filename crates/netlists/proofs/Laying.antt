-- The laws of writing: numbers, cells and the whole file, one behind the other.
use Prim.Native.Nat.{ℕ, suc, ◌+◌, ◌*◌, ◌≤◌, ◌<◌}
use mathlib.Core.Path.{◌≡◌, refl, sym, ap, ◌∙◌}
use mathlib.Core.Bool.{true}
use mathlib.Core.List.{List, [], ◌∷◌, ◌++◌}
use native.Mathlib.Omega.{arith}
use native.Mathlib.Numerals.{add-one}
use native.Mathlib.Nat.{add-zero}
use lib.ListN.{length, get_or, drop, length-append, drop_of_length-le}
use lib.Seq.{length-sets, drop-cons}
use borrow.Author.Tests.{lt-ltb, le-ltb}
use Rattle.number.specs.declared.CellNo.{CellNo}
use Rattle.number.specs.declared.Refusal.TheVariants.{Buffer}
use Rattle.number.specs.Counts.{of_cell, of_signal}
use Rattle.number.specs.Number.{pick, number_bytes, number_length, has_room, written, written_end}
use Rattle.number.specs.Refusals.{fault}
use Rattle.number.proofs.Laws.{one_byte, length_at_most, room}
use Rattle.limits.specs.Limits.{max_cells}
use Rattle.cells.specs.declared.Gate as gate
use Rattle.cells.specs.declared.Cell.{Cell}
use Rattle.cells.specs.declared.Cell.TheVariants.{Low, High, Input, Gate, Register}
use Rattle.cells.specs.Words.{cells_of}
use Rattle.cells.specs.Netlist.{netlist_of, WellFormed}
use Rattle.cells.proofs.Within.{Within, AllWithin, all_wider}
use Rattle.number.proofs.Lists.{sets_append}
use Rattle.cells.proofs.Words.{cells_length, inside, at_end}
use Rattle.cells.proofs.Fitting.{formed_within}
use Rattle.files.specs.File.{truth_table, written_kind, pair_bytes, operand_bytes, cell_bytes, cells_bytes, file_bytes}
use Rattle.files.proofs.Truths.{table_small}
use Rattle.netlists.specs.Write.{file_length, file_written, buffer_written, DidWrite, HasRoom, Lays, SmallCell, SmallCells}
use Rattle.netlists.specs.declared.writer.Writer.{Writer}
use Rattle.std.specs.Prelude.{Ok, Err}

-- a number that `write_number` wrote
pub number_lays : {v : ℕ} {w w' : Writer} → v < 16384 → HasRoom (number_bytes v) w → w'.buffer.ghost_name ≡ w.buffer.ghost_name
    → (w'.at ≡ written_end w.buffer.now w.at v) × (w'.buffer.now ≡ written w.buffer.now w.at v) → Lays (number_bytes v) w w'
unfolding written written_end pick
number_lays {v} {w} small fits lent wrote =
    let has : has_room w.buffer.now w.at v ≡ true = room w.buffer.now w.at v small fits.fits in
    record { lent = lent; past = rw has at wrote.0; laid = rw has at wrote.1 }

pub nothing_lays : (w : Writer) → Lays [] w w
nothing_lays w = record { lent = refl; past = sym (add-zero w.at); laid = refl }

-- more bytes behind some
pub lays_more : {a b : List ℕ} {w w₁ w₂ : Writer} → Lays a w w₁ → Lays b w₁ w₂ → Lays (a ++ b) w w₂
lays_more {a} {b} {w} p q =
    record {
      lent = q.lent ∙ p.lent;
      past = omega (arith, p.past, q.past, length-append a b);
      laid = q.laid ∙ rw (p.laid, p.past) (sym (sets_append w.buffer.now w.at a b));
    }

-- the room that both have, for the first and for the second
pub first_room : (a b : List ℕ) {w : Writer} → HasRoom (a ++ b) w → HasRoom a w
first_room a b h = record { fits = omega (arith, h.fits, length-append a b) }

pub still_room : {a : List ℕ} (b : List ℕ) {w w₁ : Writer} → Lays a w w₁ → HasRoom (a ++ b) w → HasRoom b w₁
still_room {a} b {w} p h =
    record { fits = omega (arith, h.fits, p.past, ap length p.laid, length-sets w.buffer.now w.at a, length-append a b) }

-- a kind is one byte, and a truth table is
written_low : (c : Cell) → written_kind c ≤ 7
written_low Low = omega arith
written_low High = omega arith
written_low (Input s) = omega arith
written_low (Gate g x y) = omega arith
written_low (Register x) = omega arith

led : (v : ℕ) (b : List ℕ) → v < 128 → length (number_bytes v ++ b) ≡ 1 + length b
led v b small = length-append (number_bytes v) b ∙ ap (λ (l : List ℕ). length l + length b) (one_byte v small)

pub cell_length : (c : Cell) → length (cell_bytes c) ≡ 1 + length (operand_bytes c)
cell_length c = led (written_kind c) (operand_bytes c) (omega (arith, written_low c))

pub gate_length : (g : gate.Gate) (x y : CellNo)
    → length (operand_bytes (Gate g x y)) ≡ 1 + (number_length (of_cell x) + number_length (of_cell y))
gate_length g x y =
    let pair = length-append (number_bytes (of_cell x)) (number_bytes (of_cell y)) in
    led (truth_table g) (pair_bytes x y) (omega (arith, table_small g)) ∙ ap (λ (k : ℕ). 1 + k) pair

-- one byte written is a kind, or a truth table
pub kind_lays : (c : Cell) {w w₁ : Writer} → Lays (written_kind c ∷ []) w w₁ → Lays (number_bytes (written_kind c)) w w₁
kind_lays c l = rw (one_byte (written_kind c) (omega (arith, written_low c))) l

pub table_lays : (g : gate.Gate) {w w₁ : Writer} → Lays (truth_table g ∷ []) w w₁ → Lays (number_bytes (truth_table g)) w w₁
table_lays g l = rw (one_byte (truth_table g) (omega (arith, table_small g))) l

pub kind_room : (c : Cell) {k : ℕ} {w : Writer} → HasRoom (cell_bytes c) w → HasRoom (k ∷ []) w
kind_room c h = record { fits = omega (arith, h.fits, cell_length c) }

pub table_room : (g : gate.Gate) (x y : CellNo) {k : ℕ} {w : Writer} → HasRoom (operand_bytes (Gate g x y)) w → HasRoom (k ∷ []) w
table_room g x y h = record { fits = omega (arith, h.fits, gate_length g x y) }

-- the cells from number n on
pub cells_from : (cs : List Cell) (n : ℕ) → n < length cs
    → cells_bytes (drop n cs) ≡ cell_bytes (get_or cs n Low) ++ cells_bytes (drop (suc n) cs)
unfolding cells_bytes
cells_from cs n h = rw (drop-cons cs n Low h) refl

no_cells : (cs : List Cell) (n : ℕ) → length cs ≤ n → cells_bytes (drop n cs) ≡ []
unfolding cells_bytes
no_cells cs n h = rw (drop_of_length-le cs h) refl

small_at : (cs : List Cell) (n : ℕ) → n < length cs → SmallCells (drop n cs) → SmallCell (get_or cs n Low) × SmallCells (drop (suc n) cs)
unfolding SmallCells
small_at cs n h small = rw (drop-cons cs n Low h) at small

-- The loop that writes the cells: what is left to write completes them.
module _ (words : List ℕ) (w₀ : Writer) where
  abbrev left : ℕ → List ℕ
  left n = cells_bytes (drop n (cells_of words))

  pub record Laying (n : ℕ) (w : Writer) : Type 0 where
    pub small : SmallCells (drop n (cells_of words))
    pub room : HasRoom (left n) w
    pub rest : (w' : Writer) → Lays (left n) w w' → Lays (cells_bytes (cells_of words)) w₀ w'

  pub begins : SmallCells (cells_of words) → HasRoom (cells_bytes (cells_of words)) w₀ → Laying 0 w₀
  begins small fits = record { small = small; room = fits; rest = λ w' l. l }

  module _ {n : ℕ} {w : Writer} (r : Laying n w) where
    pub writable : {c : Cell} → n < length words → c ≡ get_or (cells_of words) n Low → SmallCell c × HasRoom (cell_bytes c) w
    writable {c} h e =
        let cs : List Cell = cells_of words in
        rw e (
          (small_at cs n (inside words h) r.small).0,
          first_room (cell_bytes (get_or cs n Low)) (left (suc n)) (rw (cells_from cs n (inside words h)) at r.room),
        )

    pub goes_on : {c : Cell} {w₁ : Writer} → n < length words → c ≡ get_or (cells_of words) n Low → Lays (cell_bytes c) w w₁ → Laying (n + 1) w₁
    goes_on {c} h e l =
        let cs : List Cell = cells_of words in
        let here : left n ≡ cell_bytes c ++ left (suc n) = cells_from cs n (inside words h) ∙ rw e refl in
        rw add-one record {
          small = (small_at cs n (inside words h) r.small).1;
          room = still_room (left (suc n)) l (rw here at r.room);
          rest = λ w' behind. r.rest w' (rw here (lays_more l behind));
        }

    pub ends : length words ≤ n → Lays (cells_bytes (cells_of words)) w₀ w
    ends h = r.rest w (rw (no_cells (cells_of words) n (at_end words h)) (nothing_lays w))

-- Lengths.
operands_short : (c : Cell) → length (operand_bytes c) ≤ 5
operands_short Low = omega arith
operands_short High = omega arith
operands_short (Input s) = omega (arith, length_at_most (of_signal s))
operands_short (Gate g x y) = omega (arith, gate_length g x y, length_at_most (of_cell x), length_at_most (of_cell y))
operands_short (Register x) = omega (arith, length_at_most (of_cell x))

cells_short : (cs : List Cell) → length (cells_bytes cs) ≤ 6 * length cs
unfolding cells_bytes
cells_short [] = omega arith
cells_short (c ∷ cs) =
    omega (arith, length-append (cell_bytes c) (cells_bytes cs), cell_length c, operands_short c, cells_short cs)

module _ (I O : ℕ) (words : List ℕ) where
  pub length_parts : file_length (netlist_of I O words)
      ≡ number_length I + number_length O + number_length (length words) + length (cells_bytes (cells_of words))
  unfolding file_bytes
  length_parts =
      let m : ℕ = length (cells_of words) in
      let body : List ℕ = cells_bytes (cells_of words) in
      let count : number_length m ≡ number_length (length words) = ap number_length (cells_length words) in
      omega (
        arith,
        length-append (number_bytes I) (number_bytes O ++ (number_bytes m ++ body)),
        length-append (number_bytes O) (number_bytes m ++ body),
        length-append (number_bytes m) body,
      )

  -- the loop that adds the lengths up
  pub record Measuring (sum n : ℕ) : Type 0 where
    pub whole : sum + length (cells_bytes (drop n (cells_of words))) ≡ file_length (netlist_of I O words)

  pub measure_begins : {a b d : ℕ} → a ≡ number_length I → b ≡ number_length O → d ≡ number_length (length words) → Measuring (a + b + d) 0
  measure_begins p q r = record { whole = omega (arith, length_parts) }

  pub file_short : length words ≤ max_cells → file_length (netlist_of I O words) ≤ 8192
  file_short few =
      omega (
        arith,
        length_parts,
        length_at_most I,
        length_at_most O,
        length_at_most (length words),
        cells_short (cells_of words),
        cells_length words,
      )

  module _ {sum n : ℕ} (r : Measuring sum n) where
    pub measure_more : {c : Cell} {k : ℕ} → n < length words → c ≡ get_or (cells_of words) n Low → k ≡ length (operand_bytes c)
        → Measuring (sum + (1 + k)) (n + 1)
    measure_more {c} {k} h e q =
        let cs : List Cell = cells_of words in
        let here : cells_bytes (drop n cs) ≡ cell_bytes c ++ cells_bytes (drop (suc n) cs) =
        cells_from cs n (inside words h) ∙ rw e refl in
        rw add-one record {
          whole = omega (arith, r.whole, ap length here, length-append (cell_bytes c) (cells_bytes (drop (suc n) cs)), cell_length c);
        }

    pub measure_within : {c : Cell} {k : ℕ} → length words ≤ max_cells → n < length words → c ≡ get_or (cells_of words) n Low
        → k ≡ length (operand_bytes c) → sum + (1 + k) ≤ 8192
    measure_within few h e q = omega (arith, (measure_more h e q).whole, file_short few)

    pub measure_ends : length words ≤ n → sum ≡ file_length (netlist_of I O words)
    measure_ends h = omega (arith, r.whole, ap length (no_cells (cells_of words) n (at_end words h)))

-- The whole file.
small_cell : (c : Cell) → Within 16384 16384 c → SmallCell c
small_cell Low h = tt
small_cell High h = tt
small_cell (Input s) h = h
small_cell (Gate g x y) h = h
small_cell (Register x) h = h

small_cells : (cs : List Cell) → AllWithin 16384 16384 cs → SmallCells cs
unfolding AllWithin SmallCells
small_cells [] h = tt
small_cells (c ∷ cs) h = (small_cell c h.0, small_cells cs h.1)

module _ (I O : ℕ) (words : List ℕ) (h : WellFormed (netlist_of I O words)) where
  pub few_words : length words ≤ max_cells
  few_words = rw (cells_length words) at h.few

  pub all_small : SmallCells (cells_of words)
  all_small =
      let cs : List Cell = cells_of words in
      let m : ℕ = length cs in
      small_cells cs (all_wider (1 + I) m 16384 16384 cs (omega (arith, h.signals)) (omega (arith, h.few)) (formed_within h))

  -- a buffer too short is left as it is
  pub too_short : {k : ℕ} (s : List ℕ) → k ≡ file_length (netlist_of I O words) → length s < k
      → DidWrite (netlist_of I O words) (Err (fault Buffer k)) s s
  unfolding file_written buffer_written pick
  too_short {k} s e short =
      let test = lt-ltb (length s) (file_length (netlist_of I O words)) (omega arith) in
      rw e record { answer = rw test; left = rw test }

  abbrev body : List ℕ
  body = cells_bytes (cells_of words)

  abbrev counted : List ℕ
  counted = number_bytes (length words) ++ body

  module _ {k : ℕ} {w : Writer} (e : k ≡ file_length (netlist_of I O words)) (fits : k ≤ length w.buffer.now) (first : w.at ≡ 0) where
    room₀ : HasRoom (number_bytes I ++ (number_bytes O ++ counted)) w
    room₀ =
        let inputs = length-append (number_bytes I) (number_bytes O ++ counted) in
        let outputs = length-append (number_bytes O) counted in
        let count = length-append (number_bytes (length words)) body in
        record { fits = omega (arith, length_parts I O words, inputs, outputs, count) }

    pub inputs_room : (I < 16384) × HasRoom (number_bytes I) w
    inputs_room = (omega (arith, h.signals), first_room (number_bytes I) (number_bytes O ++ counted) room₀)

    module _ {w₁ : Writer} (i : Lays (number_bytes I) w w₁) where
      room₁ : HasRoom (number_bytes O ++ counted) w₁
      room₁ = still_room (number_bytes O ++ counted) i room₀

      pub outputs_room : (O < 16384) × HasRoom (number_bytes O) w₁
      outputs_room = (omega (arith, h.signals), first_room (number_bytes O) counted room₁)

      module _ {w₂ : Writer} (o : Lays (number_bytes O) w₁ w₂) where
        room₂ : HasRoom counted w₂
        room₂ = still_room counted o room₁

        pub count_room : (length words < 16384) × HasRoom (number_bytes (length words)) w₂
        count_room = (omega (arith, few_words), first_room (number_bytes (length words)) body room₂)

        module _ {w₃ : Writer} (m : Lays (number_bytes (length words)) w₂ w₃) where
          pub cells_room : HasRoom body w₃
          cells_room = still_room body m room₂

          pub file_laid : {w₄ : Writer} → Lays body w₃ w₄ → DidWrite (netlist_of I O words) (Ok k) w.buffer.now w₄.buffer.now
          unfolding file_written buffer_written pick file_bytes
          file_laid l =
              let all = lays_more i (lays_more o (lays_more m l)) in
              let test = le-ltb (length w.buffer.now) (file_length (netlist_of I O words)) (omega arith) in
              let count : length (cells_of words) ≡ length words = cells_length words in
              rw e record { answer = rw test; left = rw test (rw (count, ← first) all.laid) }
