-- What stands in the bytes where a cell, or all cells, were read: the numbers of its kind and operands, each of which is right. And where these stand the cell is
-- read.
use Prim.Native.Nat.{ℕ, zero, suc, ◌≤◌, ◌<◌}
use mathlib.Core.Path.{◌≡◌, refl, sym, ap, ◌∙◌}
use mathlib.Core.Bool.{Bool, true, false}
use mathlib.Core.List.{List, [], ◌∷◌}
use native.Mathlib.Omega.{arith}
use lib.Dec.{ltb, eqb}
use lib.ListN.{length}
use borrow.Author.Tests.{eqb-true, eqb-false, ne_eqb}
use Rattle.number.specs.declared.CellNo.{CellNo}
use Rattle.number.specs.declared.Cursor.{Cursor}
use Rattle.number.specs.Counts.{cell_no, of_cell, signal_no, of_signal}
use Rattle.number.specs.Number.{pick, cursor, number_at}
use Rattle.cells.specs.declared.Gate as gate
use Rattle.cells.specs.declared.Cell.{Cell}
use Rattle.cells.specs.declared.Cell.TheVariants.{Low, High, Input, Gate, Register}
use Rattle.cells.specs.Cells.{gate_kind, next_cell}
use Rattle.cells.specs.Words.{gate_in}
use Rattle.cells.specs.Values.{tally}
use Rattle.cells.specs.Netlist.{is_net}
use Rattle.cells.proofs.Words.{gate_in_kind, kind_gate_in, gate_kind_low, gate_kind_high}
use Rattle.files.specs.File.{truth_table}
use Rattle.files.specs.Judge.{file_kinds, judge_kind}
use Rattle.files.specs.Read.{net_of, net_at, with_second, pair_of, pair_at, input_of, gate_of, is_truth_table, gate_with, table_of, register_of}
use Rattle.files.specs.Read.{operands_at, of_kind, after_kind, read_cell}
use Rattle.files.specs.Read.{CellsOutcome, got, refused, in_front, and_then, read_cells}
use Rattle.files.proofs.Judging.{kind_right}
use Rattle.files.proofs.Truths.{is_table, with_table, table_with}
use Rattle.number.specs.declared.Fault.{Fault}
use Rattle.number.specs.declared.Refusal.{Refusal}
use Rattle.std.specs.Prelude.{Result, Ok, Err}

-- the net y stands at `at`, and is one of m cells
pub record NetStands (s : List ℕ) (m at : ℕ) (y : CellNo) (past : Cursor) : Type 0 where
  pub number : number_at s at ≡ Ok (of_cell y, past)
  pub is : is_net m y ≡ true

pub record PairStands (s : List ℕ) (m at : ℕ) (y z : CellNo) (past : Cursor) : Type 0 where
  pub mid : Cursor
  pub first : NetStands s m at y mid
  pub second : NetStands s m mid.at z past

pub record InputStands (s : List ℕ) (x : CellNo) (at n : ℕ) (past : Cursor) : Type 0 where
  pub number : number_at s at ≡ Ok (n, past)
  pub is : eqb (suc n) (of_cell x) ≡ true

-- the truth table of the gate g stands at `at`, and then its operands
pub record TableStands (s : List ℕ) (m at : ℕ) (g : gate.Gate) (y z : CellNo) (past : Cursor) : Type 0 where
  pub mid : Cursor
  pub number : number_at s at ≡ Ok (truth_table g, mid)
  pub pair : PairStands s m mid.at y z past

-- a gate of kind k: by its own kind, or by kind 7 with its truth table
pub data GateStands (s : List ℕ) (m at k : ℕ) (g : gate.Gate) (y z : CellNo) (past : Cursor) : Type 0 where
  own : k ≡ gate_kind g → PairStands s m at y z past → GateStands s m at k g y z past
  table : k ≡ 7 → TableStands s m at g y z past → GateStands s m at k g y z past

-- the operands of the cell c, at number x of m, stand at `at`, behind its kind k
abbrev pub Operands : List ℕ → ℕ → CellNo → ℕ → ℕ → Cell → Cursor → Type 0
Operands s m x at k Low past = (k ≡ 0) × (past ≡ cursor at)
Operands s m x at k High past = (k ≡ 1) × (past ≡ cursor at)
Operands s m x at k (Input v) past = (k ≡ 2) × InputStands s x at (of_signal v) past
Operands s m x at k (Gate g y z) past = GateStands s m at k g y z past
Operands s m x at k (Register y) past = (k ≡ 6) × NetStands s m at y past

-- with so many registers before it, the cell c stands at `at`
pub record CellStands (s : List ℕ) (I m : ℕ) (x : CellNo) (registers at : ℕ) (c : Cell) (past : Cursor) : Type 0 where
  pub mid : Cursor
  pub k : ℕ
  pub kind : number_at s at ≡ Ok (k, mid)
  pub right : judge_kind file_kinds I x registers k ≡ Ok tt
  pub operands : Operands s m x mid.at k c past

-- what holds of both branches holds of the one picked
pub by_test : {A : Type 0} (P : A → Type 0) (b : Bool) (u v : A) → (b ≡ true → P u) → (b ≡ false → P v) → P (pick b u v)
unfolding pick
by_test P true u v f g = f refl
by_test P false u v f g = g refl

-- what stands where something was read
abbrev NetFound : List ℕ → ℕ → ℕ → Result (CellNo × Cursor) Fault → Type 0
NetFound s m at (Err f) = Unit
NetFound s m at (Ok (y, past)) = NetStands s m at y past

abbrev PairFound : List ℕ → ℕ → ℕ → Result (CellNo × CellNo × Cursor) Fault → Type 0
PairFound s m at (Err f) = Unit
PairFound s m at (Ok (y, z, past)) = PairStands s m at y z past

abbrev KindFound : List ℕ → ℕ → CellNo → ℕ → ℕ → Result (Cell × Cursor) Fault → Type 0
KindFound s m x at k (Err f) = Unit
KindFound s m x at k (Ok (c, past)) = Operands s m x at k c past

abbrev CellFound : List ℕ → ℕ → ℕ → CellNo → ℕ → ℕ → Result (Cell × Cursor) Fault → Type 0
CellFound s I m x registers at (Err f) = Unit
CellFound s I m x registers at (Ok (c, past)) = CellStands s I m x registers at c past

net_found : (s : List ℕ) (m at : ℕ) → NetFound s m at (net_at s m at)
unfolding net_of
net_found s m at = go (number_at s at) refl
  where
    go : (r : Result (ℕ × Cursor) Fault) → number_at s at ≡ r → NetFound s m at (net_of m at r)
    go (Err f) e = tt
    go (Ok (v, c)) e = by_test (NetFound s m at) (ltb v m) (Ok (cell_no v, c)) _ (λ t. record { number = e; is = t }) (λ t. tt)

pair_found : (s : List ℕ) (m at : ℕ) → PairFound s m at (pair_at s m at)
unfolding with_second pair_of
pair_found s m at = go (net_at s m at) (net_found s m at)
  where
    next : (y : CellNo) (mid : Cursor) → NetStands s m at y mid → (r : Result (CellNo × Cursor) Fault) → NetFound s m mid.at r
        → PairFound s m at (with_second y r)
    next y mid h (Err f) w = tt
    next y mid h (Ok (z, past)) w = record { mid = mid; first = h; second = w }

    go : (r : Result (CellNo × Cursor) Fault) → NetFound s m at r → PairFound s m at (pair_of s m r)
    go (Err f) w = tt
    go (Ok (y, mid)) w = next y mid w (net_at s m mid.at) (net_found s m mid.at)

module _ (s : List ℕ) (m : ℕ) (x : CellNo) (at k : ℕ) where
  input_found : k ≡ 2 → KindFound s m x at k (input_of x at (number_at s at))
  unfolding input_of
  input_found h = go (number_at s at) refl
    where
      go : (r : Result (ℕ × Cursor) Fault) → number_at s at ≡ r → KindFound s m x at k (input_of x at r)
      go (Err f) e = tt
      go (Ok (v, c)) e =
          by_test (KindFound s m x at k) (eqb (suc v) (of_cell x)) (Ok (Input (signal_no v), c)) _
          (λ t. (h, record { number = e; is = t })) (λ t. tt)

  register_found : k ≡ 6 → KindFound s m x at k (register_of (net_at s m at))
  unfolding register_of
  register_found h = go (net_at s m at) (net_found s m at)
    where
      go : (r : Result (CellNo × Cursor) Fault) → NetFound s m at r → KindFound s m x at k (register_of r)
      go (Err f) w = tt
      go (Ok (y, past)) w = (h, w)

  gate_found : 2 < k → k < 6 → KindFound s m x at k (gate_of (gate_in k) (pair_at s m at))
  unfolding gate_of
  gate_found some few = go (pair_at s m at) (pair_found s m at)
    where
      go : (r : Result (CellNo × CellNo × Cursor) Fault) → PairFound s m at r → KindFound s m x at k (gate_of (gate_in k) r)
      go (Err f) w = tt
      go (Ok (y, z, past)) w = own (sym (kind_gate_in k some few)) w

  table_found : k ≡ 7 → KindFound s m x at k (table_of s m at (number_at s at))
  unfolding table_of gate_of
  table_found h = go (number_at s at) refl
    where
      behind : (t : ℕ) (mid : Cursor) → number_at s at ≡ Ok (t, mid) → t ≡ truth_table (gate_with t) → (r : Result (CellNo × CellNo × Cursor) Fault)
          → PairFound s m mid.at r → KindFound s m x at k (gate_of (gate_with t) r)
      behind t mid e is (Err f) w = tt
      behind t mid e is (Ok (y, z, past)) w = table h (record { mid = mid; number = e ∙ ap (λ (v : ℕ). Ok (v, mid)) is; pair = w })

      go : (r : Result (ℕ × Cursor) Fault) → number_at s at ≡ r → KindFound s m x at k (table_of s m at r)
      go (Err f) e = tt
      go (Ok (t, mid)) e =
          by_test (KindFound s m x at k) (is_truth_table t) (gate_of (gate_with t) (pair_at s m mid.at)) _
          (λ is. behind t mid e (sym (table_with t is)) (pair_at s m mid.at) (pair_found s m mid.at)) (λ not. tt)

  operands_found : k ≤ file_kinds → KindFound s m x at k (operands_at s m x at k)
  unfolding operands_at
  operands_found low =
      let P : Result (Cell × Cursor) Fault → Type 0 = KindFound s m x at k in
      by_test P (eqb k 0) (Ok (Low, cursor at)) _ (λ t. (eqb-true k 0 t, refl)) (λ n0.
      by_test P (eqb k 1) (Ok (High, cursor at)) _ (λ t. (eqb-true k 1 t, refl)) (λ n1.
      by_test P (eqb k 2) (input_of x at (number_at s at)) _ (λ t. input_found (eqb-true k 2 t)) (λ n2.
      by_test P (eqb k 6) (register_of (net_at s m at)) _ (λ t. register_found (eqb-true k 6 t)) (λ n6.
      by_test P (eqb k 7) (table_of s m at (number_at s at)) (gate_of (gate_in k) (pair_at s m at)) (λ t. table_found (eqb-true k 7 t)) (λ n7.
      let not_0 : k ≡ 0 → ⊥ = eqb-false k 0 n0 in
      let not_1 : k ≡ 1 → ⊥ = eqb-false k 1 n1 in
      let not_2 : k ≡ 2 → ⊥ = eqb-false k 2 n2 in
      let not_6 : k ≡ 6 → ⊥ = eqb-false k 6 n6 in
      let not_7 : k ≡ 7 → ⊥ = eqb-false k 7 n7 in
      gate_found (omega arith) (omega arith))))))

module _ (s : List ℕ) (I m : ℕ) (x : CellNo) (registers at : ℕ) where
  kind_found : (k : ℕ) (mid : Cursor) → number_at s at ≡ Ok (k, mid) → judge_kind file_kinds I x registers k ≡ Ok tt
      → (r : Result (Cell × Cursor) Fault) → KindFound s m x mid.at k r → CellFound s I m x registers at r
  kind_found k mid e right (Err f) w = tt
  kind_found k mid e right (Ok (c, past)) w =
      record { mid = mid; k = k; kind = e; right = right; operands = w }

  cell_found : CellFound s I m x registers at (read_cell s I m x registers at)
  unfolding read_cell of_kind after_kind
  cell_found = go (number_at s at) refl
    where
      judged : (k : ℕ) (mid : Cursor) → number_at s at ≡ Ok (k, mid) → (j : Result (Unit {0}) Refusal) → judge_kind file_kinds I x registers k ≡ j
          → CellFound s I m x registers at (of_kind s m x at mid.at k j)
      judged k mid e (Err r) q = tt
      judged k mid e (Ok tt) q =
          kind_found k mid e q (operands_at s m x mid.at k) (operands_found s m x mid.at k (kind_right file_kinds I x registers k q).low)

      go : (r : Result (ℕ × Cursor) Fault) → number_at s at ≡ r → CellFound s I m x registers at (after_kind s I m x registers at r)
      go (Err f) e = tt
      go (Ok (k, mid)) e = judged k mid e (judge_kind file_kinds I x registers k) refl

  -- a cell that was read stands there
  pub cell_stands : {c : Cell} {past : Cursor} → read_cell s I m x registers at ≡ Ok (c, past) → CellStands s I m x registers at c past
  cell_stands e = rw e at cell_found

net_read : {s : List ℕ} {m at : ℕ} {y : CellNo} {past : Cursor} → NetStands s m at y past → net_at s m at ≡ Ok (y, past)
unfolding net_of pick
net_read h = simp (h.number, h.is)

pair_read : {s : List ℕ} {m at : ℕ} {y z : CellNo} {past : Cursor} → PairStands s m at y z past → pair_at s m at ≡ Ok (y, z, past)
unfolding pair_of with_second
pair_read h = simp (net_read h.first, net_read h.second)

-- kinds 3 to 5 have two operands
pub gate_operands : (s : List ℕ) (m : ℕ) (x : CellNo) (at k : ℕ) → (k ≡ 0 → ⊥) → (k ≡ 1 → ⊥) → (k ≡ 2 → ⊥) → (k ≡ 6 → ⊥) → (k ≡ 7 → ⊥)
    → operands_at s m x at k ≡ gate_of (gate_in k) (pair_at s m at)
unfolding operands_at pick
gate_operands s m x at k a b d e f = simp (ne_eqb k 0 a, ne_eqb k 1 b, ne_eqb k 2 d, ne_eqb k 6 e, ne_eqb k 7 f)

gate_read : (s : List ℕ) (m : ℕ) (x : CellNo) (at k : ℕ) (g : gate.Gate) (y z : CellNo) (past : Cursor) → GateStands s m at k g y z past
    → operands_at s m x at k ≡ Ok (Gate g y z, past)
unfolding operands_at table_of gate_of pick
gate_read s m x at k g y z past (own e h) =
    let low : gate_kind g ≤ 5 = gate_kind_low g in
    let high : 2 < gate_kind g = gate_kind_high g in
    let two =
    gate_operands s m x at (gate_kind g) (λ e. omega arith) (λ e. omega arith) (λ e. omega arith) (λ e. omega arith) (λ e. omega arith) in
    rw e (two ∙ simp (pair_read h, gate_in_kind g))
gate_read s m x at k g y z past (table e h) = rw e (simp (h.number, is_table g, with_table g, pair_read h.pair))

operands_read : (s : List ℕ) (m : ℕ) (x : CellNo) (at k : ℕ) (c : Cell) (past : Cursor) → Operands s m x at k c past
    → operands_at s m x at k ≡ Ok (c, past)
unfolding operands_at input_of register_of pick
operands_read s m x at k Low past (e, h) = rw (e, h) refl
operands_read s m x at k High past (e, h) = rw (e, h) refl
operands_read s m x at k (Input v) past (e, h) = rw e (simp (h.number, h.is))
operands_read s m x at k (Gate g y z) past h = gate_read s m x at k g y z past h
operands_read s m x at k (Register y) past (e, h) = rw e (simp (net_read h))

-- a cell that stands there is read
pub stands_read : {s : List ℕ} {I m : ℕ} {x : CellNo} {registers at : ℕ} {c : Cell} {past : Cursor} → CellStands s I m x registers at c past
    → read_cell s I m x registers at ≡ Ok (c, past)
unfolding read_cell after_kind of_kind
stands_read {s} {I} {m} {x} {registers} {at} {c} {past} h = simp (h.kind, h.right, operands_read s m x h.mid.at h.k c past h.operands)

-- all cells from number x on stand at `at`, up to `end`
unfoldable pub CellsStand : List ℕ → ℕ → ℕ → CellNo → ℕ → ℕ → List Cell → ℕ → Type 0
CellsStand s I m x registers at [] end = end ≡ at
CellsStand s I m x registers at (c ∷ cs) end =
    (past : Cursor) × CellStands s I m x registers at c past × CellsStand s I m (next_cell x) (tally c registers) past.at cs end

-- cells that were read stand there, as many as were asked for
pub record AllStand (left : ℕ) (s : List ℕ) (I m : ℕ) (x : CellNo) (registers at : ℕ) (cs : List Cell) (end : ℕ) : Type 0 where
  pub count : length cs ≡ left
  pub stand : CellsStand s I m x registers at cs end

abbrev AllFound : ℕ → List ℕ → ℕ → ℕ → CellNo → ℕ → ℕ → CellsOutcome → Type 0
AllFound left s I m x registers at (refused f) = Unit
AllFound left s I m x registers at (got cs end) = AllStand left s I m x registers at cs end

all_found : (left : ℕ) (s : List ℕ) (I m : ℕ) (x : CellNo) (registers at : ℕ)
    → AllFound left s I m x registers at (read_cells left s I m x registers at)
unfolding read_cells CellsStand in_front and_then
all_found zero s I m x registers at = record { count = refl; stand = refl }
all_found (suc left) s I m x registers at =
    go (read_cell s I m x registers at) refl (λ c past. all_found left s I m (next_cell x) (tally c registers) past.at)
  where
    more : (c : Cell) (past : Cursor) → CellStands s I m x registers at c past → (o : CellsOutcome)
        → AllFound left s I m (next_cell x) (tally c registers) past.at o → AllFound (suc left) s I m x registers at (in_front c o)
    more c past h (refused f) w = tt
    more c past h (got cs end) w = record { count = ap suc w.count; stand = (past, h, w.stand) }

    next : Cell → Cursor → CellsOutcome
    next c past = read_cells left s I m (next_cell x) (tally c registers) past.at

    go : (r : Result (Cell × Cursor) Fault) → read_cell s I m x registers at ≡ r
        → ((c : Cell) (past : Cursor) → AllFound left s I m (next_cell x) (tally c registers) past.at (next c past))
        → AllFound (suc left) s I m x registers at (and_then r next)
    go (Err f) e rest = tt
    go (Ok (c, past)) e rest = more c past (cell_stands s I m x registers at e) (next c past) (rest c past)

pub cells_stand : (left : ℕ) (s : List ℕ) (I m : ℕ) (x : CellNo) (registers at : ℕ) {cs : List Cell} {end : ℕ}
    → read_cells left s I m x registers at ≡ got cs end → AllStand left s I m x registers at cs end
cells_stand left s I m x registers at e = rw e at (all_found left s I m x registers at)

-- cells that stand there are read
pub stand_read : (s : List ℕ) (I m : ℕ) (x : CellNo) (registers at : ℕ) (cs : List Cell) (end : ℕ) → CellsStand s I m x registers at cs end
    → read_cells (length cs) s I m x registers at ≡ got cs end
unfolding read_cells CellsStand and_then in_front
stand_read s I m x registers at [] end h = rw h refl
stand_read s I m x registers at (c ∷ cs) end h =
    simp (stands_read h.1, stand_read s I m (next_cell x) (tally c registers) h.0.at cs end h.2)
