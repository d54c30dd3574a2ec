-- Bytes that spell a well-formed netlist read as that netlist, what is written among them; no two netlists have one file; and an accepted file spells what was
-- read, so that where no gate of an old kind occurs it is exactly what is written.
use Prim.Native.Nat.{ℕ, suc, ◌+◌, ◌-◌, ◌≤◌, ◌<◌}
use mathlib.Core.Path.{◌≡◌, refl, sym, ap, ◌∙◌}
use mathlib.Core.Bool.{Bool, true, ◌&&◌}
use mathlib.Core.List.{List, [], ◌∷◌, ◌++◌, append_assoc, append-nil}
use native.Mathlib.Omega.{arith}
use lib.ListN.{length, take, drop, length-append, length-drop, take-append-drop, drop_of_length-le}
use lib.Seq.{length-take-le, drop-drop, drop-append_seam}
use borrow.Author.Tests.{le-ltb}
use Rattle.number.specs.declared.CellNo.{CellNo}
use Rattle.number.specs.declared.Cursor.{Cursor}
use Rattle.number.specs.Counts.{cell_no, of_cell, of_signal}
use Rattle.number.specs.Number.{cursor, number_at, number_bytes, number_length, Bytes}
use Rattle.number.proofs.Laws.{length_at_least, read_bytes, Spelled, only_spelling}
use Rattle.number.proofs.Bools.{and_left, and_right}
use Rattle.limits.specs.Limits.{max_signals, max_cells, max_registers}
use Rattle.cells.specs.declared.Gate as gate
use Rattle.cells.specs.declared.Gate.TheVariants.{Or, And, Butnot}
use Rattle.cells.specs.declared.Cell.{Cell}
use Rattle.cells.specs.declared.Cell.TheVariants.{Low, High, Input, Gate, Register}
use Rattle.cells.specs.Cells.{gate_kind, kind_of, next_cell}
use Rattle.cells.specs.Values.{tally, registers}
use Rattle.cells.specs.Netlist.{Netlist, kind_fits, is_net, operands_fit, cells_fit, WellFormed}
use Rattle.cells.proofs.Within.{Within, within_wider}
use Rattle.cells.proofs.Words.{gate_kind_low}
use Rattle.cells.proofs.Counting.{tally_sum}
use Rattle.cells.proofs.Fitting.{room_tally, fit_within}
use Rattle.files.specs.File.{truth_table, written_kind, pair_bytes, operand_bytes, cell_bytes, cells_bytes, old_bytes, Spells, none, new, old}
use Rattle.files.specs.File.{head_bytes, file_bytes, FileSpelled}
use Rattle.files.specs.Judge.{file_kinds}
use Rattle.files.specs.Read.{netlist, read_file}
use Rattle.files.proofs.Truths.{table_small}
use Rattle.files.proofs.Judging.{KindRight, right_count, right_kind}
use Rattle.files.proofs.Standing.{PairStands, own, table, Operands, CellStands, CellsStand}
use Rattle.files.proofs.Sound.{FileStands, file_stands, stands_file}
use Rattle.std.specs.Prelude.{Ok}

-- Bytes that stand in s are read.

-- v stands at `at`, and behind it the rest
record NumberIn (s : List ℕ) (at v : ℕ) (rest : List ℕ) : Type 0 where
  past : Cursor
  number : number_at s at ≡ Ok (v, past)
  behind : drop past.at s ≡ rest

drop_past : (s : List ℕ) (at : ℕ) (a b : List ℕ) → drop at s ≡ a ++ b → drop (at + length a) s ≡ b
drop_past s at a b e = sym (drop-drop (length a) at s) ∙ ap (drop (length a)) e ∙ drop-append_seam a b

number_in : (s : List ℕ) (at v : ℕ) (rest : List ℕ) → v < 16384 → drop at s ≡ number_bytes v ++ rest → NumberIn s at v rest
number_in s at v rest small e =
    let more : length s - at ≡ number_length v + length rest = sym (length-drop at s) ∙ ap length e ∙ length-append (number_bytes v) rest in
    let front : length (take at s) ≡ at = length-take-le at s (omega (arith, length_at_least v)) in
    let whole : s ≡ take at s ++ (number_bytes v ++ rest) = sym (take-append-drop at s) ∙ ap (λ (l : List ℕ). take at s ++ l) e in
    let read : number_at (take at s ++ (number_bytes v ++ rest)) at ≡ Ok (v, cursor (at + number_length v)) =
    rw front at (read_bytes (take at s) rest v small) in
    record {
      past = cursor (at + number_length v);
      number = ap (λ (l : List ℕ). number_at l at) whole ∙ read;
      behind = drop_past s at (number_bytes v) rest e;
    }

record OperandsIn (s : List ℕ) (m : ℕ) (x : CellNo) (at k : ℕ) (c : Cell) (rest : List ℕ) : Type 0 where
  past : Cursor
  operands : Operands s m x at k c past
  behind : drop past.at s ≡ rest

record PairIn (s : List ℕ) (m at : ℕ) (y z : CellNo) (rest : List ℕ) : Type 0 where
  past : Cursor
  pair : PairStands s m at y z past
  behind : drop past.at s ≡ rest

module _ (s : List ℕ) (m : ℕ) (few : m ≤ max_cells) where
  pair_in : (at : ℕ) (y z : CellNo) (rest : List ℕ) → (is_net m y && is_net m z) ≡ true → (of_cell y < m) × (of_cell z < m)
      → drop at s ≡ pair_bytes y z ++ rest → PairIn s m at y z rest
  pair_in at y z rest nets small e =
      let apart = append_assoc (number_bytes (of_cell y)) (number_bytes (of_cell z)) rest in
      let first = number_in s at (of_cell y) (number_bytes (of_cell z) ++ rest) (omega (arith, small.0)) (e ∙ apart) in
      let second = number_in s first.past.at (of_cell z) rest (omega (arith, small.1)) first.behind in
      record {
        past = second.past;
        pair =
            record {
              mid = first.past;
              first = record { number = first.number; is = and_left (is_net m y) (is_net m z) nets };
              second = record { number = second.number; is = and_right (is_net m y) (is_net m z) nets };
            };
        behind = second.behind;
      }

  operands_in : (x : CellNo) (at : ℕ) (c : Cell) (rest : List ℕ) → Within max_signals m c → operands_fit m x c ≡ true
      → drop at s ≡ operand_bytes c ++ rest → OperandsIn s m x at (written_kind c) c rest
  unfolding operands_fit
  operands_in x at Low rest w o e = record { past = cursor at; operands = (refl, refl); behind = e }
  operands_in x at High rest w o e = record { past = cursor at; operands = (refl, refl); behind = e }
  operands_in x at (Input v) rest w o e =
      let n = number_in s at (of_signal v) rest (omega (arith, w)) e in
      record { past = n.past; operands = (refl, record { number = n.number; is = o }); behind = n.behind }
  operands_in x at (Gate g y z) rest w o e =
      let apart = append_assoc (number_bytes (truth_table g)) (pair_bytes y z) rest in
      let t = number_in s at (truth_table g) (pair_bytes y z ++ rest) (omega (arith, table_small g)) (e ∙ apart) in
      let p = pair_in t.past.at y z rest o w t.behind in
      record { past = p.past; operands = table refl (record { mid = t.past; number = t.number; pair = p.pair }); behind = p.behind }
  operands_in x at (Register y) rest w o e =
      let n = number_in s at (of_cell y) rest (omega (arith, w)) e in
      record { past = n.past; operands = (refl, record { number = n.number; is = o }); behind = n.behind }

record CellIn (s : List ℕ) (I m : ℕ) (x : CellNo) (k at : ℕ) (c : Cell) (rest : List ℕ) : Type 0 where
  past : Cursor
  stands : CellStands s I m x k at c past
  behind : drop past.at s ≡ rest

record CellsIn (s : List ℕ) (I m : ℕ) (x : CellNo) (k at : ℕ) (cs : List Cell) (rest : List ℕ) : Type 0 where
  end : ℕ
  stand : CellsStand s I m x k at cs end
  behind : drop end s ≡ rest

-- the kind that is written for a cell is right where the cell's own is
written_right : (I : ℕ) (x : CellNo) (k : ℕ) (c : Cell) → kind_fits I x (kind_of c) ≡ true → tally c k ≤ max_registers
    → KindRight file_kinds I x k (written_kind c)
unfolding kind_fits
written_right I x k Low fits room = record { low = omega arith; room = refl; fits = fits }
written_right I x k High fits room = record { low = omega arith; room = refl; fits = fits }
written_right I x k (Input s) fits room = record { low = omega arith; room = refl; fits = fits }
written_right I x k (Gate Or y z) fits room = record { low = omega arith; room = refl; fits = fits }
written_right I x k (Gate And y z) fits room = record { low = omega arith; room = refl; fits = fits }
written_right I x k (Gate Butnot y z) fits room = record { low = omega arith; room = refl; fits = fits }
written_right I x k (Register y) fits room = record { low = omega arith; room = room_tally (Register y) k room; fits = fits }

-- the first of cells that fit, and the others
record HeadFits (I m : ℕ) (x : CellNo) (k : ℕ) (c : Cell) (cs : List Cell) : Type 0 where
  kind : kind_fits I x (kind_of c) ≡ true
  operands : operands_fit m x c ≡ true
  others : cells_fit I m (next_cell x) cs ≡ true
  sum : tally c k + registers cs ≤ max_registers
  room : tally c k ≤ max_registers

head_fits : {I m : ℕ} {x : CellNo} {k : ℕ} (c : Cell) (cs : List Cell) → cells_fit I m x (c ∷ cs) ≡ true → k + registers (c ∷ cs) ≤ max_registers
    → HeadFits I m x k c cs
unfolding cells_fit registers
head_fits {I} {m} {x} {k} c cs fit room =
    let kind : Bool = kind_fits I x (kind_of c) in
    let operands : Bool = operands_fit m x c in
    let this : (kind && operands) ≡ true = and_left (kind && operands) (cells_fit I m (next_cell x) cs) fit in
    let sum : tally c k + registers cs ≡ k + tally c (registers cs) = tally_sum c k (registers cs) in
    record {
      kind = and_left kind operands this;
      operands = and_right kind operands this;
      others = and_right (kind && operands) (cells_fit I m (next_cell x) cs) fit;
      sum = omega arith;
      room = omega arith;
    }

module _ (s : List ℕ) (I m : ℕ) (inputs : I < max_signals) (few : m ≤ max_cells) where
  module _ (x : CellNo) (k at : ℕ) (c : Cell) (rest : List ℕ) (kind : kind_fits I x (kind_of c) ≡ true) (operands : operands_fit m x c ≡ true)
      (room : tally c k ≤ max_registers) where
    within : Within max_signals m c
    within = within_wider (1 + I) m max_signals m c (omega arith) (omega arith) (fit_within I m x c kind operands)

    -- the kind j stands there, and behind it the operands
    with_kind : (j : ℕ) (bytes : List ℕ) → KindRight file_kinds I x k j → drop at s ≡ (number_bytes j ++ bytes) ++ rest
        → ((at' : ℕ) → drop at' s ≡ bytes ++ rest → OperandsIn s m x at' j c rest) → CellIn s I m x k at c rest
    with_kind j bytes right e then =
        let small : j ≤ file_kinds = right.low in
        let first = number_in s at j (bytes ++ rest) (omega arith) (e ∙ append_assoc (number_bytes j) bytes rest) in
        let behind = then first.past.at first.behind in
        record {
          past = behind.past;
          stands =
              record { mid = first.past; k = j; kind = first.number; right = right_kind right; operands = behind.operands };
          behind = behind.behind;
        }

    cell_in : drop at s ≡ cell_bytes c ++ rest → CellIn s I m x k at c rest
    cell_in e =
        with_kind (written_kind c) (operand_bytes c) (written_right I x k c kind room) e (λ at' h. operands_in s m few x at' c rest within operands h)

  old_in : (x : CellNo) (k at : ℕ) (g : gate.Gate) (y z : CellNo) (rest : List ℕ) → kind_fits I x (gate_kind g) ≡ true
      → operands_fit m x (Gate g y z) ≡ true → k ≤ max_registers → drop at s ≡ old_bytes g y z ++ rest → CellIn s I m x k at (Gate g y z) rest
  unfolding operands_fit
  old_in x k at g y z rest kind operands room e =
      let c : Cell = Gate g y z in
      let right : KindRight file_kinds I x k (gate_kind g) = record { low = omega (arith, gate_kind_low g); room = room_tally c k room; fits = kind } in
      with_kind x k at c rest kind operands room (gate_kind g) (pair_bytes y z) right e (λ at' h.
      let p = pair_in s m few at' y z rest operands (within x k at c rest kind operands room) h in
      record { past = p.past; operands = own refl p.pair; behind = p.behind })

  -- one cell, and those behind it
  and_others : (x : CellNo) (k at : ℕ) (c : Cell) (cs : List Cell) (bytes rest : List ℕ) → CellIn s I m x k at c (bytes ++ rest)
      → ((at' : ℕ) → drop at' s ≡ bytes ++ rest → CellsIn s I m (next_cell x) (tally c k) at' cs rest) → CellsIn s I m x k at (c ∷ cs) rest
  unfolding CellsStand
  and_others x k at c cs bytes rest first others =
      let then = others first.past.at first.behind in
      record { end = then.end; stand = (first.past, first.stands, then.stand); behind = then.behind }

  cells_in : (x : CellNo) (k at : ℕ) (cs : List Cell) (bytes : List ℕ) (n : ℕ) (rest : List ℕ) → Spells cs bytes n → cells_fit I m x cs ≡ true
      → k + registers cs ≤ max_registers → drop at s ≡ bytes ++ rest → CellsIn s I m x k at cs rest
  unfolding CellsStand
  cells_in x k at cs bytes n rest none fit room e = record { end = at; stand = refl; behind = e }
  cells_in x k at cs bytes n rest (new c {cs = cs'} {bytes = bytes'} {n = n'} spelled) fit room e =
      let h = head_fits c cs' fit room in
      and_others x k at c cs' bytes' rest
      (cell_in x k at c (bytes' ++ rest) h.kind h.operands h.room (e ∙ append_assoc (cell_bytes c) bytes' rest))
      (λ at' q. cells_in (next_cell x) (tally c k) at' cs' bytes' n' rest spelled h.others h.sum q)
  cells_in x k at cs bytes n rest (old g y z {cs = cs'} {bytes = bytes'} {n = n'} spelled) fit room e =
      let c : Cell = Gate g y z in
      let h = head_fits c cs' fit room in
      and_others x k at c cs' bytes' rest
      (old_in x k at g y z (bytes' ++ rest) h.kind h.operands h.room (e ∙ append_assoc (old_bytes g y z) bytes' rest))
      (λ at' q. cells_in (next_cell x) (tally c k) at' cs' bytes' n' rest spelled h.others h.sum q)

file_in : (w : Netlist) (body : List ℕ) (n : ℕ) → Spells w.cells body n → WellFormed w → FileStands (head_bytes w body) w
file_in w body n spelled h =
    let s : List ℕ = head_bytes w body in
    let I : ℕ = w.inputs in
    let O : ℕ = w.outputs in
    let m : ℕ = length w.cells in
    let inputs = number_in s 0 I (number_bytes O ++ (number_bytes m ++ body)) (omega (arith, h.signals)) refl in
    let outputs = number_in s inputs.past.at O (number_bytes m ++ body) (omega (arith, h.signals)) inputs.behind in
    let count = number_in s outputs.past.at m body (omega (arith, h.few)) outputs.behind in
    let all =
    cells_in s I m (omega (arith, h.signals)) h.few (cell_no 0) 0 count.past.at w.cells body n [] spelled h.fit (omega (arith, h.bits))
    (count.behind ∙ sym (append-nil body)) in
    let none_left : length s - all.end ≡ 0 = sym (length-drop all.end s) ∙ ap length all.behind in
    record {
      second = inputs.past;
      third = outputs.past;
      body = count.past;
      end = all.end;
      inputs = inputs.number;
      outputs = outputs.number;
      signals = le-ltb max_signals (1 + I + O) h.signals;
      count = count.number;
      enough = right_count (record { few = h.few; enough = h.enough });
      cells = all.stand;
      last = omega arith;
    }

-- bytes that spell a netlist read as it, "the old kinds as the same cells"
pub spelled_read : {s : List ℕ} {w : Netlist} {n : ℕ} → FileSpelled s w n → WellFormed w → read_file s ≡ netlist w
spelled_read {s} {w} {n} f h = ap read_file f.whole ∙ stands_file (file_in w f.body n f.cells h)

-- what is written spells the netlist, with no gate of an old kind
cells_new : (cs : List Cell) → Spells cs (cells_bytes cs) 0
unfolding cells_bytes
cells_new [] = none
cells_new (c ∷ cs) = new c (cells_new cs)

pub file_new : (w : Netlist) → FileSpelled (file_bytes w) w 0
unfolding file_bytes
file_new w = record { body = cells_bytes w.cells; cells = cells_new w.cells; whole = refl }

-- what was written reads back as the same I, O and cells
pub file_read_back : (w : Netlist) → WellFormed w → read_file (file_bytes w) ≡ netlist w
file_read_back w h = spelled_read (file_new w) h

-- two netlists with one file are one netlist
pub one_file : (v w : Netlist) → WellFormed v → WellFormed w → file_bytes v ≡ file_bytes w → v ≡ w
one_file v w hv hw e = let same : netlist v ≡ netlist w = sym (file_read_back v hv) ∙ ap read_file e ∙ file_read_back w hw in cc

-- What was read stands in the bytes, in its only spelling.

-- from `at` to `end` these bytes stand
record Between (s : List ℕ) (at end : ℕ) (bytes : List ℕ) : Type 0 where
  is : drop at s ≡ bytes ++ drop end s

nothing_between : (s : List ℕ) (at end : ℕ) → end ≡ at → Between s at end []
nothing_between s at end e = record { is = rw e }

and_then : {s : List ℕ} {at mid end : ℕ} {a b : List ℕ} → Between s at mid a → Between s mid end b → Between s at end (a ++ b)
and_then {s} {at} {mid} {end} {a} {b} p q =
    record { is = p.is ∙ ap (λ (l : List ℕ). a ++ l) q.is ∙ sym (append_assoc a b (drop end s)) }

module _ (s : List ℕ) (are : Bytes s) where
  number_between : {at v : ℕ} {past : Cursor} → number_at s at ≡ Ok (v, past) → Between s at past.at (number_bytes v)
  number_between {at} {v} {past} e =
      let spelled : Spelled s at v past = only_spelling s at are e in
      record { is = rw spelled.past spelled.bytes }

  pair_between : {m at : ℕ} {y z : CellNo} {past : Cursor} → PairStands s m at y z past → Between s at past.at (pair_bytes y z)
  pair_between h = and_then (number_between h.first.number) (number_between h.second.number)

  -- so many gates of an old kind are among the cells that stand from `at` to `end`
  record AllSpelled (at end : ℕ) (cs : List Cell) : Type 0 where
    olds : ℕ
    bytes : List ℕ
    spelled : Spells cs bytes olds
    between : Between s at end bytes

  cell_spelled : (m : ℕ) (x : CellNo) (at k : ℕ) (mid : Cursor) (c : Cell) (past : Cursor) (cs : List Cell) (end : ℕ)
      → number_at s at ≡ Ok (k, mid) → Operands s m x mid.at k c past → AllSpelled past.at end cs → AllSpelled at end (c ∷ cs)
  cell_spelled m x at k mid Low past cs end e (is, h) rest =
      let kind = rw is at e in
      record {
        olds = rest.olds;
        bytes = cell_bytes Low ++ rest.bytes;
        spelled = new Low rest.spelled;
        between = and_then (and_then (number_between kind) (nothing_between s mid.at past.at (rw h refl))) rest.between;
      }
  cell_spelled m x at k mid High past cs end e (is, h) rest =
      let kind = rw is at e in
      record {
        olds = rest.olds;
        bytes = cell_bytes High ++ rest.bytes;
        spelled = new High rest.spelled;
        between = and_then (and_then (number_between kind) (nothing_between s mid.at past.at (rw h refl))) rest.between;
      }
  cell_spelled m x at k mid (Input v) past cs end e (is, h) rest =
      let kind = rw is at e in
      record {
        olds = rest.olds;
        bytes = cell_bytes (Input v) ++ rest.bytes;
        spelled = new (Input v) rest.spelled;
        between = and_then (and_then (number_between kind) (number_between h.number)) rest.between;
      }
  cell_spelled m x at k mid (Gate g y z) past cs end e (own is h) rest =
      let kind = rw is at e in
      record {
        olds = suc rest.olds;
        bytes = old_bytes g y z ++ rest.bytes;
        spelled = old g y z rest.spelled;
        between = and_then (and_then (number_between kind) (pair_between h)) rest.between;
      }
  cell_spelled m x at k mid (Gate g y z) past cs end e (table is h) rest =
      let kind = rw is at e in
      record {
        olds = rest.olds;
        bytes = cell_bytes (Gate g y z) ++ rest.bytes;
        spelled = new (Gate g y z) rest.spelled;
        between = and_then (and_then (number_between kind) (and_then (number_between h.number) (pair_between h.pair))) rest.between;
      }
  cell_spelled m x at k mid (Register y) past cs end e (is, h) rest =
      let kind = rw is at e in
      record {
        olds = rest.olds;
        bytes = cell_bytes (Register y) ++ rest.bytes;
        spelled = new (Register y) rest.spelled;
        between = and_then (and_then (number_between kind) (number_between h.number)) rest.between;
      }

  cells_spelled : (I m : ℕ) (x : CellNo) (k at : ℕ) (cs : List Cell) (end : ℕ) → CellsStand s I m x k at cs end → AllSpelled at end cs
  unfolding CellsStand
  cells_spelled I m x k at [] end h = record { olds = 0; bytes = []; spelled = none; between = nothing_between s at end h }
  cells_spelled I m x k at (c ∷ cs) end h =
      let this = h.1 in
      cell_spelled m x at this.k this.mid c h.0 cs end this.kind this.operands
      (cells_spelled I m (next_cell x) (tally c k) h.0.at cs end h.2)

  -- an accepted file spells what was read
  pub file_spelled : {w : Netlist} → read_file s ≡ netlist w → (n : ℕ) × FileSpelled s w n
  file_spelled {w} e =
      let h : FileStands s w = file_stands s e in
      let cells = cells_spelled w.inputs (length w.cells) (cell_no 0) 0 h.body.at w.cells h.end h.cells in
      let all =
      and_then (number_between h.inputs) (and_then (number_between h.outputs) (and_then (number_between h.count) cells.between)) in
      let whole = all.is ∙ ap (λ (l : List ℕ). head_bytes w cells.bytes ++ l) (drop_of_length-le s h.last) ∙ append-nil (head_bytes w cells.bytes) in
      (cells.olds, record { body = cells.bytes; cells = cells.spelled; whole = whole })

-- "files in which no old gate kind occurs are exactly what the writer writes"
new_bytes : {cs : List Cell} {bytes : List ℕ} {n : ℕ} → Spells cs bytes n → n ≡ 0 → bytes ≡ cells_bytes cs
unfolding cells_bytes
new_bytes none e = refl
new_bytes (new c spelled) e = ap (λ (l : List ℕ). cell_bytes c ++ l) (new_bytes spelled e)
new_bytes (old g x y spelled) e = absurd (omega arith)

pub only_written : {s : List ℕ} {w : Netlist} → FileSpelled s w 0 → s ≡ file_bytes w
unfolding file_bytes
only_written {s} {w} f = f.whole ∙ ap (head_bytes w) (new_bytes f.cells refl)
