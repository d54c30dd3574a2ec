-- What was read or judged is well formed, and what that gives a run.
use Prim.Native.Nat.{ℕ, ◌+◌, ◌≤◌}
use mathlib.Core.Path.{◌≡◌, refl}
use mathlib.Core.Bool.{Bool, true, false, ◌&&◌}
use mathlib.Core.List.{List, [], ◌∷◌}
use native.Mathlib.Omega.{arith}
use lib.Dec.{eqb, ltb, leb}
use lib.ListN.{length}
use borrow.Author.Tests.{ne_eqb, ltb-false, le-ltb}
use Rattle.number.specs.declared.CellNo.{CellNo}
use Rattle.number.specs.declared.Cursor.{Cursor}
use Rattle.number.specs.Counts.{cell_no}
use Rattle.number.specs.Number.{pick, number_at}
use Rattle.limits.specs.Limits.{max_signals, max_registers, many_signals}
use Rattle.cells.specs.declared.Gate as gate
use Rattle.cells.specs.declared.Gate.TheVariants.{Or, And, Butnot}
use Rattle.cells.specs.declared.Cell.{Cell}
use Rattle.cells.specs.declared.Cell.TheVariants.{Low, High, Input, Gate, Register}
use Rattle.cells.specs.Cells.{gate_kind, kind_of, next_cell}
use Rattle.cells.specs.Values.{tally}
use Rattle.cells.specs.Netlist.{Netlist, kind_fits, is_net, operands_fit, WellFormed}
use Rattle.cells.proofs.Words.{gate_kind_low}
use Rattle.cells.proofs.Fitting.{tally_room, Fit, fit_none, fit_more}
use Rattle.files.specs.Judge.{judge_count, file_kinds}
use Rattle.files.specs.Read.{CellsOutcome, got, refused, read_cells, FileOutcome, netlist, faulty, ended, body_at, counted, after_count, count_at}
use Rattle.files.specs.Read.{after_outputs, after_inputs, read_file}
use Rattle.files.proofs.Judging.{count_right, kind_right}
use Rattle.files.proofs.Standing.{by_test, PairStands, own, table, Operands, CellsStand, AllStand, cells_stand, stand_read}
use Rattle.number.specs.declared.Fault.{Fault}
use Rattle.number.specs.declared.Refusal.{Refusal}
use Rattle.std.specs.Prelude.{Result, Ok, Err}

-- Cells that stand in a file fit.

pair_fits : {s : List ℕ} {m at : ℕ} {y z : CellNo} {past : Cursor} → PairStands s m at y z past → (is_net m y && is_net m z) ≡ true
pair_fits h = rw (h.first.is, h.second.is) refl

operands_fit_lem : (s : List ℕ) (m : ℕ) (x : CellNo) (at k : ℕ) (c : Cell) (past : Cursor) → Operands s m x at k c past
    → operands_fit m x c ≡ true
unfolding operands_fit
operands_fit_lem s m x at k Low past h = refl
operands_fit_lem s m x at k High past h = refl
operands_fit_lem s m x at k (Input v) past h = h.1.is
operands_fit_lem s m x at k (Gate g y z) past (own e h) = pair_fits h
operands_fit_lem s m x at k (Gate g y z) past (table e h) = pair_fits h.pair
operands_fit_lem s m x at k (Register y) past h = h.1.is

-- where kind 7 may stand the gate's own kind may, and no gate is a register
gate_fits : (I : ℕ) (x : CellNo) (g : gate.Gate) → kind_fits I x 7 ≡ true → kind_fits I x (gate_kind g) ≡ true
unfolding kind_fits
gate_fits I x Or h = h
gate_fits I x And h = h
gate_fits I x Butnot h = h

kind_fits_lem : (s : List ℕ) (I m : ℕ) (x : CellNo) (at k : ℕ) (c : Cell) (past : Cursor) → Operands s m x at k c past
    → kind_fits I x k ≡ true → kind_fits I x (kind_of c) ≡ true
kind_fits_lem s I m x at k Low past h fits = rw h.0 at fits
kind_fits_lem s I m x at k High past h fits = rw h.0 at fits
kind_fits_lem s I m x at k (Input v) past h fits = rw h.0 at fits
kind_fits_lem s I m x at k (Gate g y z) past (own e h) fits = rw e at fits
kind_fits_lem s I m x at k (Gate g y z) past (table e h) fits = gate_fits I x g (rw e at fits)
kind_fits_lem s I m x at k (Register y) past h fits = rw h.0 at fits

room_kept : (s : List ℕ) (m : ℕ) (x : CellNo) (at k : ℕ) (c : Cell) (past : Cursor) (b : Bool) → Operands s m x at k c past
    → (eqb k 6 && b) ≡ false → (eqb (kind_of c) 6 && b) ≡ false
room_kept s m x at k Low past b h room = refl
room_kept s m x at k High past b h room = refl
room_kept s m x at k (Input v) past b h room = refl
room_kept s m x at k (Gate g y z) past b h room = rw (ne_eqb (gate_kind g) 6 (λ e. omega (arith, gate_kind_low g)))
room_kept s m x at k (Register y) past b h room = rw h.0 at room

stand_fit : (s : List ℕ) (I m : ℕ) (x : CellNo) (k at : ℕ) (cs : List Cell) (end : ℕ) → k ≤ max_registers
    → CellsStand s I m x k at cs end → Fit I m x k cs
unfolding CellsStand
stand_fit s I m x k at [] end few h = fit_none I m x k few
stand_fit s I m x k at (c ∷ cs) end few h =
    let this = h.1 in
    let kind = kind_right file_kinds I x k this.k this.right in
    let at' : ℕ = this.mid.at in
    let fits = kind_fits_lem s I m x at' this.k c h.0 this.operands kind.fits in
    let room = room_kept s m x at' this.k c h.0 (leb max_registers k) this.operands kind.room in
    fit_more c cs fits (operands_fit_lem s m x at' this.k c h.0 this.operands)
    (stand_fit s I m (next_cell x) (tally c k) h.0.at cs end (tally_room c k few room) h.2)

-- A file that was read: its header, and its cells.
pub record FileStands (s : List ℕ) (w : Netlist) : Type 0 where
  pub second : Cursor
  pub third : Cursor
  pub body : Cursor
  pub end : ℕ
  pub inputs : number_at s 0 ≡ Ok (w.inputs, second)
  pub outputs : number_at s second.at ≡ Ok (w.outputs, third)
  pub signals : many_signals w.inputs w.outputs ≡ false
  pub count : number_at s third.at ≡ Ok (length w.cells, body)
  pub enough : judge_count w.inputs w.outputs (length w.cells) ≡ Ok tt
  pub cells : CellsStand s w.inputs (length w.cells) (cell_no 0) 0 body.at w.cells end
  pub last : length s ≤ end

module _ (s : List ℕ) where
  abbrev FileFound : FileOutcome → Type 0
  FileFound (faulty f) = Unit
  FileFound (netlist w) = FileStands s w

  module _ (I O m : ℕ) (second third body : Cursor) (i : number_at s 0 ≡ Ok (I, second)) (o : number_at s second.at ≡ Ok (O, third))
      (few : many_signals I O ≡ false) where
    body_found : number_at s third.at ≡ Ok (m, body) → judge_count I O m ≡ Ok tt → FileFound (body_at s I O m body.at)
    unfolding body_at ended
    body_found e right = go (read_cells m s I m (cell_no 0) 0 body.at) refl
      where
        go : (r : CellsOutcome) → read_cells m s I m (cell_no 0) 0 body.at ≡ r → FileFound (ended s I O r)
        go (refused f) q = tt
        go (got cs end) q =
            let all : AllStand m s I m (cell_no 0) 0 body.at cs end = cells_stand m s I m (cell_no 0) 0 body.at q in
            by_test FileFound (ltb end (length s)) _ (netlist (record { inputs = I; outputs = O; cells = cs })) (λ t. tt) (λ t.
            record {
              second = second;
              third = third;
              body = body;
              end = end;
              inputs = i;
              outputs = o;
              signals = few;
              count = rw all.count e;
              enough = rw all.count right;
              cells = rw all.count all.stand;
              last = ltb-false end (length s) t;
            })

    counted_found : number_at s third.at ≡ Ok (m, body) → (j : Result (Unit {0}) Refusal) → judge_count I O m ≡ j
        → FileFound (counted s I O m third.at body.at j)
    unfolding counted
    counted_found e (Err r) q = tt
    counted_found e (Ok tt) q = body_found e q

  file_found : FileFound (read_file s)
  unfolding read_file after_count after_outputs count_at after_inputs
  file_found = from_inputs (number_at s 0) refl
    where
      from_count : (I O : ℕ) (second third : Cursor) → number_at s 0 ≡ Ok (I, second) → number_at s second.at ≡ Ok (O, third)
          → many_signals I O ≡ false → (r : Result (ℕ × Cursor) Fault) → number_at s third.at ≡ r → FileFound (after_count s I O third.at r)
      from_count I O second third i o few (Err f) e = tt
      from_count I O second third i o few (Ok (m, body)) e = counted_found I O m second third body i o few e (judge_count I O m) refl

      from_outputs : (I : ℕ) (second : Cursor) → number_at s 0 ≡ Ok (I, second) → (r : Result (ℕ × Cursor) Fault) → number_at s second.at ≡ r
          → FileFound (after_outputs s I second.at r)
      from_outputs I second i (Err f) e = tt
      from_outputs I second i (Ok (O, third)) e =
          by_test FileFound (many_signals I O) _ (count_at s I O third.at) (λ t. tt)
          (λ t. from_count I O second third i e t (number_at s third.at) refl)

      from_inputs : (r : Result (ℕ × Cursor) Fault) → number_at s 0 ≡ r → FileFound (after_inputs s r)
      from_inputs (Err f) e = tt
      from_inputs (Ok (I, second)) e = from_outputs I second e (number_at s second.at) refl

  -- a file that was read stands in its bytes
  pub file_stands : {w : Netlist} → read_file s ≡ netlist w → FileStands s w
  file_stands e = rw e at file_found

-- and is read where it stands
pub stands_file : {s : List ℕ} {w : Netlist} → FileStands s w → read_file s ≡ netlist w
unfolding read_file after_inputs after_outputs count_at after_count counted body_at ended pick
stands_file {s} {w} h =
    let cells = stand_read s w.inputs (length w.cells) (cell_no 0) 0 h.body.at w.cells h.end h.cells in
    simp (h.inputs, h.outputs, h.signals, h.count, h.enough, cells, le-ltb h.end (length s) h.last)

-- what was read is well formed
pub read_well_formed : (s : List ℕ) {w : Netlist} → read_file s ≡ netlist w → WellFormed w
read_well_formed s {w} e =
    let h = file_stands s e in
    let count = count_right w.inputs w.outputs (length w.cells) h.enough in
    let fit : Fit w.inputs (length w.cells) (cell_no 0) 0 w.cells =
    stand_fit s w.inputs (length w.cells) (cell_no 0) 0 h.body.at w.cells h.end (omega arith) h.cells in
    record {
      signals = ltb-false max_signals (1 + w.inputs + w.outputs) h.signals;
      few = count.few;
      enough = count.enough;
      bits = omega (arith, fit.bits);
      fit = fit.fit;
    }
