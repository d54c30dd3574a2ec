-- The netlist of every sheet is well formed, so that the reader accepts its file.
use Prim.Native.Nat.{ℕ, zero, suc, ◌+◌, ◌≤◌, ◌<◌}
use mathlib.Core.Path.{◌≡◌, refl, ap, ◌∙◌, subst}
use mathlib.Core.Bool.{true, false, ◌&&◌}
use mathlib.Core.List.{List, [], ◌∷◌, ◌++◌}
use native.Mathlib.Omega.{arith}
use lib.ListN.{length}
use borrow.Author.Tests.{lt-ltb, eq-eqb}
use Rattle.number.specs.declared.CellNo.{CellNo}
use Rattle.number.specs.Counts.{cell_no, of_cell}
use Rattle.number.proofs.Bools.{and_left, and_right}
use Rattle.limits.specs.Limits.{max_cells}
use Rattle.sheet.specs.Stmt.{Stmt, local_count}
use Rattle.sheet.specs.Read.{Sheet}
use Rattle.sheet.specs.Form.{Proper}
use Rattle.cells.specs.declared.Cell.{Cell}
use Rattle.cells.specs.declared.Cell.TheVariants.{Low, High, Input, Gate, Register}
use Rattle.cells.specs.Cells.{gate_kind, kind_of, next_cell}
use Rattle.cells.specs.Netlist.{kind_fits, is_net, operands_fit, cells_fit, WellFormed}
use Rattle.cells.proofs.Within.{Within, AllWithin}
use Rattle.cells.proofs.Words.{gate_kind_high}
use Rattle.cells.proofs.Fitting.{at_low, at_high, at_input, at_gate}
use Rattle.builder.specs.Netlist.{input_cells, sheet_netlist, sheet_file}
use Rattle.builder.proofs.Gates.{is_gate, gates_only, Gates}
use Rattle.builder.proofs.Format.{after_inputs, netlist_head, netlist_gates, netlist_enough, few_registers, sheet_closed}
use Rattle.files.specs.File.{file_bytes}
use Rattle.files.specs.Read.{netlist as read, read_file}
use Rattle.files.proofs.ReadBack.{file_read_back}

no_gate : {A : Type 0} → false ≡ true → A
no_gate e = cc

-- gates and registers past the inputs fit, where their operands are cells
module _ (I m : ℕ) where
  nets : (y z : CellNo) → (of_cell y < m) × (of_cell z < m) → (is_net m y && is_net m z) ≡ true
  nets y z h = rw (lt-ltb (of_cell y) m h.0, lt-ltb (of_cell z) m h.1) refl

  gate_fits : (x : CellNo) (c : Cell) → I + 1 < of_cell x → is_gate c ≡ true → Within (1 + I) m c
      → (kind_fits I x (kind_of c) && operands_fit m x c) ≡ true
  unfolding operands_fit
  gate_fits x Low past g w = no_gate g
  gate_fits x High past g w = no_gate g
  gate_fits x (Input s) past g w = no_gate g
  gate_fits x (Gate g y z) past is w = rw (at_gate I x (gate_kind g) past, lt-ltb 2 (gate_kind g) (gate_kind_high g)) (nets y z w)
  gate_fits x (Register y) past g w = rw (at_gate I x 6 past) (lt-ltb (of_cell y) m w)

  gates_fit : (x : CellNo) (cs : List Cell) → I + 1 < of_cell x → Gates cs → AllWithin (1 + I) m cs → cells_fit I m x cs ≡ true
  unfolding gates_only AllWithin cells_fit
  gates_fit x [] past g w = refl
  gates_fit x (c ∷ cs) past g w =
      rw (gate_fits x c past (and_left (is_gate c) (gates_only cs) g) w.0)
      (gates_fit (next_cell x) cs (omega arith) (and_right (is_gate c) (gates_only cs) g) w.1)

  -- "cells 2..I+1 inputs": k of them from signal s on
  inputs_fit : (s k : ℕ) (cs : List Cell) → 0 < s → s + k ≡ 1 + I → Gates cs → AllWithin (1 + I) m (input_cells s k ++ cs)
      → cells_fit I m (cell_no (suc s)) (input_cells s k ++ cs) ≡ true
  unfolding input_cells AllWithin cells_fit operands_fit
  inputs_fit s zero cs some all g w = gates_fit (cell_no (suc s)) cs (omega arith) g w
  inputs_fit s (suc k) cs some all g w =
      rw (at_input I (cell_no (suc s)) 2 (omega arith) (omega arith), eq-eqb (suc s) (suc s) refl)
      (inputs_fit (suc s) k cs (omega arith) (omega arith) g w.1)

  head_fits : (cs : List Cell) → Gates cs → AllWithin (1 + I) m (input_cells 1 I ++ cs)
      → cells_fit I m (cell_no 0) (Low ∷ (High ∷ (input_cells 1 I ++ cs))) ≡ true
  unfolding cells_fit operands_fit
  head_fits cs g w = rw (at_low I (cell_no 0) 0 refl, at_high I (cell_no 1) 1 refl) (inputs_fit 1 I cs (omega arith) refl g w)

-- the netlist of a sheet that was read and has room
pub built_well_formed : (w : Sheet) → Proper w.inputs w.outputs w.root → length (sheet_netlist w) ≤ max_cells → WellFormed (sheet_file w)
unfolding AllWithin
built_well_formed w h few =
    let I : ℕ = w.inputs in
    let t : Stmt = w.root in
    let U : ℕ = w.outputs + local_count t in
    let m : ℕ = length (sheet_netlist w) in
    let rest : List Cell = after_inputs I U t in
    let head : sheet_netlist w ≡ Low ∷ (High ∷ (input_cells 1 I ++ rest)) = netlist_head I U t in
    let within : AllWithin (1 + I) m (Low ∷ (High ∷ (input_cells 1 I ++ rest))) =
    subst (λ (cs : List Cell). AllWithin (1 + I) m cs) head (sheet_closed h) in
    record {
      signals = h.header;
      few = few;
      enough = omega (arith, netlist_enough I U t);
      bits = few_registers h;
      fit = ap (cells_fit I m (cell_no 0)) head ∙ head_fits I m rest (netlist_gates I U t) within.1.1;
    }

-- so the reader accepts its file
pub built_accepted : (w : Sheet) → Proper w.inputs w.outputs w.root → length (sheet_netlist w) ≤ max_cells
    → read_file (file_bytes (sheet_file w)) ≡ read (sheet_file w)
built_accepted w h few = file_read_back (sheet_file w) (built_well_formed w h few)
