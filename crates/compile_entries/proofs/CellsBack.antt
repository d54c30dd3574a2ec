-- The words of a well-formed netlist's cells are judged that netlist: so cells that were handed out, of a sheet or of a file, are accepted when they are handed in.
use mathlib.Core.Path.{◌≡◌, refl, ap}
use mathlib.Core.Bool.{true, ◌&&◌}
use mathlib.Core.List.{List, [], ◌∷◌, map}
use Prim.Native.Nat.{ℕ, ◌+◌, ◌%◌, ◌≤◌}
use native.Mathlib.Omega.{arith}
use lib.ListN.{length, length-map}
use borrow.Author.Tests.{le-ltb}
use Rattle.number.specs.declared.CellNo.{CellNo}
use Rattle.number.specs.Counts.{cell_no}
use Rattle.number.specs.Number.{pick}
use Rattle.limits.specs.Limits.{max_signals, max_registers}
use Rattle.cells.specs.declared.Cell.{Cell}
use Rattle.cells.specs.Cells.{kind_of, next_cell}
use Rattle.cells.specs.Words.{word, cell_in}
use Rattle.cells.specs.Values.{tally, registers}
use Rattle.cells.specs.Netlist.{Netlist, kind_fits, operands_fit, cells_fit, WellFormed}
use Rattle.cells.proofs.Within.{AllWithin}
use Rattle.cells.proofs.Words.{kind_low, word_kind, cell_in_word, words_mean}
use Rattle.cells.proofs.Counting.{tally_sum}
use Rattle.cells.proofs.Fitting.{room_tally, formed_small}
use Rattle.order.specs.Paths.{Ordered}
use Rattle.sheet.specs.Read.{Sheet}
use Rattle.builder.specs.Netlist.{sheet_netlist, sheet_file}
use Rattle.compiler.specs.Check.{Accepted, accepted as sheet_accepted}
use Rattle.interpreter.proofs.Interpreting.{accepted_proper}
use Rattle.files.specs.Judge.{judge_count, word_kinds, judge_kind}
use Rattle.files.specs.Read.{netlist}
use Rattle.number.proofs.Bools.{and_left, and_right}
use Rattle.files.proofs.Judging.{right_count, right_kind}
use Rattle.compiler.proofs.OfSheets.{built_well_formed}
use Rattle.files.proofs.Sound.{read_well_formed}
use Rattle.netlists.specs.Words.{judge_word, unless, judge_words, at_zero, judge_cells}
use Rattle.netlists.specs.Check.{accepted, ChecksFile, ChecksCells}
use Rattle.netlists.proofs.Words.{word_right}
use Rattle.compile_entries.proofs.CompileEntries.{accepted_few}
use Rattle.std.specs.Prelude.{Ok}

-- nothing is wrong with the words from cell x on, with k registers before it
words_right : (I m : ℕ) (x : CellNo) (k : ℕ) (cs : List Cell) → AllWithin 65536 65536 cs → cells_fit I m x cs ≡ true → k + registers cs ≤ max_registers
    → judge_words I m x k (map word cs) ≡ Ok tt
unfolding AllWithin cells_fit registers judge_words unless
words_right I m x k [] h fit bits = refl
words_right I m x k (c ∷ cs) h fit bits =
    let back : cell_in (word c) ≡ c = cell_in_word c h.0 in
    let here = and_left (kind_fits I x (kind_of c) && operands_fit m x c) (cells_fit I m (next_cell x) cs) fit in
    let kind = and_left (kind_fits I x (kind_of c)) (operands_fit m x c) here in
    let operands = and_right (kind_fits I x (kind_of c)) (operands_fit m x c) here in
    let after : tally c k + registers cs ≤ max_registers = omega (arith, tally_sum c k (registers cs)) in
    let right : judge_kind word_kinds I x k (word c % 8) ≡ Ok tt =
    rw (word_kind c) (right_kind (record { low = kind_low c; room = room_tally c k (omega arith); fits = kind })) in
    let this : judge_word I m x k (word c) ≡ Ok tt = word_right I m x k (word c) right (rw back operands) (ap word back) in
    rw (this, back)
    (words_right I m (next_cell x) (tally c k) cs h.1
    (and_right (kind_fits I x (kind_of c) && operands_fit m x c) (cells_fit I m (next_cell x) cs) fit) after)

module _ {w : Netlist} (h : WellFormed w) where
  cells_back : judge_cells w.inputs w.outputs (map word w.cells) ≡ netlist w
  unfolding judge_cells unless at_zero pick
  cells_back =
      let all = words_right w.inputs (length w.cells) (cell_no 0) 0 w.cells (formed_small h) h.fit (omega (arith, h.bits)) in
      let count : judge_count w.inputs w.outputs (length w.cells) ≡ Ok tt = right_count (record { few = h.few; enough = h.enough }) in
      rw (le-ltb max_signals (1 + w.inputs + w.outputs) h.signals, length-map w.cells word, count, all, words_mean w.cells (formed_small h))

  pub cells_accepted : {order : List ℕ} → Ordered w.cells order → ChecksCells w.inputs w.outputs (map word w.cells) (netlist w)
  cells_accepted {order} ordered = accepted order cells_back ordered

-- of a sheet that was compiled, and of a file that was read
pub sheet_handed_in : {s : List ℕ} {w : Sheet} → Accepted s w → ChecksCells w.inputs w.outputs (map word (sheet_netlist w)) (netlist (sheet_file w))
sheet_handed_in {w = w} (sheet_accepted order judged ordered) =
    let ok = sheet_accepted order judged ordered in
    cells_accepted (built_well_formed w (accepted_proper ok) (accepted_few ok)) ordered

pub file_handed_in : (s : List ℕ) {w : Netlist} → ChecksFile s (netlist w) → ChecksCells w.inputs w.outputs (map word w.cells) (netlist w)
file_handed_in s (accepted order is ordered) = cells_accepted (read_well_formed s is) ordered
