-- What a netlist that was accepted is, in either form: well formed, its cells in order; and which files are accepted.
use Prim.Native.Nat.{ℕ, ◌≤◌}
use mathlib.Core.Path.{◌≡◌, sym, ap, subst}
use mathlib.Core.List.{List}
use lib.ListN.{length, take}
use Rattle.number.specs.Number.{Bytes}
use Rattle.limits.specs.Limits.{max_cells}
use Rattle.cells.specs.Words.{cells_of}
use Rattle.cells.specs.Netlist.{Netlist, netlist_of, WellFormed}
use Rattle.order.specs.Paths.{Ordered}
use Rattle.files.specs.declared.Header.{Header}
use Rattle.files.specs.File.{file_bytes, FileSpelled}
use Rattle.files.specs.Read.{FileOutcome, netlist, read_file}
use Rattle.files.specs.Answer.{header_of, FileLaid}
use Rattle.files.proofs.Sound.{read_well_formed}
use Rattle.files.proofs.ReadBack.{spelled_read, file_new, file_spelled}
use Rattle.netlists.specs.Words.{judge_cells}
use Rattle.netlists.specs.Check.{NetChecks, accepted, ChecksFile}
use Rattle.netlists.specs.Checked.{IsOrdered, DidCheck, DidCheckFile}
use Rattle.netlists.proofs.Words.{CellsRight, cells_right}
use Rattle.netlists.proofs.Checking.{laid_cells, Answered, answered_netlist}
use Rattle.std.specs.Prelude.{Ok}

-- what is accepted was read or judged so
accepted_found : {found : FileOutcome} {w : Netlist} → NetChecks found (netlist w) → found ≡ netlist w
accepted_found (accepted order e ordered) = e

pub record Accepts (found : FileOutcome) (h : Header) (order : List ℕ) : Type 0 where
  pub found_as : Answered found h
  pub ordered : Ordered found_as.net.cells order

pub accepts : {found : FileOutcome} {h : Header} {order : List ℕ} → DidCheck found (Ok h) order → Accepts found h order
unfolding IsOrdered
accepts {found} {h} {order} d =
    let a : Answered d.outcome h = answered_netlist d.outcome (sym d.answer) in
    record {
      found_as = record { net = a.net; is = accepted_found (rw a.is at d.checks); header = a.header };
      ordered = rw a.is at d.ordered;
    }

pub same_net : {v w : Netlist} → v.inputs ≡ w.inputs → v.outputs ≡ w.outputs → v.cells ≡ w.cells → v ≡ w
same_net i o cs = λ k. record { inputs = i k; outputs = o k; cells = cs k }

-- of a file that was checked: the first places of the column are its cells
module _ (s : List ℕ) {h : Header} {column column' order : List ℕ} (d : DidCheckFile (read_file s) (Ok h) column column' order)
    (long : max_cells ≤ length column) where
  pub file : Accepts (read_file s) h order
  file = accepts d.check

  abbrev net : Netlist
  net = file.found_as.net

  pub sound : WellFormed net
  sound = read_well_formed s file.found_as.is

  pub count : h.cells ≡ length net.cells
  count = ap (λ (k : Header). k.cells) file.found_as.header

  pub file_cells : cells_of (take h.cells column') ≡ net.cells
  unfolding FileLaid
  file_cells = laid_cells sound column count (rw file.found_as.is at d.laid) long

  -- they mean the netlist that was read, so what they mean is well formed and in order
  pub file_is : netlist_of h.inputs h.outputs (take h.cells column') ≡ net
  file_is =
      let header : h ≡ header_of net = file.found_as.header in
      same_net (ap (λ (k : Header). k.inputs) header) (ap (λ (k : Header). k.outputs) header) file_cells

  pub file_formed : WellFormed (netlist_of h.inputs h.outputs (take h.cells column'))
  file_formed = rw file_is sound

  pub file_ordered : Ordered (cells_of (take h.cells column')) order
  file_ordered = rw file_cells file.ordered

-- of cells as words that were checked
module _ (I O : ℕ) (words : List ℕ) {h : Header} {order : List ℕ} (d : DidCheck (judge_cells I O words) (Ok h) order) where
  cells : Accepts (judge_cells I O words) h order
  cells = accepts d

  right : CellsRight I O words cells.found_as.net
  right = cells_right I O words cells.found_as.is

  pub cells_formed : WellFormed (netlist_of I O words)
  cells_formed = subst WellFormed right.is right.sound

  pub cells_ordered : Ordered (cells_of words) order
  cells_ordered = subst (λ (w : Netlist). Ordered w.cells order) right.is cells.ordered

-- The accepted files are those that spell the well-formed netlists whose cells have an order ..
pub accepted_file : (s : List ℕ) {w : Netlist} → Bytes s → ChecksFile s (netlist w) → ((n : ℕ) × FileSpelled s w n) × WellFormed w
accepted_file s are c = (file_spelled s are (accepted_found c), read_well_formed s (accepted_found c))

pub file_accepted : {s : List ℕ} {w : Netlist} {n : ℕ} (order : List ℕ) → FileSpelled s w n → WellFormed w → Ordered w.cells order
    → ChecksFile s (netlist w)
file_accepted order spelled h ordered = accepted order (spelled_read spelled h) ordered

-- .. and what is written is one of them.
pub written_accepted : (w : Netlist) (order : List ℕ) → WellFormed w → Ordered w.cells order → ChecksFile (file_bytes w) (netlist w)
written_accepted w order h ordered = file_accepted order (file_new w) h ordered
