-- A netlist that was judged can be ordered and run; what a check answers, and that there is no other answer.
use Prim.Native.Nat.{ℕ, ◌≤◌}
use mathlib.Core.Path.{◌≡◌, refl, sym, ap, ◌∙◌, subst}
use mathlib.Core.List.{List, map}
use native.Mathlib.Omega.{arith}
use lib.ListN.{length, take}
use lib.Seq.{sets, length-sets}
use Rattle.number.specs.declared.CellNo.{CellNo}
use Rattle.number.specs.declared.Fault.{Fault}
use Rattle.number.specs.declared.Refusal.TheVariants.{Cycle as CycleFault}
use Rattle.number.specs.Counts.{of_cell}
use Rattle.number.specs.Refusals.{fault}
use Rattle.limits.specs.Limits.{max_cells}
use Rattle.cells.specs.declared.Cell.{Cell}
use Rattle.cells.specs.Words.{word, cells_of}
use Rattle.cells.specs.Netlist.{Netlist, WellFormed}
use Rattle.cells.proofs.Words.{stored_cells}
use Rattle.cells.proofs.Fitting.{formed_closed, formed_small}
use Rattle.order.specs.Paths.{Lowest, Orderable, Ordered, Answers}
use Rattle.order.proofs.Unique.{ordered_acyclic, lowest_unique}
use Rattle.files.specs.declared.Header.{Header}
use Rattle.files.specs.Read.{FileOutcome, netlist, faulty, read_file}
use Rattle.netlists.specs.Words.{judge_cells}
use Rattle.netlists.specs.Check.{NetChecks, refused, cyclic, accepted, ChecksFile, ChecksCells}
use Rattle.files.specs.Answer.{header_of, file_answer, FileLaid, DidFile}
use Rattle.netlists.specs.Checked.{IsOrdered, DidCheck, DidCheckFile}
use Rattle.files.proofs.Sound.{read_well_formed}
use Rattle.netlists.proofs.Words.{CellsRight, cells_right}
use Rattle.order.specs.declared.Cycle.{Cycle}
use Rattle.std.specs.Prelude.{Result, Ok, Err}

module _ {w : Netlist} (h : WellFormed w) where
  -- the words that were laid mean the cells
  pub laid_cells : {k : ℕ} (column : List ℕ) {column' : List ℕ} → k ≡ length w.cells → column' ≡ sets column 0 (map word w.cells)
      → max_cells ≤ length column → cells_of (take k column') ≡ w.cells
  laid_cells {k} column {column'} count laid long =
      ap (λ (n : ℕ). cells_of (take n column')) count ∙ ap (λ (l : List ℕ). cells_of (take (length w.cells) l)) laid
      ∙ stored_cells w.cells column (formed_small h) (omega (arith, h.few))

  -- all that the search for an order asks for
  orderable : {order : List ℕ} → max_cells ≤ length order → Orderable w.cells order
  orderable places = record { closed = formed_closed h; few = h.few; long = omega (arith, h.few) }

-- what was found before CYCLE, by what was answered
pub answered_fault : (o : FileOutcome) {f : Fault} → file_answer o ≡ Err f → o ≡ faulty f
unfolding file_answer
answered_fault (faulty g) e = cc
answered_fault (netlist w) e = cc

pub record Answered (o : FileOutcome) (h : Header) : Type 0 where
  pub net : Netlist
  pub is : o ≡ netlist net
  pub header : h ≡ header_of net

pub answered_netlist : (o : FileOutcome) {h : Header} → file_answer o ≡ Ok h → Answered o h
unfolding file_answer
answered_netlist (faulty f) e = cc
answered_netlist (netlist w) e = record { net = w; is = refl; header = cc }

-- its fault comes first
pub check_stop : {found : FileOutcome} {f : Fault} {order : List ℕ} → file_answer found ≡ Err f → DidCheck found (Err f) order
unfolding file_answer IsOrdered
check_stop {found} {f} e =
    record { outcome = faulty f; checks = refused (answered_fault found e); answer = refl; ordered = tt }

-- then CYCLE
pub check_cyclic : {found : FileOutcome} {h : Header} {order : List ℕ} {k : Cycle} (a : Answered found h) → Answers a.net.cells order (Err k)
    → DidCheck found (Err (fault CycleFault (of_cell k.lowest))) order
unfolding file_answer IsOrdered
check_cyclic {k = k} a o =
    record {
      outcome = faulty (fault CycleFault (of_cell k.lowest));
      checks = cyclic a.is (o.cycle k refl);
      answer = refl;
      ordered = tt;
    }

pub check_ordered : {found : FileOutcome} {h : Header} {order : List ℕ} (a : Answered found h) → Answers a.net.cells order (Ok (tt {0}))
    → DidCheck found (Ok h) order
unfolding file_answer IsOrdered
check_ordered {order = order} a o =
    let ordered : Ordered a.net.cells order = o.found refl in
    record { outcome = netlist a.net; checks = accepted order a.is ordered; answer = ap Ok a.header; ordered = ordered }

-- The two checks: what was read or judged is searched for an order.
module _ (s : List ℕ) {r : Result Header Fault} {column column' : List ℕ} (d : DidFile (read_file s) r column column') {h : Header} (e : r ≡ Ok h)
    (long : max_cells ≤ length column) where
  file : Answered (read_file s) h
  file = answered_netlist (read_file s) (sym d.answer ∙ e)

  abbrev cells : List Cell
  cells = file.net.cells

  sound : WellFormed file.net
  sound = read_well_formed s file.is

  laid : column' ≡ sets column 0 (map word cells)
  unfolding FileLaid
  laid = rw file.is at d.laid

  count : h.cells ≡ length cells
  count = ap (λ (k : Header). k.cells) file.header

  pub file_inside : h.cells ≤ length column'
  file_inside = omega (arith, count, sound.few, ap length laid, length-sets column 0 (map word cells))

  same : cells_of (take h.cells column') ≡ cells
  same = laid_cells sound column count laid long

  pub file_orderable : {order : List ℕ} → max_cells ≤ length order → Orderable (cells_of (take h.cells column')) order
  file_orderable places = rw same (orderable sound places)

  pub file_cyclic : {order : List ℕ} {k : Cycle} → Answers (cells_of (take h.cells column')) order (Err k)
      → DidCheckFile (read_file s) (Err (fault CycleFault (of_cell k.lowest))) column column' order
  file_cyclic o = record { check = check_cyclic file (rw same at o); laid = d.laid }

  pub file_in_order : {order : List ℕ} → Answers (cells_of (take h.cells column')) order (Ok (tt {0}))
      → DidCheckFile (read_file s) (Ok h) column column' order
  file_in_order o = record { check = check_ordered file (rw same at o); laid = d.laid }

pub file_stopped : (s : List ℕ) {r : Result Header Fault} {column column' order : List ℕ} → DidFile (read_file s) r column column' → {f : Fault}
    → r ≡ Err f
    → DidCheckFile (read_file s) (Err f) column column' order
file_stopped s d e = record { check = check_stop (sym d.answer ∙ e); laid = d.laid }

module _ (I O : ℕ) (words : List ℕ) {r : Result Header Fault} (q : r ≡ file_answer (judge_cells I O words)) {h : Header} (e : r ≡ Ok h) where
  judged : Answered (judge_cells I O words) h
  judged = answered_netlist (judge_cells I O words) (sym q ∙ e)

  right : CellsRight I O words judged.net
  right = cells_right I O words judged.is

  same_words : judged.net.cells ≡ cells_of words
  same_words = ap (λ (w : Netlist). w.cells) right.is

  pub cells_orderable : {order : List ℕ} → max_cells ≤ length order → Orderable (cells_of words) order
  cells_orderable places = rw (← same_words) (orderable right.sound places)

  pub cells_cyclic : {order : List ℕ} {k : Cycle} → Answers (cells_of words) order (Err k)
      → DidCheck (judge_cells I O words) (Err (fault CycleFault (of_cell k.lowest))) order
  cells_cyclic o = check_cyclic judged (rw same_words o)

  pub cells_in_order : {order : List ℕ} → Answers (cells_of words) order (Ok (tt {0})) → DidCheck (judge_cells I O words) (Ok h) order
  cells_in_order o = check_ordered judged (rw same_words o)

-- There is one answer at most.
fault_net : {A : Type 0} {f : Fault} {w : Netlist} → faulty f ≡ netlist w → A
fault_net e = cc

own_net : {found : FileOutcome} {v w : Netlist} → found ≡ netlist v → found ≡ netlist w → v ≡ w
own_net a b = let same : netlist _ ≡ netlist _ = sym a ∙ b in cc

pub one_check : {found : FileOutcome} {o o' : FileOutcome} → NetChecks found o → NetChecks found o' → o ≡ o'
one_check (refused a) (refused b) = sym a ∙ b
one_check (refused a) (cyclic b lowest) = fault_net (sym a ∙ b)
one_check (refused a) (accepted order b ordered) = fault_net (sym a ∙ b)
one_check (cyclic a lowest) (refused b) = fault_net (sym b ∙ a)
one_check (cyclic {x = x} a lowest) (cyclic {x = y} b lowest') =
    let same : x ≡ y = lowest_unique lowest (subst (λ (u : Netlist). Lowest u.cells y) (own_net b a) lowest') in
    ap (λ (k : CellNo). faulty (fault CycleFault (of_cell k))) same
one_check (cyclic {x = x} a lowest) (accepted order b ordered) =
    absurd (ordered_acyclic ordered x (subst (λ (u : Netlist). Lowest u.cells x) (own_net a b) lowest).on)
one_check (accepted order a ordered) (refused b) = fault_net (sym b ∙ a)
one_check (accepted order a ordered) (cyclic {x = x} b lowest) =
    absurd (ordered_acyclic ordered x (subst (λ (u : Netlist). Lowest u.cells x) (own_net b a) lowest).on)
one_check (accepted order a ordered) (accepted order' b ordered') = sym a ∙ b

-- of a file, and of cells as words
pub one_file_check : (s : List ℕ) {o o' : FileOutcome} → ChecksFile s o → ChecksFile s o' → o ≡ o'
one_file_check s = one_check

pub one_cells_check : (I O : ℕ) (words : List ℕ) {o o' : FileOutcome} → ChecksCells I O words o → ChecksCells I O words o' → o ≡ o'
one_cells_check I O words = one_check
